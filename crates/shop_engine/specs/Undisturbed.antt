-- Where nothing fails and others change little, every message has its answer.
use Rattle.std.specs.Prelude.{◌<◌, ◌==◌, not, List, length, drop, filter, All}
use Rattle.shop_attempt.specs.Seats.{Seat}
use Rattle.shop_engine.specs.declared.report.Point.{Point}
use Rattle.shop_engine.specs.declared.report.PointKind.{PointKind}
use Rattle.shop_engine.specs.declared.report.PointKind.TheVariants.{Busy, Full, GatewayFailed}

-- the log stayed below its limit, and fewer than eight entries of other callers came into it
pub record IsUndisturbed (old new : Seat) : Type 0 where
  pub room : length new.seen < new.limit
  pub few : length (filter (λ e. not (e.caller == new.caller)) (drop (length old.seen) new.seen)) < 8

-- an answer is a page of the shop, or tells a refusal of the message or of the purchase: rows did not keep changing,
-- the log was not full, and the gateway did not fail
abbrev pub IsWhole : PointKind → Type 0
IsWhole (Busy conflicts) = ⊥
IsWhole Full = ⊥
IsWhole GatewayFailed = ⊥
IsWhole _ = Unit {0}

abbrev pub AreWhole : List Point → Type 0
AreWhole points = All (λ p. IsWhole p.kind) points
