-- How often the gateway failed, by the points.
use Rattle.std.specs.Prelude.{ℕ, ◌+◌, ◌≤◌, min, List, sum_by}
use Rattle.shop_attempt.specs.Seats.{last_count}
use Rattle.shop_engine.specs.declared.report.Answered.{Answered}
use Rattle.shop_engine.specs.declared.report.Answered.TheVariants as answered
use Rattle.shop_engine.specs.declared.report.Point.{Point}
use Rattle.shop_engine.specs.declared.report.PointKind.{PointKind}
use Rattle.shop_engine.specs.declared.report.PointKind.TheVariants.{GatewayFailed}

-- how many failures of the gateway a point tells
abbrev pub failures_as : PointKind → ℕ
failures_as GatewayFailed = 1
failures_as _ = 0

-- how many points tell one
abbrev pub failures : List Point → ℕ
failures points = sum_by (λ p. failures_as p.kind) points

-- by what became of a message
abbrev pub failures_of : Answered → ℕ
failures_of (answered.Reply text point) = failures_as point.kind
failures_of answered.Memory = 0

-- a count rose by so many at least, or stands at its last value
abbrev pub RoseBy : ℕ → ℕ → ℕ → Type 0
RoseBy before more now = min (before + more) last_count ≤ now
