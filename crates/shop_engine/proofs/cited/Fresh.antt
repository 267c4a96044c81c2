-- What a store has marked as fresh is.
use Rattle.std.proofs.Common.{ℕ, ◌+◌, ◌≤◌, List, drop, All, arith}
use Rattle.std.proofs.lemmas.List.Elements.{All-weaker}
use Rattle.shop_history.specs.declared.acts.Entry.{Entry}
use Rattle.shop_cache.specs.Caches.{age_limit}
use Rattle.shop_attempt.specs.Marks.{IsMark}
use Rattle.shop_engine.specs.declared.report.Point.{Point}
use Rattle.shop_engine.specs.declared.report.PointKind.{PointKind}
use Rattle.shop_engine.specs.declared.report.PointKind.TheVariants as kind
use Rattle.shop_engine.specs.Lists.{IsFresh, IsFreshAs, IsFreshPoint, IsMarkedFresh}
use Rattle.shop_engine.specs.Fresh.{IsFreshIn, IsFreshInAs}

pub is_fresh : (marked : ℕ → ℕ → Type 0) (log : List Entry) (front moment : ℕ) → IsMarkedFresh marked log front moment → IsFresh log front moment
is_fresh marked log front moment is =
    let mark : IsMark log front is.at = is.marks.are front is.at is.holds in
    record {
      within = mark.within;
      behind = All-weaker (λ (e : Entry). is.at ≤ e.stamp) (λ (e : Entry). moment ≤ e.stamp + age_limit) (λ e le. omega (arith, le, is.young)) (drop front log) mark.behind;
    }

fresh_by : (marked : ℕ → ℕ → Type 0) (log : List Entry) (point : Point) (of : PointKind) → IsFreshAs marked log point of → IsFreshInAs log point of
fresh_by marked log point kind.List is = is_fresh marked log point.front point.moment is
fresh_by marked log point kind.Plain is = tt
fresh_by marked log point kind.At is = tt
fresh_by marked log point kind.Change is = tt
fresh_by marked log point (kind.Busy conflicts) is = tt
fresh_by marked log point kind.Full is = tt
fresh_by marked log point (kind.Denied charge reason) is = tt
fresh_by marked log point kind.GatewayFailed is = tt

pub all_fresh : (marked : ℕ → ℕ → Type 0) (log : List Entry) (points : List Point) → All (IsFreshPoint marked log) points → All (IsFreshIn log) points
all_fresh marked log points = All-weaker (IsFreshPoint marked log) (IsFreshIn log) (λ p is. fresh_by marked log p p.kind is) points
