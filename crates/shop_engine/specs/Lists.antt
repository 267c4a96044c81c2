-- Lists that a worker keeps, and how fresh they are.
use Rattle.std.specs.Prelude.{ℕ, ◌+◌, ◌≤◌, List, length, drop, All, Option, Some, None}
use Rattle.shop_history.specs.declared.acts.Entry.{Entry}
use Rattle.shop_cache.specs.declared.keys.ListKey.{ListKey}
use Rattle.shop_cache.specs.Caches.{Entries, age_limit, looked}
use Rattle.shop_attempt.specs.Marks.{AreMarks}
use Rattle.shop_engine.specs.declared.report.Answered.{Answered}
use Rattle.shop_engine.specs.declared.report.Answered.TheVariants as answered
use Rattle.shop_engine.specs.declared.report.Point.{Point}
use Rattle.shop_engine.specs.declared.report.PointKind.{PointKind}
use Rattle.shop_engine.specs.declared.report.PointKind.TheVariants as kind

-- no change behind the front has a stamp of more than thirty seconds before the moment
pub record IsFresh (log : List Entry) (front moment : ℕ) : Type 0 where
  pub within : front ≤ length log
  pub behind : All (λ e. moment ≤ e.stamp + age_limit) (drop front log)

-- a store marked the front at a moment that is at most thirty seconds before this one, and what it marks are marks of
-- the log
pub record IsMarkedFresh (marked : ℕ → ℕ → Type 0) (log : List Entry) (front moment : ℕ) : Type 0 where
  pub at : ℕ
  pub holds : marked front at
  pub young : moment ≤ at + age_limit
  pub marks : AreMarks marked log

abbrev pub IsFreshAs : (ℕ → ℕ → Type 0) → List Entry → Point → PointKind → Type 0
IsFreshAs marked log point kind.List = IsMarkedFresh marked log point.front point.moment
IsFreshAs marked log point _ = Unit {0}

-- where the point is of a list that was kept
abbrev pub IsFreshPoint : (ℕ → ℕ → Type 0) → List Entry → Point → Type 0
IsFreshPoint marked log point = IsFreshAs marked log point point.kind

-- by what became of a message
abbrev pub AnswersFresh : (ℕ → ℕ → Type 0) → List Entry → Answered → Type 0
AnswersFresh marked log (answered.Reply text point) = IsFreshPoint marked log point
AnswersFresh marked log answered.Memory = Unit {0}

-- after a look, if a list is asked for
abbrev pub looked_for : Option ListKey → Entries → Entries
looked_for None entries = entries
looked_for (Some key) entries = looked key entries
