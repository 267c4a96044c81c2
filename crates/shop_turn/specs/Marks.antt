-- What a mark of a seat says of the log.
use Rattle.std.specs.Prelude.{ℕ, ◌≤◌, List, length, drop, All}
use Rattle.shop_history.specs.declared.acts.Entry.{Entry}

-- each entry behind a mark's front has a stamp of at least its moment, and so will the next
pub record MarkFits (log : List Entry) (latest : ℕ) (mark : ℕ × ℕ) : Type 0 where
  pub front : mark.0 ≤ length log
  pub moment : mark.1 ≤ latest
  pub above : All (λ e. mark.1 ≤ e.stamp) (drop mark.0 log)
