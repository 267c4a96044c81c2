-- What a poll for the next link does: to the links, where they are known, and to the counts.
use Rattle.std.specs.Prelude.{ℕ, ◌≤◌}
use Rattle.futures.specs.declared.task.Poll.{Poll}
use Rattle.futures.specs.declared.task.Poll.TheVariants.{Ready, Pending}
use Rattle.shop_edges.specs.Causes.{Rose}
use Rattle.shop_edges.specs.Links.{LinkCause, Links, gave, links_after}
use Rattle.shop_edges.specs.declared.listener.Linked.{Linked}

module _ {I O : Type 0} where
  -- a poll that is put off gives no link
  abbrev pub gave_polled : Poll (Linked I O) → Links I O → Links I O
  gave_polled (Ready result) l = gave result l
  gave_polled Pending l = l

  -- it counts none
  abbrev pub links_polled : Poll (Linked I O) → ℕ → ℕ
  links_polled (Ready result) count = links_after result count
  links_polled Pending count = count

  -- and it does not fail
  abbrev pub PolledCause : ℕ → ℕ → Poll (Linked I O) → Type 0
  PolledCause before now (Ready result) = LinkCause before now result
  PolledCause before now Pending = before ≤ now

-- the count of waits never falls, and a poll is put off only where it rose
abbrev pub WaitCause : {A : Type 0} → ℕ → ℕ → Poll A → Type 0
WaitCause before now (Ready x) = before ≤ now
WaitCause before now Pending = (before ≤ now) × Rose before now
