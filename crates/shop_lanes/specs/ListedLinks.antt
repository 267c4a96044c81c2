-- Links of a list that are waited for, as contracts see them.
use Rattle.std.specs.Prelude.{◌≡◌, ℕ, ◌==◌, Bool, true, false, List, [], ◌∷◌, length, take}
use Rattle.std.specs.List.{list_any}
use Rattle.futures.specs.declared.task.Poll.{Poll}
use Rattle.futures.specs.declared.task.Poll.TheVariants.{Ready, Pending}
use Rattle.shop_edges.specs.Causes.{count_up}
use Rattle.shop_edges.specs.Links.{Links, Returned, gave, opened}
use Rattle.shop_edges.specs.declared.listener.Linked.{Linked}
use Rattle.shop_edges.specs.declared.listener.Linked.TheVariants as links
use Rattle.shop_edges.specs.declared.listener.Opened.{Opened}
use Rattle.shop_edges.specs.declared.listener.Opened.TheVariants as opens

-- the links that are left; the calls at which a poll is put off, and those that fail, counted from 1; how many links
-- that come back are kept; how many calls there were, how many were put off and how many failed; how many links were
-- given; and what it tells of them
pub record ListedLinks (I O : Type 0) : Type 0 where
  pub left : List (I × O)
  pub waits : List ℕ
  pub fails : List ℕ
  pub room : ℕ
  pub calls : ℕ
  pub put_off : ℕ
  pub faults : ℕ
  pub accepted : ℕ
  pub told : Links I O

module _ {I O : Type 0} where
  -- before the first call
  abbrev pub fresh : List (I × O) → List ℕ → List ℕ → ListedLinks I O
  fresh left waits fails = record {
    left = left;
    waits = waits;
    fails = fails;
    room = length left;
    calls = 0;
    put_off = 0;
    faults = 0;
    accepted = 0;
    told = record { given = []; back = [] };
  }

  -- the next call is listed
  abbrev pub is_listed : List ℕ → ListedLinks I O → Bool
  is_listed calls l = list_any (λ call. call == count_up l.calls) calls

  abbrev pub called : ListedLinks I O → ListedLinks I O
  called l = record l { calls = count_up l.calls }

  abbrev pub failed : ListedLinks I O → ListedLinks I O
  failed l = record l { calls = count_up l.calls; faults = count_up l.faults }

  abbrev pub waited : ListedLinks I O → ListedLinks I O
  waited l = record l { calls = count_up l.calls; put_off = count_up l.put_off }

  -- a port is opened but at a listed call; then no link was given yet
  abbrev pub Opens : ListedLinks I O → ListedLinks I O → Opened → Type 0
  Opens old new opens.Open = (is_listed old.fails old ≡ false) × (new ≡ record (called old) { told = opened old.told })
  Opens old new opens.Failed = (is_listed old.fails old ≡ true) × (new ≡ record (failed old) { told = opened old.told })

  -- a poll is put off exactly at a call that is listed so. Any other gives the next link, but where it is listed as one
  -- that fails, or where no link is left
  abbrev pub GivesNext : ListedLinks I O → ListedLinks I O → Poll (Linked I O) → Type 0
  GivesNext old new (Ready (links.Linked source sink)) = (is_listed old.waits old ≡ false) × (is_listed old.fails old ≡ false) × (old.left ≡ (source, sink) ∷ new.left)
      × (new ≡ record (called old) { left = new.left; accepted = count_up old.accepted; told = gave (links.Linked source sink) old.told })
  GivesNext old new (Ready links.Failed) = (is_listed old.waits old ≡ false) × (is_listed old.fails old ≡ false → old.left ≡ []) × (new ≡ failed old)
  GivesNext old new (Ready links.Memory) = ⊥
  GivesNext old new Pending = (is_listed old.waits old ≡ true) × (new ≡ waited old)

  -- the number of a link that came back, and its sides
  abbrev pub returned_of : ℕ × I × O → Returned I O
  returned_of back = record { link = back.0; source = back.1; sink = back.2 }

  -- what is kept of the links that came back: the first ones
  abbrev pub kept_of : ListedLinks I O → List (Returned I O)
  kept_of l = take l.room l.told.back
