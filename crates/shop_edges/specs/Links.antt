-- What a listener tells of its links, where they are known, and its counts.
use Rattle.std.specs.Prelude.{◌≡◌, ℕ, ◌≤◌, List, [], ◌∷◌, ◌++◌}
use Rattle.shop_edges.specs.Causes.{Rose, count_up}
use Rattle.shop_edges.specs.declared.listener.Opened.{Opened}
use Rattle.shop_edges.specs.declared.listener.Opened.TheVariants as opens
use Rattle.shop_edges.specs.declared.listener.Linked.{Linked}
use Rattle.shop_edges.specs.declared.listener.Linked.TheVariants as links

-- a link that came back, and its number among those that were given, counted from 1
pub record Returned (I O : Type 0) : Type 0 where
  pub link : ℕ
  pub source : I
  pub sink : O

-- the links that were accepted, as they were given, and what came back, each in order
pub record Links (I O : Type 0) : Type 0 where
  pub given : List (I × O)
  pub back : List (Returned I O)

-- a link that was given, and none where there is none
abbrev pub given_of : {I O : Type 0} → Linked I O → List (I × O)
given_of (links.Linked source sink) = (source, sink) ∷ []
given_of links.Failed = []
given_of links.Memory = []

-- after a port was opened there are none
abbrev pub opened : {I O : Type 0} → Links I O → Links I O
opened l = record { given = []; back = [] }

-- a link that was given comes behind the others
abbrev pub gave : {I O : Type 0} → Linked I O → Links I O → Links I O
gave result l = record l { given = l.given ++ given_of result }

-- a link that came back comes behind the others
abbrev pub got_back : {I O : Type 0} → Returned I O → Links I O → Links I O
got_back link l = record l { back = l.back ++ link ∷ [] }

-- exactly a link that was given is counted
abbrev pub links_after : {I O : Type 0} → Linked I O → ℕ → ℕ
links_after (links.Linked source sink) count = count_up count
links_after links.Failed count = count
links_after links.Memory count = count

-- the count of faults never falls, and a port isn't opened only where it rose
pub record OpenCause (before now : ℕ) (result : Opened) : Type 0 where
  pub later : before ≤ now
  pub failed : result ≡ opens.Failed → Rose before now

-- the count of faults never falls, and a link fails only where it rose
pub record LinkCause {I O : Type 0} (before now : ℕ) (result : Linked I O) : Type 0 where
  pub later : before ≤ now
  pub failed : result ≡ links.Failed → Rose before now
