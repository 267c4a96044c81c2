-- What contracts see of a reply that is made.
use Rattle.std.specs.Prelude.{ℕ, Bool, ◌+◌, ◌≤◌, List, ◌++◌, if◌then◌else◌}
use Rattle.shop_draft.specs.declared.draft.Draft.{Draft}
use Rattle.shop_draft.specs.Outs.{OutState}
use Rattle.shop_draft.specs.Templates.{TemplateState, template_room}

-- the most bytes of a head; the longest phrase has 31
abbrev pub head_room : ℕ
head_room = 191

-- what is sent: head and page as they stand in a draft's own room, or else what a buffer has
abbrev pub sent_by : Bool → TemplateState → OutState → List ℕ
sent_by whole page out = if whole then page.head ++ page.text else out.bytes

-- the draft of the next reply, whether the last one stands in its room, the buffer where it does not
pub record ReplyState : Type 0 where
  pub draft : Draft
  pub whole : Bool
  pub out : OutState

-- the reply that was made last
abbrev pub bytes_of : ReplyState → List ℕ
bytes_of s = sent_by s.whole s.draft.page s.out

-- there is room for the reply to the draft, whatever is drawn for it
abbrev pub IsReserved : ReplyState → Type 0
IsReserved s = head_room + template_room s.draft.page ≤ s.out.room
