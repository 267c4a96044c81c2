-- What a reply is once its draft was lent.
use Rattle.std.specs.Borrow.{Lends, MutBor, Fml}
use Rattle.shop_draft.specs.declared.draft.Draft.{Draft}
use Rattle.shop_draft.specs.contracts.draft.Draft as draft
use Rattle.shop_pages.specs.contracts.reply.Reply as reply
use Rattle.shop_pages.specs.ReplyStates.{ReplyState}

-- its draft is what was left there, and all else stays
abbrev pub LendsDraft : MutBor ReplyState → MutBor Draft → Fml
LendsDraft s r = Lends reply.the_row draft.the_row s r (λ w. record s.now { draft = w })
