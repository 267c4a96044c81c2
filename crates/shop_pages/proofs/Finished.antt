-- A head and a filled draft are the reply with its page.
use Rattle.std.proofs.Common.{◌≡◌, ℕ, List, ◌++◌, length, refl}
use Rattle.shop_model.specs.declared.page.Page.{Page}
use Rattle.shop_history.specs.declared.acts.Drawn.{Drawn}
use Rattle.shop_draft.specs.declared.draft.Draft.{Draft}
use Rattle.shop_draft.specs.Pages.{IsPage}
use Rattle.shop_draft.specs.Templates.{filled}
use Rattle.shop_pages.specs.declared.reply.Form.{Form}
use Rattle.shop_pages.specs.Replies.{reply, reply_head, body_of}

-- what is written in turn
pub finished : (draft : Draft) (drawn : Drawn) (page : Page) (form : Form) (len : ℕ) (head now : List ℕ) → IsPage draft drawn page
    → len ≡ length (filled drawn draft.page) → head ≡ reply_head draft.status len form → now ≡ head ++ body_of (filled drawn draft.page) form → now ≡ reply page form
unfolding reply
finished draft drawn page form len head now is size is_head is_now = rw (is_now, is_head, size, is.text, is.status) refl
