use Rattle.std.proofs.Common.{◌≡◌, ℕ, List, ◌++◌, append_assoc, codes}
use Rattle.shop_model.specs.pages.Forms.{login_form}
use Rattle.shop_model.specs.pages.PageText.{block_text, field_text}
use Rattle.shop_draft.proofs.template.Template.login_form.Goals as goal

-- a form to a path with a value in its first field
valued_form : (tag path quote front value more rest close feed old s1 s2 s3 s4 s5 now : List ℕ) → s1 ≡ old ++ (tag ++ path) → s2 ≡ s1 ++ (quote ++ front)
    → s3 ≡ s2 ++ value → s4 ≡ s3 ++ (quote ++ more) → s5 ≡ s4 ++ rest → now ≡ s5 ++ (close ++ feed)
    → now ≡ old ++ ((tag ++ path ++ quote ++ ((front ++ value ++ quote) ++ (more ++ rest)) ++ close) ++ feed)
valued_form tag path quote front value more rest close feed old s1 s2 s3 s4 s5 now is1 is2 is3 is4 is5 is =
    rw (is, is5, is4, is3, is2, is1) (simp append_assoc)

pub returns : goal.returns
unfolding block_text field_text login_form
returns c row is drawn =
    rw is
    (valued_form (codes "<form action=\"") _ (codes "\">") (codes "<input name=\"user\" value=\"") _ (codes "<input name=\"pass\" value=\"\">")
    _ (codes "</form>") (codes "\n") _ _ _ _ _ _ _
    (c.in_ok-plain.ensures drawn) (c.in_ok-put.ensures drawn) (c.in_ok-put_maybe_user.ensures drawn) (c.in_ok-put-2.ensures drawn)
    (c.in_ok-id_fields.ensures drawn) (c.in_ok-put-3.ensures drawn))
