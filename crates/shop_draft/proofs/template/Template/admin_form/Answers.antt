use Rattle.std.proofs.Common.{◌≡◌, ℕ, List, ◌++◌, append_assoc, codes, decimal}
use Rattle.shop_text.specs.Escape.{escape}
use Rattle.shop_model.specs.pages.AdminRequest.{admin_form}
use Rattle.shop_model.specs.pages.PageText.{block_text, field_text}
use Rattle.shop_draft.proofs.template.Template.admin_form.Goals as goal

-- a form whose first four fields have values
four_fields : (tag f g h i quote rest close feed old s1 s2 s3 s4 s5 s6 now a b c d : List ℕ) → s1 ≡ old ++ (tag ++ f ++ a) → s2 ≡ s1 ++ (quote ++ g ++ b)
    → s3 ≡ s2 ++ (quote ++ h ++ c) → s4 ≡ s3 ++ (quote ++ i ++ d) → s5 ≡ s4 ++ quote → s6 ≡ s5 ++ rest → now ≡ s6 ++ (close ++ feed)
    → now ≡ old ++ ((tag ++ ((f ++ a ++ quote) ++ ((g ++ b ++ quote) ++ ((h ++ c ++ quote) ++ ((i ++ d ++ quote) ++ rest)))) ++ close) ++ feed)
four_fields tag f g h i quote rest close feed old s1 s2 s3 s4 s5 s6 now a b c d is1 is2 is3 is4 is5 is6 is =
    rw (is, is6, is5, is4, is3, is2, is1) (simp append_assoc)

pub returns : goal.returns
unfolding block_text field_text admin_form
returns c drawn =
    let i = c.item.inside in
    rw (← c.item.view_is)
    (four_fields (codes "<form action=\"/admin_confirm\">") (codes "<input name=\"item\" value=\"") (codes "<input name=\"cost\" value=\"")
    (codes "<input name=\"image\" value=\"") (codes "<input name=\"thumb\" value=\"") (codes "\">") _ (codes "</form>") (codes "\n")
    _ _ _ _ _ _ _ _ (escape (decimal i.id)) (escape (decimal i.details.cost)) (escape i.details.image) (escape i.details.thumb)
    (rw c.from.ensures at (c.in_ok-number.ensures drawn)) (rw c.get-details.ensures at (c.in_ok-number-2.ensures drawn))
    (rw c.get-details.ensures at (c.in_ok-text.ensures drawn)) (rw c.get-details.ensures at (c.in_ok-text-2.ensures drawn))
    (c.in_ok-put.ensures drawn) (c.in_ok-id_fields.ensures drawn) (c.in_ok-put-2.ensures drawn))
