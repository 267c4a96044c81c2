use Rattle.std.proofs.Common.{◌≡◌, ℕ, List, ◌++◌, append_assoc, codes, refl}
use Rattle.shop_text.specs.Escape.{escape}
use Rattle.shop_text.proofs.cited.Plain.{escape_append}
use Rattle.shop_model.specs.pages.BuyRequest.{payment_form}
use Rattle.shop_model.specs.pages.PageText.{block_text, field_text}
use Rattle.shop_draft.proofs.template.Template.payment_form.Goals as goal

-- a form with two values and a word between them in its third field
named_form : (tag one two front space quote more rest close feed old s1 s2 s3 s4 now a b : List ℕ) → escape space ≡ space
    → s1 ≡ old ++ (tag ++ one ++ two ++ front ++ escape a) → s2 ≡ s1 ++ (space ++ escape b) → s3 ≡ s2 ++ (quote ++ more) → s4 ≡ s3 ++ rest → now ≡ s4 ++ (close ++ feed)
    → now ≡ old ++ ((tag ++ (one ++ (two ++ ((front ++ escape (a ++ space ++ b) ++ quote) ++ (more ++ rest)))) ++ close) ++ feed)
named_form tag one two front space quote more rest close feed old s1 s2 s3 s4 now a b is_space is1 is2 is3 is4 is =
    rw (is, is4, is3, is2, is1, escape_append (a ++ space) b, escape_append a space, is_space) (simp append_assoc)

pub returns : goal.returns
unfolding block_text field_text payment_form
returns c row is drawn =
    rw (is.first_is, is.last_is)
    (named_form (codes "<form action=\"/buy_confirm\">") (codes "<input name=\"card\" value=\"VISA\">") (codes "<input name=\"number\" value=\"\">")
    (codes "<input name=\"name\" value=\"") (codes " ") (codes "\">") (codes "<input name=\"expiry\" value=\"\">") _ (codes "</form>") (codes "\n")
    _ _ _ _ _ _ c.args.first.now c.args.last.now refl
    (c.in_ok-escaped.ensures drawn) (c.in_ok-escaped-2.ensures drawn) (c.in_ok-put.ensures drawn) (c.in_ok-id_fields.ensures drawn) (c.in_ok-put-2.ensures drawn))
