use Rattle.std.proofs.Common.{◌≡◌, List, ℕ, ◌++◌, append_assoc, codes, decimal, refl}
use Rattle.shop_text.specs.Escape.{escape}
use Rattle.shop_text.proofs.cited.Plain.{escape_append}
use Rattle.shop_model.specs.pages.Targets.{id_fields, pairs}
use Rattle.shop_draft.specs.Drawing.{ids_at}
use Rattle.shop_draft.specs.Links.{link_front}
use Rattle.shop_draft.proofs.template.Template.detail_front.Goals as goal

-- a target of plain bytes, a value and more, between two texts
value_target : (front plain close value more old s1 s2 now : List ℕ) → escape plain ≡ plain → s1 ≡ old ++ (front ++ plain ++ escape value) → s2 ≡ s1 ++ escape more
    → now ≡ s2 ++ close → now ≡ old ++ (front ++ escape (plain ++ (value ++ more)) ++ close)
value_target front plain close value more old s1 s2 now is_plain is1 is2 is =
    rw (is, is2, is1, escape_append plain (value ++ more), escape_append value more, is_plain) (simp append_assoc)

pub returns : goal.returns
unfolding link_front pairs
returns c drawn =
    value_target (codes "<a href=\"") (codes "/product_detail?item=") (codes "\">") (decimal c.args.item) (pairs (codes "&") (id_fields (ids_at drawn c.args.ids))) _ _ _ _ refl
    (rw c.from.ensures at (c.in_ok-number.ensures drawn)) (c.in_ok-more_ids.ensures drawn) (c.in_ok-put.ensures drawn)
