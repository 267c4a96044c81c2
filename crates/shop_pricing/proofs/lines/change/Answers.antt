use Rattle.std.proofs.Common.{◌≡◌, ℕ, List, sym, ap, ◌∙◌, subst, refl, nat_eq, false, rules}
use Rattle.indexmap.specs.IndexMap.{shift_remove_entry}
use Rattle.shop_model.specs.trade.Carts.{set_line, is_too_many}
use Rattle.shop_pricing.specs.Bounds.{AreLines}
use Rattle.shop_pricing.proofs.Setting.{set_line-none, set_line_kept}
use Rattle.shop_pricing.proofs.lines.change.Goals as goal

-- no line more is needed for a quantity of 0
room : (item quantity : ℕ) (lines : List (ℕ × ℕ)) → quantity ≡ 0 → is_too_many item quantity lines ≡ false
room item quantity lines none = subst (λ n. is_too_many item n lines ≡ false) (sym none) refl

-- a removal is a set to 0
removed : (item quantity : ℕ) (inside old new : List (ℕ × ℕ)) → quantity ≡ 0 → inside ≡ old
    → new ≡ shift_remove_entry (nat_eq item) inside → new ≡ set_line item quantity old
removed item quantity inside old new none is made =
    made ∙ ap (λ (l : List (ℕ × ℕ)). shift_remove_entry (nat_eq item) l) is ∙ sym (set_line-none item old) ∙ ap (λ (q : ℕ). set_line item q old) (sym none)

pub invariant_of-lines : goal.invariant_of-lines
invariant_of-lines c =
    let old = c.args.lines.now in
    let none = c.if-quantity-eq0.true in
    subst AreLines (sym (removed c.args.item c.args.quantity _ old _ none c.lines.view_is c.shift_remove.ensures.entries))
    (set_line_kept c.args.item c.args.quantity old c.requires (room c.args.item c.args.quantity old none) (subst AreLines c.lines.view_is c.lines.invariant))

pub returns-then-quantity-eq0 : goal.returns-then-quantity-eq0
returns-then-quantity-eq0 c =
    let none = c.if-quantity-eq0.true in
    (room c.args.item c.args.quantity c.args.lines.now none, removed c.args.item c.args.quantity _ _ _ none c.lines.view_is c.shift_remove.ensures.entries)

pub put-requires-clause-room : goal.put-requires-clause-room
put-requires-clause-room c = search rules
