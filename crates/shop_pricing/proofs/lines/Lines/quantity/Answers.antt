use Rattle.std.proofs.Common.{◌≡◌, ℕ, List, Option, Some, None, sym, ap, ◌∙◌, subst, nat_eq, IfSome, unwrap_or}
use Rattle.std.specs.Map.{lookup}
use Rattle.std.proofs.lemmas.Map.Entries.{All-lookup}
use Rattle.shop_model.specs.trade.Carts.{quantity_of}
use Rattle.shop_model.specs.rows.Sound.{IsQuantity}
use Rattle.shop_pricing.proofs.lines.Lines.quantity.Goals as goal

-- what a look-up finds is the quantity
found : (item : ℕ) (inside lines : List (ℕ × ℕ)) (answer : Option ℕ) → answer ≡ lookup (nat_eq item) inside → inside ≡ lines
    → unwrap_or answer 0 ≡ quantity_of item lines
unfolding quantity_of
found item inside lines answer is same =
    ap (λ (o : Option ℕ). unwrap_or o 0) is ∙ ap (λ (l : List (ℕ × ℕ)). unwrap_or (lookup (nat_eq item) l) 0) same

pub returns-in-Some-clause-units : goal.returns-in-Some-clause-units
returns-in-Some-clause-units c = found c.args.item _ _ (Some c.in-Some.quantity.now) c.in-Some.ensures.value c.self.view_is

pub returns-in-Some-clause-most : goal.returns-in-Some-clause-most
returns-in-Some-clause-most c =
    let within : IfSome (lookup (nat_eq c.args.item) c.self.inside.quantities.entries) IsQuantity
    = All-lookup IsQuantity (nat_eq c.args.item) c.self.inside.quantities.entries c.self.invariant.quantities in
    let here : IsQuantity c.in-Some.quantity.now = subst (λ (o : Option ℕ). IfSome o IsQuantity) (sym c.in-Some.ensures.value) within in
    here.few

pub returns-in-None-clause-units : goal.returns-in-None-clause-units
returns-in-None-clause-units c = found c.args.item _ _ None c.in-None.ensures.value c.self.view_is
