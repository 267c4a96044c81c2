use Rattle.std.proofs.Common.{◌≡◌, Option, option_map, sym, ◌∙◌, ap, subst}
use Rattle.shop_model.specs.rows.Rows.{OrderRow}
use Rattle.shop_history.specs.declared.keys.Key.TheVariants as key
use Rattle.shop_book.specs.declared.versions.Versions.{Versions}
use Rattle.shop_book.specs.Sales.{HaveSameUnits, BuysElse, RaisesBought}
use Rattle.shop_book.specs.Stored.{stored}
use Rattle.shop_book.proofs.BuyerLemmas.{both_raised}
use Rattle.shop_book.proofs.buyers.raise_bought.Goals as goal
use Rattle.shop_book.proofs.buyers.raise_bought.Goals.{else-gone-coming-via-then-gone-coming+else-have_same_units, else-gone-coming-via-else-gone-coming}

pub returns-clause-raised : goal.returns-clause-raised
returns-clause-raised c =
    let coming : OrderRow = c.args.coming.now in
    let gone : OrderRow = c.in-Some.gone.now in
    let old : Versions = c.args.versions.now in
    let mid : Versions = c.raise-2.new.self in
    let new : Versions = c.raise-3.new.self in
    let comer : c.coming.inside.customer ≡ coming.customer = ap (λ (o : OrderRow). o.customer) c.coming.view_is in
    let goer : c.gone.inside.customer ≡ gone.customer = ap (λ (o : OrderRow). o.customer) c.gone.view_is in
    let differ : gone.customer ≡ coming.customer → HaveSameUnits coming gone → ⊥ =
    elim c.else-gone-coming.branch as (λ _. gone.customer ≡ coming.customer → HaveSameUnits coming gone → ⊥) [
      | else-gone-coming-via-then-gone-coming+else-have_same_units w ↦ λ his. w.have_same_units.ensures.differ w.if-have_same_units.false
      | else-gone-coming-via-else-gone-coming w ↦ λ his same. w.if-gone-coming.false (goer ∙ his ∙ sym comer)
    ] in
    subst (λ (o : Option OrderRow). RaisesBought (BuysElse coming o) c.args.number (stored old) (stored new)) (sym (ap (option_map (λ order. order.now)) c.in-Some.is))
    (both_raised coming gone c.args.number (stored old) (stored mid) (stored new) differ
    (ap (λ n. stored mid (key.Bought n)) (sym comer) ∙ c.raise-2.ensures.here)
    (λ k apart. c.raise-2.ensures.others k (λ same. apart (same ∙ ap key.Bought comer)))
    (ap (λ n. stored new (key.Bought n)) (sym goer) ∙ c.raise-3.ensures.here)
    (λ k apart. c.raise-3.ensures.others k (λ same. apart (same ∙ ap key.Bought goer))))
