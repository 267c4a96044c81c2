use Rattle.std.proofs.Common.{◌++◌, ◌∷◌, [], codes, decimal, refl, sym, ◌∙◌}
use Rattle.std.proofs.lemmas.Result.{on_ok_weaker}
use Rattle.shop_model.specs.pages.Targets.{pairs, id_fields, number_field}
use Rattle.shop_browsers.proofs.Added.{added, adds_all, adds_both, id_added, id_last}
use Rattle.shop_browsers.proofs.browser.Browser.push_ids.Goals as goal

pub returns-in-None : goal.returns-in-None
unfolding id_fields
returns-in-None c =
    let none = sym c.customer.ensures ∙ c.in-None.is in
    on_ok_weaker c.push_id.result (λ pushed. rw none (id_last _ _ (codes "?") (codes "cart") c.args.self.now.cart (rw c.cart.ensures at pushed))) c.push_id.ensures

pub returns-in_ok-push_number-in-Some : goal.returns-in_ok-push_number-in-Some
unfolding pairs id_fields
returns-in_ok-push_number-in-Some c =
    let id = c.in-Some.customer in
    let some = sym c.customer.ensures ∙ c.in-Some.is in
    let first =
    added _ _ (codes "?c=" ++ decimal id) (codes "?") (number_field (codes "c") id ∷ []) c.in_ok-push_number-in-Some.ensures (λ more. refl) in
    on_ok_weaker c.push_id-in-Some.result
    (λ pushed. rw some (adds_all _ _ _ _ _ (adds_both _ _ _ _ _ _ _ _ first (id_added _ _ (codes "cart") c.args.self.now.cart (rw c.cart-in-Some.ensures at pushed)))))
    c.push_id-in-Some.ensures
