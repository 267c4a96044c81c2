use Rattle.std.proofs.Common.{codes}
use Rattle.std.proofs.lemmas.Result.{on_ok_weaker}
use Rattle.shop_model.specs.pages.Targets.{id_fields}
use Rattle.shop_browsers.proofs.Added.{adds_all, adds_both, id_added}
use Rattle.shop_browsers.proofs.browser.Browser.push_more_ids.Goals as goal

pub returns : goal.returns
unfolding id_fields
returns c =
    let b = c.args.self.now in
    let customer = id_added _ _ (codes "c") b.customer (rw c.customer.ensures at c.in_ok-push_id.ensures) in
    on_ok_weaker c.push_id-2.result
    (λ pushed. adds_all _ _ _ _ _ (adds_both _ _ _ _ _ _ _ _ customer (id_added _ _ (codes "cart") b.cart (rw c.cart.ensures at pushed))))
    c.push_id-2.ensures
