use Rattle.std.proofs.Common.{◌++◌, ◌∷◌, [], codes, decimal, refl}
use Rattle.std.proofs.lemmas.Result.{on_ok_weaker}
use Rattle.shop_model.specs.pages.Targets.{pairs}
use Rattle.shop_browsers.specs.Requests as spec
use Rattle.shop_browsers.proofs.Added.{added}
use Rattle.shop_browsers.proofs.browser.Browser.push_item.Goals as goal

pub returns : goal.returns
unfolding pairs
returns c =
    let item = spec.item_drawn c.args.self.now in
    on_ok_weaker c.push_number.result
    (λ pushed. added _ _ (codes "?item=" ++ decimal item) (codes "?") (spec.item_field c.args.self.now ∷ []) (rw c.item_drawn.ensures at pushed) (λ more. refl))
    c.push_number.ensures
