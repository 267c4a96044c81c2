use Rattle.std.proofs.Common.{◌+◌, ◌%◌, List, ◌++◌, ◌∷◌, [], codes, decimal, refl}
use Rattle.std.proofs.lemmas.Result.{on_ok_weaker}
use Rattle.shop_model.specs.declared.page.Field.{Field}
use Rattle.shop_model.specs.pages.Targets.{pairs}
use Rattle.shop_model.specs.pages.Forms.{text_field}
use Rattle.shop_browsers.specs.Browsers.{word_at}
use Rattle.shop_browsers.proofs.Added.{added, adds_both, adds_last}
use Rattle.shop_browsers.proofs.browser.Browser.push_change.Goals as goal

pub returns : goal.returns
unfolding pairs
returns c =
    let cost = decimal (100 + word_at c.args.self.now 2 % 9900) in
    let cost_is = rw c.word.ensures at c.in_ok-push_number.ensures in
    let costs = added _ _ (codes "&cost=" ++ cost) (codes "&") (text_field (codes "cost") cost ∷ []) cost_is (λ more. refl) in
    let images : List Field = text_field (codes "image") (codes "/img/new.gif") ∷ text_field (codes "thumb") (codes "/img/newthumb.gif") ∷ [] in
    let pictures = added _ _ (codes "&image=/img/new.gif&thumb=/img/newthumb.gif") (codes "&") images c.in_ok-push.ensures.ok (λ more. refl) in
    let all = adds_both _ _ _ _ _ _ _ _ (adds_both _ _ _ _ _ _ _ _ c.in_ok-push_item.ensures costs) pictures in
    on_ok_weaker c.push_more_ids.result (λ last. adds_last _ _ _ _ _ _ _ all last) c.push_more_ids.ensures
