use Rattle.std.proofs.Common.{◌++◌, ◌∷◌, [], codes, refl}
use Rattle.std.proofs.lemmas.Result.{on_ok_weaker}
use Rattle.shop_model.specs.pages.Targets.{pairs}
use Rattle.shop_model.specs.pages.Forms.{text_field}
use Rattle.shop_browsers.specs.Requests as spec
use Rattle.shop_browsers.proofs.Added.{added, adds_last}
use Rattle.shop_browsers.proofs.browser.Browser.push_subject.Goals as goal

pub returns : goal.returns
unfolding pairs
returns c =
    let subject = spec.subject_drawn c.args.self.now in
    let given = rw c.subject_drawn.ensures at c.in_ok-push_field.ensures in
    on_ok_weaker c.push_more_ids.result
    (λ last. adds_last _ _ _ _ _ _ _ (added _ _ (codes "?subject=" ++ subject) (codes "?") (text_field (codes "subject") subject ∷ []) given (λ more. refl)) last)
    c.push_more_ids.ensures
