use Rattle.std.proofs.Common.{◌++◌, ◌∷◌, [], codes, refl}
use Rattle.std.proofs.lemmas.Result.{on_ok_weaker}
use Rattle.shop_model.specs.pages.Targets.{pairs}
use Rattle.shop_model.specs.pages.Forms.{text_field}
use Rattle.shop_model.specs.asked.Kinds.{kind_name}
use Rattle.shop_browsers.specs.Requests as spec
use Rattle.shop_browsers.proofs.Added.{added, adds_both, adds_last}
use Rattle.shop_browsers.proofs.browser.Browser.push_search.Goals as goal

pub returns : goal.returns
unfolding pairs
returns c =
    let b = c.args.self.now in
    let kind = kind_name (spec.kind_drawn b) in
    let text = spec.text_drawn b (spec.kind_drawn b) in
    let first = rw (c.name.ensures.name, c.kind_drawn-kind.ensures) at c.in_ok-push_field.ensures in
    let second = rw (c.text_drawn.ensures, c.kind_drawn-kind.ensures) at c.in_ok-push_field-2.ensures in
    let kinds = added _ _ (codes "?kind=" ++ kind) (codes "?") (text_field (codes "kind") kind ∷ []) first (λ more. refl) in
    let texts = added _ _ (codes "&text=" ++ text) (codes "&") (text_field (codes "text") text ∷ []) second (λ more. refl) in
    on_ok_weaker c.push_more_ids.result (λ last. adds_last _ _ _ _ _ _ _ (adds_both _ _ _ _ _ _ _ _ kinds texts) last) c.push_more_ids.ensures
