use Rattle.std.proofs.Common.{◌++◌, ◌∷◌, [], codes, refl}
use Rattle.std.proofs.lemmas.Result.{on_ok_weaker}
use Rattle.shop_text.proofs.cited.Lists.{appended_twice}
use Rattle.shop_text.specs.Texts.{digsyl, digsyl_lower}
use Rattle.shop_model.specs.pages.Targets.{pairs}
use Rattle.shop_model.specs.pages.Forms.{text_field}
use Rattle.shop_browsers.specs.Requests as spec
use Rattle.shop_browsers.proofs.Added.{added, added_signed, adds_both}
use Rattle.shop_browsers.proofs.browser.Browser.push_login.Goals as goal

pub returns : goal.returns
unfolding pairs
returns c =
    let id = spec.customer_drawn c.args.self.now in
    let named = rw c.customer_drawn-id.ensures at c.in_ok-push_digsyl.ensures.ok in
    let user = added_signed _ _ _ c.args.sign.now (codes "user") (digsyl id) c.in_ok-push.ensures.ok (appended_twice _ _ _ (codes "user=") (digsyl id) c.in_ok-push-2.ensures.ok named) in
    on_ok_weaker c.push_digsyl_lower.result
    (λ last.
    let whole = appended_twice _ _ _ (codes "&pass=") (digsyl_lower id) c.in_ok-push-3.ensures.ok (rw c.customer_drawn-id.ensures at last) in
    adds_both _ _ _ _ _ _ _ _ user (added _ _ (codes "&pass=" ++ digsyl_lower id) (codes "&") (text_field (codes "pass") (digsyl_lower id) ∷ []) whole (λ more. refl)))
    c.push_digsyl_lower.ensures.ok
