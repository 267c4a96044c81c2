use Rattle.std.proofs.Common.{◌≡◌, ◌%◌, ◌==◌, codes, true, false, ap, ◌∙◌}
use Rattle.std.specs.Prelude.{if◌then◌else◌}
use Rattle.std.specs.Option.{is_some}
use Rattle.std.proofs.lemmas.Bool.{ne_eqb}
use Rattle.std.proofs.lemmas.Result.{on_ok_weaker}
use Rattle.shop_browsers.specs.Browsers.{word_at}
use Rattle.shop_browsers.proofs.Added.{adds_all, adds_both, adds_last, id_last, id_behind}
use Rattle.shop_browsers.proofs.browser.Browser.push_buyer.Goals as goal

pub returns-then-word-eq0 : goal.returns-then-word-eq0
returns-then-word-eq0 c =
    let cart = c.args.self.now.cart in
    let added = id_behind _ _ (codes "cart") cart (id_last _ _ (codes "?") (codes "cart") cart (rw c.cart.ensures at c.in_ok-push_id.ensures)) in
    let sign = c.sign_behind-sign.ensures ∙ ap (λ b. if b then codes "&" else codes "?") (c.is_some.ensures ∙ ap is_some c.cart-2.ensures) in
    let first : (word_at c.args.self.now 3 % 5 == 0) ≡ true = ap (λ n. n == 0) (rw c.word.ensures at c.if-word-eq0.true) in
    on_ok_weaker c.push_newcomer.result (λ newcomer. rw first (adds_last _ _ _ _ _ _ _ added (rw sign at newcomer))) c.push_newcomer.ensures

pub returns-else-word-eq0 : goal.returns-else-word-eq0
returns-else-word-eq0 c =
    let cart = c.args.self.now.cart in
    let added = id_behind _ _ (codes "cart") cart (id_last _ _ (codes "?") (codes "cart") cart (rw c.cart.ensures at c.in_ok-push_id.ensures)) in
    let sign = c.sign_behind-sign.ensures ∙ ap (λ b. if b then codes "&" else codes "?") (c.is_some.ensures ∙ ap is_some c.cart-2.ensures) in
    let other : (word_at c.args.self.now 3 % 5 == 0) ≡ false = ne_eqb _ 0 (rw c.word.ensures at c.if-word-eq0.false) in
    on_ok_weaker c.push_login.result (λ login. rw other (adds_all _ _ _ _ _ (adds_both _ _ _ _ _ _ _ _ added (rw sign at login)))) c.push_login.ensures
