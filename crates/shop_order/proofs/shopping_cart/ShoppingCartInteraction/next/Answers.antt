use Rattle.std.proofs.Common.{◌≡◌, List, drop, length, take, ◌-◌, Some, sym, ◌∙◌, ap, subst}
use Rattle.std.proofs.lemmas.Result.{IfOk-weaker}
use Rattle.shop_model.specs.asked.CartAsked.{CartAsked}
use Rattle.shop_attempt.specs.declared.attempts.ReadOf.{ReadOf}
use Rattle.shop_browse.specs.Driver.{AreSeen}
use Rattle.shop_browse.proofs.cited.Reads.{behind}
use Rattle.shop_order.specs.ShoppingCart.{behind_cart, IsChangeTo}
use Rattle.shop_order.proofs.ShoppingCartLemmas.{fit_seen, has_none, has_cart, next_for, has_all, changed}
use Rattle.shop_order.proofs.shopping_cart.ShoppingCartInteraction.next.Goals as goal

pub by_cart-requires-in-Some-cart-clause-fit : goal.by_cart-requires-in-Some-cart-clause-fit
by_cart-requires-in-Some-cart-clause-fit c =
    let asked = c.args.self.now.asked.now in
    let ask = c.args.ask.now in
    let cart = c.index-reads-1.result in
    let named = ap (λ (a : CartAsked). a.ids.cart) (sym c.asked.view_is) ∙ c.in-Some-cart.is in
    let has = has_cart asked _ ask c.args.round c.args.reads.now c.index-reads-0.result c.if-round-eq1.true c.requires.follows c.index-reads-0.is c.in-Some-cart.field-0 cart named c.index-reads-1.is in
    fit_seen asked ask (Some cart) has.named (subst (AreSeen ask.index.now) has.reads_are c.requires.seen).1

pub returns-in-None-cart-clause-next : goal.returns-in-None-cart-clause-next
returns-in-None-cart-clause-next c =
    let asked = c.args.self.now.asked.now in
    let ask = c.args.ask.now in
    let reads = c.args.reads.now in
    let named = ap (λ (a : CartAsked). a.ids.cart) (sym c.asked.view_is) ∙ c.in-None-cart.is in
    let has = has_none asked _ ask c.args.round reads c.index-reads-0.result c.if-round-eq1.true c.requires.follows c.index-reads-0.is named in
    IfOk-weaker c.by_cart.result _ _ (λ next is. next_for asked c.by_cart.new.kept ask c.args.round reads _ _ c.by_cart.new.draft next c.if-round-eq1.true has is) c.by_cart.ensures

pub returns-in-Some-cart-clause-next : goal.returns-in-Some-cart-clause-next
returns-in-Some-cart-clause-next c =
    let asked = c.args.self.now.asked.now in
    let ask = c.args.ask.now in
    let reads = c.args.reads.now in
    let named = ap (λ (a : CartAsked). a.ids.cart) (sym c.asked.view_is) ∙ c.in-Some-cart.is in
    let has = has_cart asked _ ask c.args.round reads c.index-reads-0.result c.if-round-eq1.true c.requires.follows c.index-reads-0.is c.in-Some-cart.field-0 c.index-reads-1.result named c.index-reads-1.is in
    IfOk-weaker c.by_cart-in-Some-cart.result _ _
    (λ next is. next_for asked c.by_cart-in-Some-cart.new.kept ask c.args.round reads _ _ c.by_cart-in-Some-cart.new.draft next c.if-round-eq1.true has is) c.by_cart-in-Some-cart.ensures

pub returns-clause-next : goal.returns-clause-next
returns-clause-next c =
    let asked = c.args.self.now.asked.now in
    let ask = c.args.ask.now in
    let reads = c.args.reads.now in
    let lines = c.in-Some-take.lines in
    let draft = c.change.new.draft in
    let has = has_all asked _ ask c.args.round reads c.if-round-eq0.false c.if-round-eq1.false c.requires.follows in
    let items =
    c.behind_cart-items.ensures
    ∙ ap (λ (a : CartAsked). behind_cart a.ids.cart (take (length reads - 1) (drop 1 reads))) c.asked.view_is
    ∙ ap (behind_cart asked.ids.cart) (behind reads ∙ ap (λ (l : List ReadOf). drop 1 l) has.reads_are) in
    let taken : Some lines ≡ Some has.items.lines = sym c.in-Some-take.is ∙ c.take.ensures.value ∙ has.items.kept_is in
    let same : lines ≡ has.items.lines = cc in
    IfOk-weaker c.change.result _ _
    (λ next change. changed asked _ c.take.new.self ask c.args.round reads lines draft next has same
    (subst (λ (l : List ReadOf). IsChangeTo asked ask.draw lines l draft next) items change)) c.change.ensures
