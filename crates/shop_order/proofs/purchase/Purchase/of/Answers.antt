use Rattle.std.proofs.Common.{List, refl, sym, ◌∙◌, ap, subst}
use Rattle.shop_model.specs.rows.Rows.{CartRow}
use Rattle.shop_attempt.specs.declared.attempts.ReadOf.{ReadOf}
use Rattle.shop_order.specs.Purchases.{AreGoods, rate_in}
use Rattle.shop_order.proofs.PurchaseLemmas.{basket_of, customer_at, cart_at, ship_at, items_at, rest_at, enough, fit_seen, goods_seen}
use Rattle.shop_order.proofs.purchase.Purchase.of.Goals as goal

pub split_at-requires : goal.split_at-requires
split_at-requires c =
    let tax = c.args.tax in
    let asked = c.args.asked.now in
    let reads = c.args.reads.now in
    let basket = basket_of tax asked reads c.requires in
    let cart = cart_at tax asked reads basket c.index-reads-1.result c.in-Customer-Cart.cart c.in-Customer-Cart.is-1 in
    let lines = c.as_slice-lines.ensures ∙ c.get.ensures ∙ ap (λ (r : CartRow). r.lines) (c.cart.view_is ∙ cart) in
    enough tax asked reads basket c.as_slice-lines.result.now lines

pub returns-clause-purchase : goal.returns-clause-purchase
returns-clause-purchase c =
    let tax = c.args.tax in
    let asked = c.args.asked.now in
    let reads = c.args.reads.now in
    let basket = basket_of tax asked reads c.requires in
    let catalogue = c.requires.0 in
    let seen = c.requires.1.seen in
    let cart = cart_at tax asked reads basket c.index-reads-1.result c.in-Customer-Cart.cart c.in-Customer-Cart.is-1 in
    let lines = c.as_slice-lines.ensures ∙ c.get.ensures ∙ ap (λ (r : CartRow). r.lines) (c.cart.view_is ∙ cart) in
    let items = c.split_at.ensures.front ∙ items_at tax asked reads basket c.as_slice-lines.result.now lines in
    let rest = c.split_at.ensures.back ∙ rest_at tax asked reads basket c.as_slice-lines.result.now lines in
    record {
      same = refl;
      basket = basket;
      customer = customer_at tax asked reads basket c.index-reads-0.result c.in-Customer-Cart.customer c.in-Customer-Cart.is-0;
      lines = lines;
      ship = ap (λ (r : ReadOf). r.row) (ship_at tax asked reads basket c.index-reads-2.result);
      items = items;
      fit = fit_seen tax asked reads basket catalogue seen;
      goods = subst (λ (l : List ReadOf). AreGoods c.as_slice-lines.result.now l) (sym items) (subst (λ l. AreGoods l basket.items) (sym lines) (goods_seen tax asked reads basket catalogue seen));
      rate = c.rate_in.ensures.rate ∙ ap rate_in rest;
      rate_fits = c.rate_in.ensures.bound;
    }
