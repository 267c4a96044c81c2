use Rattle.std.proofs.Common.{◌≡◌, ℕ, ◌≤◌, List, [], ◌∷◌, ◌++◌, length, map, All, sym, ◌∙◌, ap, subst, arith, length-append}
use Rattle.std.proofs.lemmas.List.{take_all}
use Rattle.std.proofs.lemmas.List.Elements.{All-push}
use Rattle.shop_model.specs.rows.Sound.{IsQuantity}
use Rattle.shop_attempt.specs.declared.attempts.ReadOf.{ReadOf}
use Rattle.shop_pricing.specs.Totals.{IsPriced}
use Rattle.shop_order.specs.BuyerPage.{priced_line}
use Rattle.shop_order.specs.Table.{cost_in}
use Rattle.shop_order.proofs.TableLemmas.{line_at}
use Rattle.shop_order.proofs.BuyerPageLemmas.{priced_more}
use Rattle.shop_order.proofs.buyer_page.priced.Goals as goal

pub loop-place-preserved : goal.loop-place-preserved
loop-place-preserved c =
    let i : ℕ = c.loop-place.place in
    let lines : List (ℕ × ℕ) = c.args.lines.now in
    let read : ReadOf = c.index-items-place.result in
    let line : ℕ × ℕ × ℕ = ((line_at lines i).0, (line_at lines i).1, cost_in read.row) in
    let cost : c.cost.result ≡ cost_in read.row = c.cost.ensures.value ∙ ap (λ (r : ReadOf). cost_in r.row) (sym c.index-items-place.is) in
    let added : c.push.new.self ≡ c.loop-place.priced ++ line ∷ []
    = c.in_ok-push.ensures.ok ∙ ap (λ n. c.loop-place.priced ++ ((line_at lines i).0, (line_at lines i).1, n) ∷ []) cost in
    let few : IsQuantity (line_at lines i).1 = c.requires.lines.quantities i (0, 0) c.loop-place-test.true in
    let most = subst (λ n. n ≤ 999_999) cost c.cost.ensures.most in
    record {
      many = omega (arith, ap (λ (p : List (ℕ × ℕ × ℕ)). length p) added, length-append c.loop-place.priced (line ∷ []), c.loop-place.invariant.many);
      bounded = subst (All IsPriced) (sym added) (All-push IsPriced c.loop-place.priced line c.loop-place.invariant.bounded (record { quantity = few.few; cost = most }));
      are = λ t shows. added ∙ priced_more lines c.args.items.now i read c.requires.items c.loop-place-test.true c.index-items-place.is c.loop-place.priced c.loop-place.invariant.are t shows;
    }

pub returns : goal.returns
returns c = record {
  bounded = record { few = omega (arith, c.loop-place.invariant.many, c.requires.lines.few, c.loop-place.auto.place-end); each = c.loop-place.invariant.bounded };
  are = λ t shows.
      c.loop-place.invariant.are t shows
      ∙ ap (λ (lines : List (ℕ × ℕ)). map (priced_line t) lines) (take_all c.loop-place.place c.args.lines.now c.loop-place-test.false);
}
