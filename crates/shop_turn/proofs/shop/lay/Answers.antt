use Rattle.std.proofs.Common.{[], ap, ◌∙◌, arith, length, List, ℕ}
use Rattle.shop_turn.specs.declared.rule.Start.{Start}
use Rattle.shop_turn.specs.Views.{opening_view}
use Rattle.shop_turn.proofs.Plays.{begins_as}
use Rattle.shop_turn.proofs.shop.lay.Goals as goal

pub new-requires-2 : goal.new-requires-2
new-requires-2 c = begins_as c.args.book _ _ c.args.callers _ _ _ _ c.of.ensures c.from.ensures c.as_slice.ensures.value c.in_ok-share.ensures c.words_of.ensures.kept.bound c.in_ok-words.ensures.words c.in_ok-slots.ensures.shares

pub returns : goal.returns
returns c = let e = c.in-Ok.ensures.ok in rw c.in_ok-new.ensures.ok (record {
  at = record {
    table = e.2;
    words = e.0 ∙ ap (λ (ws : List ℕ). length ws) c.as_slice.ensures.value ∙ c.in_ok-words.ensures.words.wide;
    slots = e.1 ∙ c.in_ok-slots.ensures.count;
    few = omega (arith, c.ranges.callers.fits);
  };
  me = e.4 ∙ (λ i. (opening_view (c.of.ensures i) (c.from.ensures i), []));
  key_book = ap (λ (k : Start). k.book.value) e.5 ∙ c.of.ensures;
  key_callers = ap (λ (k : Start). k.callers) e.5 ∙ c.from.ensures;
  book_is = c.words_of.ensures.kept;
})
