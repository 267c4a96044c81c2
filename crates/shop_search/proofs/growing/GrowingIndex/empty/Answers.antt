use Rattle.shop_search.proofs.GrowingLemmas.{hold_none}
use Rattle.shop_search.proofs.growing.GrowingIndex.empty.Goals as goal

pub invariant_of-result : goal.invariant_of-result
invariant_of-result c = record {
  held = hold_none _ _ _ _ _ c.new.ensures.items c.new-2.ensures.empty c.new-3.ensures.empty c.new-4.ensures.empty;
  ready = tt;
  place = λ some. absurd (cc);
}
