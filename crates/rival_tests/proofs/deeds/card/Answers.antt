use Rattle.std.proofs.Common.{refl, sym, subst}
use Rattle.shop_text.specs.Numbers.{number_of}
use Rattle.shop_model.specs.asked.Cards.{is_month, IsMonth}
use Rattle.rival_tests.proofs.deeds.card.Goals as goal

pub new-requires : goal.new-requires
unfolding is_month number_of
new-requires c = refl

pub invariant_of-result : goal.invariant_of-result
unfolding is_month number_of
invariant_of-result c = record {
  number = c.of_number.ensures.form;
  name = c.in_ok-filled.ensures;
  expiry = subst IsMonth (sym c.new.ensures) refl;
}
