use Rattle.std.proofs.Common.{subst, sym, ◌∙◌}
use Rattle.shop_model.specs.asked.Cards.{IsCardNumber}
use Rattle.shop_model.proofs.cited.Cards.{decimal_is_card_number}
use Rattle.shop_model.proofs.cards.CardNumber.of_number.Goals as goal

pub new-requires : goal.new-requires
new-requires c = subst IsCardNumber (sym (c.as_bytes.ensures.value ∙ c.format.ensures.text)) (decimal_is_card_number c.args.number c.requires.long c.requires.short)
