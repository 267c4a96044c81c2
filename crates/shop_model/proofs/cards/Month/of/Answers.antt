use Rattle.std.proofs.Common.{◌∙◌, sym}
use Rattle.shop_model.proofs.cited.Cards.{month_size}
use Rattle.shop_model.proofs.cards.Month.of.Goals as goal

pub copy_from_slice-requires : goal.copy_from_slice-requires
copy_from_slice-requires c = sym (month_size c.args.bytes.now (sym c.is_month.ensures ∙ c.if-not-is_month.false))
