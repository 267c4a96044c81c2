use Rattle.std.proofs.Common.{◌∙◌, ap₂, sym}
use Rattle.shop_words.specs.Values.{larger_of_both}
use Rattle.shop_words.proofs.ScaleNames.{larger-is}
use Rattle.shop_words.proofs.values.larger_of.Goals as goal

pub returns : goal.returns
returns c =
    larger-is c.in_ok-items.field-0 c.in_ok-ebs.field-0 c.of.result c.of.ensures.some c.of.ensures.value
    ∙ ap₂ larger_of_both (sym c.in_ok-items.was) (sym c.in_ok-ebs.was)
