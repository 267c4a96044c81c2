use Rattle.std.proofs.Common.{◌∙◌, ap, ap₂, sym, arith, Some, None}
use Rattle.std.proofs.lemmas.Str.Pattern.{split_once_first}
use Rattle.shop_text.specs.Numbers.{number_of}
use Rattle.shop_words.specs.Values.{larger_of_both}
use Rattle.shop_words.proofs.ScaleNames.{desk-named, larger-named, one-named}
use Rattle.shop_words.proofs.values.scale_of.Goals as goal

pub returns-then-eq : goal.returns-then-eq
returns-then-eq c = desk-named c.args.text.now c.desk.result (sym c.eq.ensures ∙ c.if-eq.true) c.desk.ensures

pub returns-in-Some : goal.returns-in-Some
returns-in-Some c =
    let parts = split_once_first 120 c.args.text.now (Some (c.in-Some.items, c.in-Some.ebs)) c.in-Some.ensures.cases (omega arith) in
    larger-named c.args.text.now c.larger_of.result (sym c.eq.ensures ∙ c.if-eq.false)
    (c.larger_of.ensures
    ∙ ap₂ larger_of_both (c.number_of.ensures ∙ ap number_of (c.as_bytes.ensures.value ∙ parts.1)) (c.number_of-in-Some.ensures ∙ ap number_of (c.as_bytes-in-Some.ensures.value ∙ parts.2)))

pub returns-in-None : goal.returns-in-None
returns-in-None c =
    one-named c.args.text.now (sym c.eq.ensures ∙ c.if-eq.false) (split_once_first 120 c.args.text.now None c.in-None.ensures.cases (omega arith))
