use Rattle.std.proofs.Common.{◌<◌, length, not, sym, ap, ◌∙◌, arith}
use Rattle.shop_http.specs.Forms.{decoded_text}
use Rattle.shop_http.proofs.NameLemmas.{place-within, kept-first, kept-again, kept-other, sets-nothing}
use Rattle.shop_http.proofs.requests.values.Values.add.Goals as goal

pub returns-then-is_none : goal.returns-then-is_none
returns-then-is_none c =
    let self = c.args.self.now in
    let named = sym c.in_ok-parameter.ensures ∙ c.in-Some.is in
    let has_place : c.place_of.result < length self.kept = omega (arith, self.place_for_each, place-within c.in-Some.parameter) in
    record {
      values = λ i parameter.
          kept-first self.kept (decoded_text c.args.name.now) c.in-Some.parameter named c.of.result c.of.ensures
          c.place_of.result c.place_of.ensures has_place (c.is_none.ensures ∙ ap not c.if-is_none.true) c.args.value parameter i;
      others = λ none. (none, sets-nothing (decoded_text c.args.name.now) (decoded_text c.args.value.now) c.in-Some.parameter named);
    }

pub returns-else-is_none : goal.returns-else-is_none
returns-else-is_none c =
    let named = sym c.in_ok-parameter.ensures ∙ c.in-Some.is in
    record {
      values = λ i parameter.
          kept-again c.args.self.now.kept (decoded_text c.args.name.now) c.in-Some.parameter named c.of.result c.of.ensures
          (c.is_none.ensures ∙ ap not c.if-is_none.false) (decoded_text c.args.value.now) parameter i;
      others = λ none. (none, sets-nothing (decoded_text c.args.name.now) (decoded_text c.args.value.now) c.in-Some.parameter named);
    }

pub returns-in-None-clause-values : goal.returns-in-None-clause-values
returns-in-None-clause-values c i parameter =
    kept-other c.args.self.now.kept (decoded_text c.args.name.now) (decoded_text c.args.value.now) parameter
    (λ found.
    let none = sym c.in-None.is ∙ c.in_ok-parameter.ensures ∙ found in
    cc) i
