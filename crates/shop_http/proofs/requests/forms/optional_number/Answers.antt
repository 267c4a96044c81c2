use Rattle.shop_text.specs.Numbers.{number_of}
use Rattle.shop_http.proofs.AnswerLemmas.{carried, optional-fault}
use Rattle.shop_http.proofs.requests.forms.optional_number.Goals as goal

pub returns-in_err-number_in-in-Some : goal.returns-in_err-number_in-in-Some
returns-in_err-number_in-in-Some c =
    rw (carried _ _ c.from_residual.ensures.1) (optional-fault c.args.parameter number_of c.args.pairs.now _ _ c.in-Some.ensures c.in_err-number_in-in-Some.ensures)
