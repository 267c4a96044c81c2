use Rattle.std.proofs.Common.{◌≡◌, ◌∙◌, Some, sym, ap}
use Rattle.shop_model.specs.asked.Interactions.{interaction_of}
use Rattle.shop_http.specs.Requests.{form_of}
use Rattle.shop_http.proofs.RequestLemmas.{asked-form}
use Rattle.shop_http.proofs.requests.asked_of.Goals as goal

pub returns : goal.returns
returns c =
    let found = sym (c.in-Some.ensures ∙ ap interaction_of c.path_and_query.ensures.path) in
    let form : form_of c.args.method.now c.args.body.now ≡ Some c.in-Some-form_of.form.now = sym c.in-Some-form_of.ensures in
    let read = rw c.path_and_query.ensures.query at c.read.ensures in
    rw (asked-form c.args.method.now c.args.target.now c.args.body.now c.in-Some.interaction found _ form) (c.answer.ensures _ read)
