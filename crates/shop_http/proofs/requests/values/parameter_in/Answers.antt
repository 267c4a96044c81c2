use Rattle.std.proofs.Common.{sym, ap, ◌∙◌}
use Rattle.shop_http.specs.Names.{parameter_named}
use Rattle.shop_http.proofs.NameLemmas.{named-encoded}
use Rattle.shop_http.proofs.requests.values.parameter_in.Goals as goal

pub returns-in-Some : goal.returns-in-Some
returns-in-Some c =
    let named = sym c.in-Some.ensures in
    sym (ap parameter_named (named-encoded c.args.encoded.now c.in-Some.parameter named) ∙ named)
