use Rattle.std.proofs.Common.{ap, ◌∙◌}
use Rattle.shop_http.specs.Firsts.{Firsts}
use Rattle.shop_http.specs.Forms.{value_of}
use Rattle.shop_http.proofs.requests.pairs.Pairs.value_of.Goals as goal

pub returns : goal.returns
returns c =
    c.of.ensures ∙ ap (λ (firsts : Firsts). firsts c.args.parameter) c.self.invariant.0
    ∙ ap (λ pairs. value_of pairs c.args.parameter) c.self.view_is
