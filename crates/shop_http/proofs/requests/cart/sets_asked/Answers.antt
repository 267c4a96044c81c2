use Rattle.std.proofs.Common.{◌∙◌, Some, rules, sym, ap}
use Rattle.std.specs.Option.{ok_or}
use Rattle.shop_model.specs.declared.parameter.Parameter.TheVariants.{Qty}
use Rattle.shop_http.specs.Sets.{SetNothing}
use Rattle.shop_http.proofs.SetLemmas.{sets_asked-nothing}
use Rattle.shop_http.proofs.requests.cart.sets_asked.Goals as goal

pub returns-then-not-has_others : goal.returns-then-not-has_others
returns-then-not-has_others c =
    let nothing : SetNothing c.args.pairs.now = c.has_others.ensures (search rules) in
    ap (λ asked. ok_or asked Qty) (sets_asked-nothing c.args.pairs.now nothing ∙ ap (λ sets. Some sets) (sym c.new.ensures))
