use Rattle.std.proofs.Common.{◌≡◌, [], true, drop}
use Rattle.shop_model.specs.declared.requests.TheConstants.{INTERACTIONS}
use Rattle.shop_http.proofs.InteractionLemmas.{added, are_free}
use Rattle.shop_http.proofs.router.add_all.Given as goal

-- those that are left are not there, and with them the router has them all
abbrev pub invariant-loop-interaction : goal.invariant-loop-interaction
invariant-loop-interaction l = record {
  free : are_free l.router (drop l.interaction-index l.interaction-items) ≡ true;
  goes : added l.router (drop l.interaction-index l.interaction-items) ≡ added [] INTERACTIONS;
}
