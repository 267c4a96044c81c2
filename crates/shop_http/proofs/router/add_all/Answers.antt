use Rattle.std.proofs.Common.{◌≡◌, suc, ◌∙◌, true, drop, refl, sym, ap, subst, add-one}
use Rattle.matchit.proofs.OnLiterals.{matchit_on_literals}
use Rattle.matchit.specs.Router.{RouteOf}
use Rattle.matchit.specs.Rows.{RowsOf}
use Rattle.shop_model.specs.declared.requests.Interaction.{Interaction}
use Rattle.shop_model.specs.declared.requests.TheConstants.{INTERACTIONS}
use Rattle.shop_http.proofs.InteractionLemmas.{added, are_free, next_free, others_free, others_added}
use Rattle.shop_http.proofs.router.add_all.Goals as goal

pub add_linked-requires : goal.add_linked-requires
add_linked-requires c = next_free _ _ _ c.loop-interaction-test.true c.loop-interaction.invariant.free

pub loop-interaction-preserved : goal.loop-interaction-preserved
loop-interaction-preserved c =
    let k = c.loop-interaction.interaction-index in
    record {
      free = rw (add-one) (subst (λ (rows : RowsOf (RouteOf Interaction)). are_free rows (drop (suc k) INTERACTIONS) ≡ true) (sym c.in_ok-add_linked.ensures)
          (others_free _ _ _ c.loop-interaction-test.true c.loop-interaction.invariant.free));
      goes = rw (add-one) (ap (λ (rows : RowsOf (RouteOf Interaction)). added rows (drop (suc k) INTERACTIONS)) c.in_ok-add_linked.ensures
          ∙ others_added _ _ _ c.loop-interaction-test.true ∙ c.loop-interaction.invariant.goes);
    }

pub add-requires-clause-plain : goal.add-requires-clause-plain
unfolding matchit_on_literals
add-requires-clause-plain c = refl
