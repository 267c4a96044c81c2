use Rattle.std.proofs.Common.{◌∙◌, ◌∷◌, ◌++◌, [], ap, refl, subst}
use Rattle.shop_lanes.specs.Turns.{Completes}
use Rattle.shop_lanes.proofs.polling.free_lane.Goals as goal

pub returns-clause-freed : goal.returns-clause-freed
returns-clause-freed g c =
    let done = c.finish_lane-link.result.1 in
    record {
      link = c.finish_lane-link.result.0;
      done = done;
      completes = subst (λ lane. Completes g.B.Berth lane c.finish_lane-link.result) c.replace.ensures.value c.finish_lane-link.ensures;
      free = refl;
      told = c.in-Ok.ensures.items ∙ ap (λ caller. c.args.reports.now.items ++ (caller, done.report) ∷ []) c.caller.ensures;
      back = record { links = c.give_back.ensures.links; later = c.give_back.ensures.later; accepted = c.give_back.ensures.accepted; dialled = refl };
    }
