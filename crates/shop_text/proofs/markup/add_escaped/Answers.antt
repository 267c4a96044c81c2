use Rattle.std.proofs.Common.{arith, ◌++◌, List, ℕ, ap, ◌∙◌}
use Rattle.shop_text.proofs.cited.Escapes.{plain_step, entity_step}
use Rattle.shop_text.proofs.Extends.{Extends-append}
use Rattle.shop_text.proofs.markup.add_escaped.Goals as goal
use Rattle.shop_text.proofs.markup.add_escaped.Goals.{in-Some+in_ok-push+in_ok-push-2, in_default}

pub loop-at-preserved : goal.loop-at-preserved
loop-at-preserved c =
    let before = c.loop-at in
    let so_far = before.invariant in
    elim c.match-entity.branch [
      | in-Some+in_ok-push+in_ok-push-2 w ↦
          let name = w.in-Some.name.now in
          let run_pushed = (w.in_ok-push.ensures).ok in
          let now = w.text-is ∙ (w.in_ok-push-2.ensures).ok ∙ ap (λ (text : List ℕ). text ++ name) run_pushed in
          record {
            order = omega arith;
            text = rw w.start-is
                (entity_step _ before.text name _ _ before.start before.at so_far.order (omega arith)
                w.in-Some.ensures.value now so_far.text);
            front = rw now (Extends-append _ _ name (Extends-append _ _ _ so_far.front));
          }
      | in_default w ↦ record {
        order = omega arith;
        text = rw (w.text-is, w.start-is)
            (plain_step _ _ _ _ _ so_far.order (omega arith) w.in_default.ensures.value so_far.text);
        front = rw w.text-is so_far.front;
      }
    ]
