use Rattle.std.proofs.Common.{◌≡◌, ◌≤◌, ◌∙◌, ◌++◌, List, ℕ, length, ap, arith, length-append}
use Rattle.shop_text.proofs.cited.Escapes.{plain_step, entity_step}
use Rattle.shop_draft.proofs.flat.Flat.put_runs.Goals as goal
use Rattle.shop_draft.proofs.flat.Flat.put_runs.Goals.{in-Some+in_ok-put+in_ok-put-2, in_default}

longer : (least : ℕ) (old first now a b : List ℕ) → least ≤ length old → first ≡ old ++ a → now ≡ first ++ b → least ≤ length now
longer least old first now a b le is_first is = rw (is, is_first) (omega (arith, length-append (old ++ a) b, length-append old a))

pub loop-at-preserved : goal.loop-at-preserved
loop-at-preserved c =
    let before = c.loop-at in
    let so_far = before.invariant in
    elim c.match-entity.branch [
      | in-Some+in_ok-put+in_ok-put-2 w ↦
          let name = w.in-Some.name.now in
          let now = w.in_ok-put-2.ensures.ok ∙ ap (λ (text : List ℕ). text ++ name) w.in_ok-put.ensures.ok in
          record {
            order = omega arith;
            text = rw (w.self-is, w.start-is)
                (entity_step _ _ name _ _ before.start before.at so_far.order (omega arith) w.in-Some.ensures.value now so_far.text);
            longer = rw w.self-is (longer _ _ _ _ _ _ so_far.longer w.in_ok-put.ensures.ok w.in_ok-put-2.ensures.ok);
          }
      | in_default w ↦ record {
        order = omega arith;
        text = rw (w.self-is, w.start-is)
            (plain_step _ _ _ _ _ so_far.order (omega arith) w.in_default.ensures.value so_far.text);
        longer = rw w.self-is so_far.longer;
      }
    ]
