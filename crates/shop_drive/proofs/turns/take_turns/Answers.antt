use Rattle.std.proofs.Common.{◌≡◌, ◌∙◌, ◌++◌, length, refl, sym, ap, subst, arith, append_assoc, [], ◌∷◌}
use Rattle.std.specs.List.{range_with_len}
use Rattle.shop_attempt.proofs.cited.Marks.{keeps_then}
use Rattle.shop_drive.specs.Drives.{in_turn}
use Rattle.shop_drive.proofs.TurnLemmas.{SoFar, all_taken, drive_failed, found_at, not_begun, one_more, place_more, round_more, same_count, stopped}
use Rattle.shop_drive.proofs.turns.take_turns.Goals as goal

pub returns-in_err-message-clause-drives : goal.returns-in_err-message-clause-drives
returns-in_err-message-clause-drives g c = drive_failed _ _ _ c.args.steps c.from_residual.result c.from_residual.ensures.0 (not_begun _ c.args.steps)

pub returns-in_err-is_page-clause-drives : goal.returns-in_err-is_page-clause-drives
returns-in_err-is_page-clause-drives g c =
    let so_far = c.loop-place.invariant.so_far in
    drive_failed _ _ _ c.args.steps c.from_residual-in_err-is_page.result c.from_residual-in_err-is_page.ensures.0
    (stopped _ _ _ _ c.args.steps c.loop-round.round c.loop-place.place _ so_far (omega (arith, c.loop-round-test.true))
    (omega (arith, c.loop-place-test.true, same_count _ _ so_far.turns so_far.run)) _
    (found_at c.loop-place.browsers c.loop-place.place c.index-browsers-place.result (omega (arith, c.loop-place-test.true, c.loop-place.auto.browsers))) c.in_err-is_page.ensures.turn)

pub loop-place-preserved : goal.loop-place-preserved
loop-place-preserved g c = record {
  so_far = rw (c.count.ensures, sym (place_more c.loop-place.place), sym (append_assoc (in_turn (length c.args.browsers.now) c.loop-round.round) (range_with_len 0 c.loop-place.place) (c.loop-place.place ∷ [])))
      (one_more _ _ _ _ _ _ _ c.loop-place.place _ c.take_turn.new.browser _ c.loop-place.invariant.so_far
      (found_at c.loop-place.browsers c.loop-place.place c.index-browsers-place.result (omega (arith, c.loop-place-test.true, c.loop-place.auto.browsers))) c.in_ok-is_page.ensures.turn refl c.in_ok-is_page.ensures.marks);
  caller = c.in_ok-is_page.ensures.caller ∙ c.loop-place.invariant.caller;
  marks = keeps_then _ _ _ _ _ _ c.loop-place.invariant.marks c.in_ok-is_page.ensures.marks;
  later = omega (arith, c.loop-place.invariant.later, c.in_ok-is_page.ensures.later);
}

pub loop-round-preserved : goal.loop-round-preserved
loop-round-preserved g c =
    let so_far = c.loop-place.invariant.so_far in
    let count : c.loop-place.place ≡ length c.args.browsers.now = omega (arith, c.loop-place-test.false, c.loop-place.auto.place-end, c.loop-place.auto.browsers, same_count _ _ so_far.turns so_far.run) in
    record {
      so_far = subst (SoFar _ _ _ c.loop-place.tally)
          (ap (λ n. in_turn (length c.args.browsers.now) c.loop-round.round ++ range_with_len 0 n) count ∙ round_more (length c.args.browsers.now) c.loop-round.round) so_far;
      caller = c.loop-place.invariant.caller;
      marks = c.loop-place.invariant.marks;
      later = c.loop-place.invariant.later;
    }

pub returns-clause-drives : goal.returns-clause-drives
returns-clause-drives g c = all_taken _ _ _ c.args.steps c.loop-round.round _ c.loop-round.invariant.so_far (omega (arith, c.loop-round-test.false))
