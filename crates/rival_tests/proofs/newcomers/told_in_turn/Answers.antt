use Rattle.rival_tests.proofs.Rivals.{faithful_grown}
use Rattle.rival_tests.proofs.newcomers.told_in_turn.Goals as goal

pub told-first-requires-clause-faithful : goal.told-first-requires-clause-faithful
told-first-requires-clause-faithful c =
    faithful_grown _ _ _ _ c.in_ok-attempt.attempt c.told_rival-rival.ensures.opening c.told_rival-rival.ensures.grows c.in_ok-attempt.ensures.faithful
