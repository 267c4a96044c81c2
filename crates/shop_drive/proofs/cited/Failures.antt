-- Turns in which the gateway never failed.
use Rattle.std.proofs.Common.{◌≡◌, List, [], ◌∷◌, refl, ap, arith}
use Rattle.std.proofs.lemmas.List.Sums.{sum_by-cons}
use Rattle.shop_engine.specs.declared.report.Point.{Point}
use Rattle.shop_engine.specs.Failures.{failures, failures_as}
use Rattle.shop_drive.specs.Drives.{points_of}
use Rattle.shop_drive.specs.Turns.{Stage, Turn, AreTurns}

-- no failure at the end, none amid the turns
none_before : (from to : Stage) (turns : List Turn) → AreTurns from turns to → to.failures ≡ 0 → from.failures ≡ 0
none_before from to [] same none = omega (arith, ap (λ (s : Stage). s.failures) same, none)
none_before from to (turn ∷ turns) (next, is, are) none = omega (arith, is.asks.failed, none_before next to turns are none)

pub never_failed : (from to : Stage) (turns : List Turn) → AreTurns from turns to → to.failures ≡ 0 → failures (points_of turns) ≡ 0
never_failed from to [] same none = refl
never_failed from to (turn ∷ turns) (next, is, are) none =
    let here : failures_as turn.step.point.kind ≡ 0 = omega (arith, is.asks.failed, none_before next to turns are none) in
    omega (arith, sum_by-cons (λ (p : Point). failures_as p.kind) turn.step.point (points_of turns), here, never_failed next to turns are none)
