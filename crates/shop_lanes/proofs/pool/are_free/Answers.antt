use Rattle.std.proofs.Common.{⊎_elim, length, subst, arith}
use Rattle.std.proofs.lemmas.Bool.{cases_lt}
use Rattle.std.proofs.lemmas.List.{get_or_past}
use Rattle.shop_places.specs.declared.spot.Spot.TheVariants.{Gone}
use Rattle.shop_lanes.specs.Spots.{IsBusy}
use Rattle.shop_lanes.proofs.pool.are_free.Goals as goal

pub returns-clause-free : goal.returns-clause-free
returns-clause-free g c = λ _ at busy.
    ⊎_elim (λ low. c.loop-at.invariant at (omega (arith, low, c.loop-at-test.false)) busy)
    (λ behind. subst IsBusy (get_or_past c.args.lanes.now at Gone behind) busy)
    (cases_lt at (length c.args.lanes.now))
