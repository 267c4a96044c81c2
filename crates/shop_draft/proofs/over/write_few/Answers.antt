use Rattle.std.proofs.Common.{[], ◌∷◌, arith}
use Rattle.shop_draft.proofs.cited.FewDigits.{decimal_one, decimal_two, decimal_three, decimal_four}
use Rattle.shop_draft.proofs.Heads.{laid_all}
use Rattle.shop_draft.proofs.over.write_few.Goals as goal

pub returns-then-number-lt10-clause-text : goal.returns-then-number-lt10-clause-text
returns-then-number-lt10-clause-text c =
    rw (
      c.write_array.ensures,
      decimal_one c.args.number (omega arith),
      ← c.digit.ensures,
    )
    (laid_all c.args.bytes.now (c.digit.result ∷ []) c.args.start (omega arith))

pub returns-then-number-lt100-clause-text : goal.returns-then-number-lt100-clause-text
returns-then-number-lt100-clause-text c =
    let pair = c.digits-tens.result in
    rw (
      c.write_array-then-number-lt100.ensures,
      decimal_two c.args.number (omega arith) (omega arith),
      ← c.digits-tens.ensures.tens,
      ← c.digits-tens.ensures.ones,
    )
    (laid_all c.args.bytes.now (pair.0 ∷ pair.1 ∷ []) c.args.start (omega arith))

pub returns-then-number-lt1000-clause-text : goal.returns-then-number-lt1000-clause-text
returns-then-number-lt1000-clause-text c =
    let first = c.digit-then-number-lt1000.result in
    let last = c.digits-tens-then-number-lt1000.result in
    rw (
      c.write_array-then-number-lt1000.ensures,
      decimal_three c.args.number (omega arith) (omega arith),
      ← c.digit-then-number-lt1000.ensures,
      ← c.digits-tens-then-number-lt1000.ensures.tens,
      ← c.digits-tens-then-number-lt1000.ensures.ones,
    )
    (laid_all c.args.bytes.now (first ∷ last.0 ∷ last.1 ∷ []) c.args.start (omega arith))

pub returns-else-number-lt1000-clause-text : goal.returns-else-number-lt1000-clause-text
returns-else-number-lt1000-clause-text c =
    let first = c.digits-thousands.result in
    let last = c.digits-tens-else-number-lt1000.result in
    rw (
      c.write_array-else-number-lt1000.ensures,
      decimal_four c.args.number (omega arith) (omega arith),
      ← c.digits-thousands.ensures.tens,
      ← c.digits-thousands.ensures.ones,
      ← c.digits-tens-else-number-lt1000.ensures.tens,
      ← c.digits-tens-else-number-lt1000.ensures.ones,
    )
    (laid_all c.args.bytes.now (first.0 ∷ first.1 ∷ last.0 ∷ last.1 ∷ []) c.args.start (omega arith))
