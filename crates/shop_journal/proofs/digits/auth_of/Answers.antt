use Rattle.std.proofs.Common.{List, ℕ, Some, sym, ◌∙◌, ap, arith}
use Rattle.std.proofs.lemmas.Bool.{both_ways}
use Rattle.shop_model.specs.rows.AuthIds.{digits}
use Rattle.shop_journal.proofs.AuthDigits.{digits_pass, fifteen_back}
use Rattle.shop_journal.proofs.digits.auth_of.Goals as goal
use Rattle.shop_journal.proofs.digits.auth_of.Goals.{else-bytes-eq15-via-then-bytes-eq15+else-all_digits, else-bytes-eq15-via-else-bytes-eq15}

pub of-requires : goal.of-requires
of-requires c =
    let back = fifteen_back c.args.bytes.now c.if-bytes-eq15.true (sym c.all_digits.ensures ∙ c.if-all_digits.true) in
    omega (arith, c.number_of.ensures, back.1)

pub returns-then-all_digits : goal.returns-then-all_digits
returns-then-all_digits c = λ is.
    let back = fifteen_back c.args.bytes.now c.if-bytes-eq15.true (sym c.all_digits.ensures ∙ c.if-all_digits.true) in
    ap (λ (x : List ℕ). Some x) (c.of.ensures ∙ ap (digits 15) c.number_of.ensures ∙ back.0)

pub returns-else-bytes-eq15 : goal.returns-else-bytes-eq15
returns-else-bytes-eq15 c = λ is.
    elim c.else-bytes-eq15.branch [
      | else-bytes-eq15-via-then-bytes-eq15+else-all_digits w ↦
          absurd (both_ways w.all_digits.result w.if-all_digits.false (w.all_digits.ensures ∙ digits_pass c.args.bytes.now is.digits))
      | else-bytes-eq15-via-else-bytes-eq15 w ↦ absurd (omega (arith, w.if-bytes-eq15.false, is.fifteen))
    ]
