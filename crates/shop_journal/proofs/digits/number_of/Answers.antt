use Rattle.std.proofs.Common.{◌≡◌, ◌+◌, ◌*◌, ◌^◌, get_or, arith, add-one}
use Rattle.std.specs.Char.{is_ascii_digit}
use Rattle.std.proofs.lemmas.List.Sums.{AllPass-from_list_all}
use Rattle.std.proofs.lemmas.Int.Digits.{digits_value_more}
use Rattle.std.proofs.lemmas.Str.{digit_value_digit}
use Rattle.std.proofs.Math.Nat.{pow-suc}
use Rattle.shop_text.proofs.cited.Digits.{digit_range}
use Rattle.shop_journal.proofs.AuthDigits.{roomy}
use Rattle.shop_journal.proofs.digits.number_of.Goals as goal

pub overflow_mul-number : goal.overflow_mul-number
overflow_mul-number c =
    let room = roomy c.loop-digit.number c.loop-digit.digit-index c.loop-digit.invariant.1 (omega arith) in omega (arith, room)

pub overflow_add-number : goal.overflow_add-number
overflow_add-number c =
    let room = roomy c.loop-digit.number c.loop-digit.digit-index c.loop-digit.invariant.1 (omega arith) in
    let range = digit_range (get_or c.args.digits.now c.loop-digit.digit-index 0) (AllPass-from_list_all is_ascii_digit c.args.digits.now c.requires.digits c.loop-digit.digit-index 0 c.loop-digit-test.true) in
    omega (arith, room, range)

pub loop-digit-preserved : goal.loop-digit-preserved
loop-digit-preserved c =
    let more = digits_value_more 10 c.args.digits.now c.loop-digit.digit-index c.loop-digit-test.true in
    let range = digit_range (get_or c.args.digits.now c.loop-digit.digit-index 0) (AllPass-from_list_all is_ascii_digit c.args.digits.now c.requires.digits c.loop-digit.digit-index 0 c.loop-digit-test.true) in
    let value = digit_value_digit (get_or c.args.digits.now c.loop-digit.digit-index 0) range in
    let power : 10 ^ (c.loop-digit.digit-index + 1) ≡ 10 ^ c.loop-digit.digit-index * 10 = rw add-one (pow-suc 10 c.loop-digit.digit-index) in
    (omega (arith, more, value, range, c.loop-digit.invariant.0), omega (arith, power, value, range, c.loop-digit.invariant.1))
