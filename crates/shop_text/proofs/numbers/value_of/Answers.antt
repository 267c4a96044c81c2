use Rattle.std.proofs.Common.{◌≡◌, ◌+◌, ◌*◌, ◌^◌, get_or, true, arith, add-one}
use Rattle.std.specs.Char.{is_ascii_digit}
use Rattle.std.proofs.lemmas.List.Sums.{AllPass-from_list_all}
use Rattle.std.proofs.lemmas.Int.Digits.{digits_value_more}
use Rattle.std.proofs.lemmas.Str.{digit_value_digit}
use Rattle.std.proofs.Math.Nat.{pow-suc}
use Rattle.shop_text.proofs.cited.Digits.{digit_range}
use Rattle.shop_text.proofs.numbers.value_of.Goals as goal

pub loop-digit-preserved : goal.loop-digit-preserved
loop-digit-preserved c =
    let more = digits_value_more 10 c.args.digits.now c.loop-digit.digit-index c.loop-digit-test.true in
    let all = AllPass-from_list_all is_ascii_digit c.args.digits.now c.requires.digits in
    let digit = get_or c.args.digits.now c.loop-digit.digit-index 0 in
    let range = digit_range (get_or c.args.digits.now c.loop-digit.digit-index 0) (all c.loop-digit.digit-index 0 c.loop-digit-test.true) in
    let value = digit_value_digit (get_or c.args.digits.now c.loop-digit.digit-index 0) range in
    let power : 10 ^ (c.loop-digit.digit-index + 1) ≡ 10 ^ c.loop-digit.digit-index * 10 = rw add-one (pow-suc 10 c.loop-digit.digit-index) in
    (omega (arith, more, value, range, c.loop-digit.invariant.0), omega (arith, power, value, range, c.loop-digit.invariant.1))
