use Rattle.std.proofs.Common.{◌≡◌, List, Some, rules, ℕ, ◌+◌, ◌*◌, ◌^◌, ◌<◌, ◌≤◌, true, length, take, get_or, arith, add-one, take_all, refl, sym, ap, ◌∙◌, ◌&&◌}
use Rattle.std.specs.Char.{is_ascii_digit}
use Rattle.std.specs.List.{list_all}
use Rattle.std.specs.Str.Parse.{digits_value}
use native.Mathlib.Nat.{pow-le-pow_right}
use Rattle.std.proofs.Math.Nat.{pow-suc}
use Rattle.std.proofs.lemmas.Bool.{le-leb}
use Rattle.std.proofs.lemmas.Int.Digits.{digits_value_more}
use Rattle.std.proofs.lemmas.List.Folds.{list_all_more}
use Rattle.std.proofs.lemmas.Str.{digit_value_digit}
use Rattle.shop_text.proofs.cited.Digits.{digit_range}
use Rattle.shop_text.specs.Numbers.{number_of}
use Rattle.shop_http.proofs.requests.forms.short_number.Goals as goal

-- so few digits leave room for one more
roomy : (number places : ℕ) → number < 10 ^ places → places ≤ 8 → number < 100_000_000
roomy number places below few =
    let most : 10 ^ places ≤ 10 ^ 8 = pow-le-pow_right {n = 10} (omega arith) few in omega (arith, below, most)

number_is : (digits : List ℕ) (number : ℕ) → 1 ≤ length digits → length digits ≤ 10 → list_all is_ascii_digit digits ≡ true
    → digits_value 10 digits ≡ number → number ≤ 4_294_967_295 → number_of digits ≡ Some number
unfolding number_of
number_is digits number some few each value fits = rw (le-leb _ _ some, le-leb _ _ few, each, value, le-leb _ _ fits) refl

pub overflow_mul-number : goal.overflow_mul-number
overflow_mul-number c =
    let room = roomy c.loop-digit.number c.loop-digit.digit-index c.loop-digit.invariant.1 (omega arith) in omega (arith, room)

is_digit : (c : goal.After-from) → is_ascii_digit (get_or c.args.digits.now c.loop-digit.digit-index 0) ≡ true
is_digit c = search rules

pub overflow_add-number : goal.overflow_add-number
overflow_add-number c =
    let room = roomy c.loop-digit.number c.loop-digit.digit-index c.loop-digit.invariant.1 (omega arith) in
    let range = digit_range (get_or c.args.digits.now c.loop-digit.digit-index 0) (is_digit c) in
    omega (arith, room, range)

pub loop-digit-preserved : goal.loop-digit-preserved
loop-digit-preserved c =
    let digits = c.args.digits.now in
    let place = c.loop-digit.digit-index in
    let more = digits_value_more 10 digits place c.loop-digit-test.true in
    let range = digit_range (get_or digits place 0) (is_digit c) in
    let value = digit_value_digit (get_or digits place 0) range in
    let power : 10 ^ (place + 1) ≡ 10 ^ place * 10 = rw add-one (pow-suc 10 place) in (
      omega (arith, more, value, range, c.loop-digit.invariant.0),
      omega (arith, power, value, range, c.loop-digit.invariant.1),
      list_all_more is_ascii_digit digits place 0 c.loop-digit-test.true ∙ ap (λ before. before && is_ascii_digit (get_or digits place 0)) c.loop-digit.invariant.2
          ∙ is_digit c,
    )

pub returns : goal.returns
returns c =
    let digits = c.args.digits.now in
    let all : take c.loop-digit.digit-index digits ≡ digits = take_all c.loop-digit.digit-index digits (omega (arith, c.loop-digit-test.false)) in
    let value : digits_value 10 digits ≡ c.loop-digit.number = sym (c.loop-digit.invariant.0 ∙ ap (digits_value 10) all) in
    let each : list_all is_ascii_digit digits ≡ true = sym (ap (list_all is_ascii_digit) all) ∙ c.loop-digit.invariant.2 in
    let some : 1 ≤ length digits = search rules in
    number_is digits c.loop-digit.number some (omega arith) each value (omega arith)
