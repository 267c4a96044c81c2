use Rattle.std.proofs.Common.{◌≡◌, ◌<◌, ◌^◌, ℕ, true, List, length, take, ap, ◌∙◌, subst, arith}
use Rattle.std.specs.Char.{is_ascii_digit}
use Rattle.std.specs.List.{list_all}
use Rattle.std.specs.Str.Parse.{digits_value}
use Rattle.std.proofs.lemmas.List.{take_all}
use Rattle.shop_model.specs.rows.AuthIds.{digits}
use Rattle.shop_gateway.proofs.ProtocolLemmas.{digits-back}
use Rattle.shop_gateway.proofs.reply_line.auth_of.Goals as goal

-- fifteen digits are those of the number that they write
back : (ds : List ℕ) → length ds ≡ 15 → list_all is_ascii_digit ds ≡ true → (digits 15 (digits_value 10 ds) ≡ ds) × (digits_value 10 ds < 10 ^ 15)
back ds size are =
    let all : take 15 ds ≡ ds = take_all 15 ds (omega (arith, size)) in
    subst (λ xs. (digits 15 (digits_value 10 xs) ≡ xs) × (digits_value 10 xs < 10 ^ 15)) all (digits-back 15 ds (omega (arith, size)) are)

pub of-requires : goal.of-requires
of-requires c =
    let is = back c.args.digits.now c.requires.fifteen c.requires.digits in omega (arith, c.number_of.ensures, is.1)

pub returns : goal.returns
returns c =
    let is = back c.args.digits.now c.requires.fifteen c.requires.digits in c.of.ensures ∙ ap (digits 15) c.number_of.ensures ∙ is.0
