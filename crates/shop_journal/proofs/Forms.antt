-- What the forms read of the values that a target spells.
use Rattle.std.proofs.Common.{◌≡◌, ℕ, List, length, decimal, Option, Some, None, IfSome, refl, ◌∙◌, ap, arith}
use Rattle.std.specs.Prelude.{Ok}
use Rattle.std.specs.Option.{option_map, ok_or}
use Rattle.std.proofs.lemmas.Bool.{le-leb}
use Rattle.shop_model.specs.declared.parameter.Parameter.{Parameter}
use Rattle.shop_model.specs.asked.CustomersAsked.{IsId, IsFilled, IsShort}
use Rattle.shop_model.specs.rows.Sound.{Has}
use Rattle.shop_text.specs.Numbers.{number_of}
use Rattle.shop_http.specs.Forms.{Pair, value_of, optional, optional_by, text_of, short_text_of, country_of}
use Rattle.shop_journal.proofs.Numbers.{number_again}

number_by : (number : Option ℕ) (parameter : Parameter) → IfSome number IsId → optional_by number_of (option_map decimal number) parameter ≡ Ok number
number_by None parameter small = refl
number_by (Some n) parameter small = ap (λ v. ok_or (option_map (λ x. Some x) v) parameter) (number_again n small)

pub optional_is : (pairs : List Pair) (parameter : Parameter) (number : Option ℕ) → IfSome number IsId
    → value_of pairs parameter ≡ option_map decimal number → optional number_of pairs parameter ≡ Ok number
optional_is pairs parameter number small first = ap (λ v. optional_by number_of v parameter) first ∙ number_by number parameter small

pub filled_again : (text : List ℕ) → IsFilled text → text_of text ≡ Some text
unfolding text_of
filled_again text is = rw (le-leb 1 (length text) is.some, le-leb (length text) 100 is.short) refl

pub short_again : (text : List ℕ) → IsShort text → short_text_of text ≡ Some text
unfolding short_text_of
short_again text is = rw (le-leb (length text) 100 is.short) refl

pub country_again : (country : ℕ) → Has 92 country → country_of (decimal country) ≡ Some country
unfolding country_of
country_again country is = rw (number_again country (omega (arith, is)), le-leb 1 country (omega (arith, is)), le-leb country 92 (omega (arith, is))) refl
