-- What is noted of the answers of a gateway.
use Rattle.std.specs.Prelude.{◌≡◌, ℕ, ◌&&◌, ◌==◌, not, Bool, List, [], ◌∷◌}
use Rattle.std.specs.List.{filter, list_any}
use Rattle.std.specs.Str.{bytes_eq}
use Rattle.shop_model.specs.declared.card_type.CardType.{CardType}
use Rattle.shop_model.specs.declared.card_type.CardType.TheVariants.{Visa, Mastercard, Discover, Amex, Diners}
use Rattle.shop_edges.specs.Charges.{ChargeValue}
use Rattle.shop_edges.specs.declared.gateway.Answer.{Answer}
use Rattle.shop_gateway.specs.Verdicts.{same_charge}
use Rattle.shop_gateway.specs.declared.charge_key.ChargeKey.{ChargeKey}

-- the answer is to another charge
abbrev pub is_other : ChargeValue → Answer → Bool
is_other charge answer = not (same_charge charge answer.charge)

-- each charge's first answer, in order
unfoldable pub firsts : List Answer → List Answer
firsts [] = []
firsts (answer ∷ answers) = answer ∷ filter (is_other answer.charge) (firsts answers)

-- a charge has an answer
abbrev pub is_answered : List Answer → ChargeValue → Bool
is_answered answers charge = list_any (λ answer. same_charge answer.charge charge) answers

-- ---- how they are kept

-- the number of a card's type
abbrev pub card_code : CardType → ℕ
card_code Visa = 0
card_code Mastercard = 1
card_code Discover = 2
card_code Amex = 3
card_code Diners = 4

abbrev pub charge_key : ChargeValue → ChargeKey
charge_key charge = record {
  caller = charge.caller;
  call = charge.call;
  cents = charge.cents;
  card = card_code charge.card;
  number = charge.number;
  expiry = charge.expiry;
}

-- the test by which a set finds a key
abbrev pub alike : ChargeKey → ChargeKey → Bool
alike a b =
    a.caller == b.caller && (a.call == b.call && (a.cents == b.cents && (a.card == b.card && (bytes_eq a.number b.number && bytes_eq a.expiry b.expiry))))

-- what contracts see of notes: all answers, and how many more come without memory
pub record NotesValue : Type 0 where
  pub all : List Answer
  pub room : ℕ

-- the first answer to each charge, and by these keys it is found
pub record AreNoted (all notes : List Answer) (has : ChargeKey → Bool) : Type 0 where
  pub firsts : notes ≡ firsts all
  pub found : (charge : ChargeValue) → has (charge_key charge) ≡ is_answered all charge
