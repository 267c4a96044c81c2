-- What a gateway that decides by its ledger says to a charge; this project's own.
use Rattle.std.specs.Prelude.{◌≡◌, ⊤, ℕ, ◌&&◌, ◌==◌, Bool, true, false, nat_eq, nat_lt, List, [], ◌∷◌, ◌++◌, Option, Some, None, codes, if◌then◌else◌}
use Rattle.std.specs.List.{find, fold, ends_with}
use Rattle.std.specs.Str.{bytes_eq}
use Rattle.std.specs.Str.Parse.{digits_value}
use Rattle.shop_model.specs.rows.AuthIds.{auth_id}
use Rattle.shop_model.specs.declared.card_type.CardType.{CardType}
use Rattle.shop_model.specs.declared.card_type.CardType.TheVariants.{Visa, Mastercard, Discover, Amex, Diners}
use Rattle.shop_edges.specs.Charges.{ChargeValue}
use Rattle.shop_edges.specs.declared.gateway.Answer.{Answer}
use Rattle.shop_edges.specs.declared.gateway.Reason.TheVariants.{Reused, Stolen, Limit}
use Rattle.shop_edges.specs.declared.gateway.Verdict.{Verdict}
use Rattle.shop_edges.specs.declared.gateway.Verdict.TheVariants.{Approved, Denied}

-- the key of a charge: caller, call and cents
abbrev pub Key : Type 0
Key = ℕ × ℕ × ℕ

abbrev pub key_of : ChargeValue → Key
key_of charge = (charge.caller, charge.call, charge.cents)

abbrev pub same_key : Key → Key → Bool
same_key one other = one.0 == other.0 && one.1 == other.1 && one.2 == other.2

abbrev pub same_card : CardType → CardType → Bool
same_card Visa Visa = true
same_card Mastercard Mastercard = true
same_card Discover Discover = true
same_card Amex Amex = true
same_card Diners Diners = true
same_card one other = false

unfoldable pub same_charge : ChargeValue → ChargeValue → Bool
same_charge one other =
    same_key (key_of one) (key_of other) && same_card one.card other.card && bytes_eq one.number other.number && bytes_eq one.expiry other.expiry

-- the most cents that are approved at once
abbrev pub charge_limit : ℕ
charge_limit = 1_000_000

abbrev pub auth_of : ChargeValue → List ℕ
auth_of charge = auth_id (digits_value 10 charge.number) charge.cents charge.call charge.caller

-- the verdict on a charge whose key is new
unfoldable pub first_verdict : ChargeValue → Verdict
first_verdict charge =
    if ends_with nat_eq charge.number (codes "0000") then Denied Stolen else
    (if nat_lt charge_limit charge.cents then Denied Limit else Approved (auth_of charge))

-- the verdict where an entry has the key: an equal charge gets the one that stands there
abbrev pub next_verdict : Answer → ChargeValue → Verdict
next_verdict entry charge = if same_charge entry.charge charge then entry.verdict else Denied Reused

-- the answers by these verdicts
abbrev pub first_answer : ChargeValue → Answer
first_answer charge = record { charge = charge; verdict = first_verdict charge }

abbrev pub next_answer : Answer → ChargeValue → Answer
next_answer entry charge = record { charge = charge; verdict = next_verdict entry charge }

-- the entry of a ledger that has the key
abbrev pub entry_at : List Answer → Key → Option Answer
entry_at ledger key = find (λ entry. same_key (key_of entry.charge) key) ledger

abbrev pub verdict_by : Option Answer → ChargeValue → Verdict
verdict_by None charge = first_verdict charge
verdict_by (Some entry) charge = next_verdict entry charge

-- the verdict of a ledger on a charge
abbrev pub verdict : List Answer → ChargeValue → Verdict
verdict ledger charge = verdict_by (entry_at ledger (key_of charge)) charge

abbrev pub ledger_by : Option Answer → List Answer → ChargeValue → List Answer
ledger_by None ledger charge = ledger ++ first_answer charge ∷ []
ledger_by (Some entry) ledger charge = ledger

-- the ledger after it: a new key adds one entry, denied or approved
abbrev pub ledger_after : List Answer → ChargeValue → List Answer
ledger_after ledger charge = ledger_by (entry_at ledger (key_of charge)) ledger charge

-- ---- over many charges

-- the ledger after these answers
abbrev pub ledger_left : List Answer → List Answer → List Answer
ledger_left ledger answers = fold (λ before answer. ledger_after before answer.charge) ledger answers

-- each answer is the verdict of the ledger as the answers before it left it
abbrev pub AreVerdicts : List Answer → List Answer → Type 0
AreVerdicts ledger [] = ⊤
AreVerdicts ledger (answer ∷ answers) =
    (answer.verdict ≡ verdict ledger answer.charge) × AreVerdicts (ledger_after ledger answer.charge) answers
