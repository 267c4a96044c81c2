-- What the lines between a shop and its payment gateway say; this project's own.
use Rattle.std.specs.Prelude.{ℕ, ◌+◌, ◌&&◌, ◌||◌, ◌==◌, Bool, nat_eq, nat_lt, nat_le, List, [], ◌∷◌, ◌++◌, length, drop, get_or, decimal, codes, Option, Some, None, if◌then◌else◌}
use Rattle.std.specs.List.{list_all, starts_with, fold}
use Rattle.std.specs.Char.{is_ascii_digit}
use Rattle.std.specs.Str.{bytes_eq}
use Rattle.std.specs.Str.Parse.{digits_value}
use Rattle.shop_text.specs.Numbers.{number_of}
use Rattle.shop_model.specs.declared.card_type.CardType.{CardType}
use Rattle.shop_model.specs.rows.Subjects.{card_name, card_of}
use Rattle.shop_model.specs.asked.Cards.{is_card_number, is_month}
use Rattle.shop_edges.specs.Charges.{ChargeValue}
use Rattle.shop_edges.specs.declared.gateway.Answer.{Answer}
use Rattle.shop_edges.specs.declared.gateway.Reason.TheVariants.{Reused, Stolen, Limit}
use Rattle.shop_edges.specs.declared.gateway.Verdict.{Verdict}
use Rattle.shop_edges.specs.declared.gateway.Verdict.TheVariants.{Approved, Denied, Failed, Memory}
use Rattle.shop_gateway.specs.Verdicts.{verdict, ledger_after}
use Rattle.shop_gateway.specs.Emulators.{EmulatorValue}

-- ---- the parts of a line

-- what stands before the first such byte, which is all where there is none
unfoldable pub before : ℕ → List ℕ → List ℕ
before byte [] = []
before byte (x ∷ xs) = if x == byte then [] else x ∷ before byte xs

-- what follows the first such byte
abbrev pub after : ℕ → List ℕ → List ℕ
after byte bytes = drop (length (before byte bytes) + 1) bytes

-- a decimal number without leading zeros
unfoldable pub is_plain : List ℕ → Bool
is_plain digits = (length digits == 1 || nat_lt 48 (get_or digits 0 0)) && list_all is_ascii_digit digits

-- the number that at most 18 digits write
unfoldable pub long_number : List ℕ → Option ℕ
long_number digits = if is_plain digits && nat_le (length digits) 18 then Some (digits_value 10 digits) else None

-- the number below 2 ^ 32 that at most 10 digits write
unfoldable pub short_number : List ℕ → Option ℕ
short_number digits = if is_plain digits then number_of digits else None

-- ---- the line that asks for a charge: `AUTH <caller>-<call>-<cents> <type> <number> <expiry> <cents>`

-- all of a charge, where each part is read
abbrev pub charge_of : Option ℕ → Option ℕ → Option ℕ → Option CardType → Option (List ℕ) → Option (List ℕ) → Option ChargeValue
charge_of (Some caller) (Some call) (Some cents) (Some card) (Some number) (Some expiry) =
    Some (record { caller = caller; call = call; cents = cents; card = card; number = number; expiry = expiry })
charge_of _ _ _ _ _ _ = None

-- the charge whose parts stand between hyphens, 45, and spaces, 32; its cents stand there twice
unfoldable pub charge_in : List ℕ → Option ChargeValue
charge_in bytes =
    let behind_caller = after 45 bytes in
    let behind_call = after 45 behind_caller in
    let behind_cents = after 32 behind_call in
    let behind_card = after 32 behind_cents in
    let behind_number = after 32 behind_card in
    let cents = before 32 behind_call in
    let number = before 32 behind_card in
    let expiry = before 32 behind_number in
    if bytes_eq cents (after 32 behind_number) then
    charge_of (short_number (before 45 bytes)) (long_number (before 45 behind_caller)) (long_number cents)
    (card_of (before 32 behind_cents)) (if is_card_number number then Some number else None) (if is_month expiry then Some expiry else None)
    else None

-- the charge that a line asks for, if it is in the grammar
unfoldable pub charge_asked : List ℕ → Option ChargeValue
charge_asked line = if starts_with nat_eq line (codes "AUTH ") then charge_in (drop 5 line) else None

-- the line that asks for a charge; it is in the grammar where call and cents have at most 18 digits
unfoldable pub charge_line : ChargeValue → List ℕ
charge_line charge =
    codes "AUTH " ++ decimal charge.caller ++ codes "-" ++ decimal charge.call ++ codes "-" ++ decimal charge.cents ++ codes " " ++ card_name charge.card
    ++ codes " " ++ charge.number ++ codes " " ++ charge.expiry ++ codes " " ++ decimal charge.cents

-- ---- the line that replies

-- a verdict, as it is told
abbrev pub said : Verdict → List ℕ
said (Approved auth) = codes "OK " ++ auth
said (Denied Reused) = codes "NO reused"
said (Denied Stolen) = codes "NO stolen"
said (Denied Limit) = codes "NO limit"
said Failed = []
said Memory = []

-- the approval that a reply tells: by `OK` and 15 digits
unfoldable pub approval_told : List ℕ → Option Verdict
approval_told line =
    if length line == 18 && starts_with nat_eq line (codes "OK ") && list_all is_ascii_digit (drop 3 line) then Some (Approved (drop 3 line)) else None

-- the verdict that a reply tells, where it tells one
unfoldable pub verdict_told : List ℕ → Option Verdict
verdict_told line =
    if bytes_eq line (codes "NO reused") then Some (Denied Reused) else
    (if bytes_eq line (codes "NO stolen") then Some (Denied Stolen) else
    (if bytes_eq line (codes "NO limit") then Some (Denied Limit) else approval_told line))

-- ---- lines that are decided one after another

-- the reply to a line that is not in the grammar
abbrev pub bad : List ℕ
bad = codes "BAD"

abbrev pub reply_by : List Answer → Option ChargeValue → List ℕ
reply_by ledger None = bad
reply_by ledger (Some charge) = said (verdict ledger charge)

-- the reply of a ledger to a line
abbrev pub reply_line : List Answer → List ℕ → List ℕ
reply_line ledger line = reply_by ledger (charge_asked line)

abbrev pub after_asked : EmulatorValue → Option ChargeValue → EmulatorValue
after_asked old None = old
after_asked old (Some charge) = record {
  ledger = ledger_after old.ledger charge;
  answers = old.answers ++ record { charge = charge; verdict = verdict old.ledger charge } ∷ [];
}

-- the emulator after a line
abbrev pub after_line : EmulatorValue → List ℕ → EmulatorValue
after_line old line = after_asked old (charge_asked line)

-- the emulator after these lines
abbrev pub after_lines : EmulatorValue → List (List ℕ) → EmulatorValue
after_lines old lines = fold after_line old lines

-- a line and its line feed
abbrev pub ended : List ℕ → List ℕ
ended line = line ++ 10 ∷ []

-- the replies to these lines, in order
abbrev pub replies : EmulatorValue → List (List ℕ) → List ℕ
replies old [] = []
replies old (line ∷ lines) = ended (reply_line old.ledger line) ++ replies (after_line old line) lines
