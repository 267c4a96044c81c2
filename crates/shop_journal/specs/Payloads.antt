-- The payloads by which entries are kept, in two formats. The first is older: it has no byte for the rule of the tax, and no
-- items that are added.
use Rattle.std.specs.Prelude.{◌≡◌, ℕ, ◌<◌, ◌≤◌, ◌==◌, ◌^◌, List, [], ◌∷◌, ◌++◌, codes, if◌then◌else◌}
use Rattle.std.specs.Int.{to_be_bytes, w32, w64}
use Rattle.shop_model.specs.declared.tax.TaxRule.{TaxRule}
use Rattle.shop_model.specs.declared.tax.TaxRule.TheVariants.{Flat, ByCountry}
use Rattle.shop_model.specs.asked.CustomersAsked.{IsId}
use Rattle.shop_model.specs.rows.AuthIds.{IsAuthId}
use Rattle.shop_model.specs.rows.Limits.{stamp_limit}
use Rattle.shop_history.specs.declared.acts.Act.{Act}
use Rattle.shop_history.specs.declared.acts.Act.TheVariants.{Cart, Enter, Confirm, Admin, Add}
use Rattle.shop_history.specs.declared.acts.Entry.{Entry}
use Rattle.shop_history.specs.Acts.{IsInForm, request_of}
use Rattle.shop_journal.specs.declared.headers.Format.{Format}
use Rattle.shop_journal.specs.declared.headers.Format.TheVariants.{First, Second}
use Rattle.shop_journal.specs.Targets.{target_of}

-- the word that was drawn for an act, and 0 where none was
abbrev pub draw_of : Act → ℕ
draw_of (Cart asked draw) = draw
draw_of (Enter asked draw) = draw
draw_of (Confirm asked draw auth tax) = draw
draw_of (Admin asked) = 0
draw_of (Add asked) = 0

-- 1 for a purchase that is taxed by country
abbrev pub tax_byte : TaxRule → ℕ
tax_byte Flat = 0
tax_byte ByCountry = 1

-- the rule that a byte tells
abbrev pub rule_of : Format → ℕ → TaxRule
rule_of First tax = Flat
rule_of Second tax = if tax == 1 then ByCountry else Flat

abbrev pub tax_of : Act → ℕ
tax_of (Cart asked draw) = 0
tax_of (Enter asked draw) = 0
tax_of (Confirm asked draw auth tax) = tax_byte tax
tax_of (Admin asked) = 0
tax_of (Add asked) = 0

-- what a purchase was authorised by, and zeros where nothing was bought
abbrev pub no_auth : List ℕ
no_auth = codes "000000000000000"

abbrev pub auth_of : Act → List ℕ
auth_of (Cart asked draw) = no_auth
auth_of (Enter asked draw) = no_auth
auth_of (Confirm asked draw auth tax) = auth
auth_of (Admin asked) = no_auth
auth_of (Add asked) = no_auth

-- the rule of the tax is in the second format alone
abbrev pub tax_bytes : Format → Act → List ℕ
tax_bytes First act = []
tax_bytes Second act = tax_of act ∷ []

-- the place of the authorisation
abbrev pub auth_place : Format → ℕ
auth_place First = 24
auth_place Second = 25

-- what stands before the target
abbrev pub front_of : Format → Entry → List ℕ
front_of format entry =
    to_be_bytes w32 entry.caller
    ++ (to_be_bytes w64 entry.number
    ++ (to_be_bytes w64 entry.stamp ++ (to_be_bytes w32 (draw_of entry.act) ++ (tax_bytes format entry.act ++ auth_of entry.act))))

abbrev pub payload_of : Format → Entry → List ℕ
payload_of format entry = front_of format entry ++ target_of (request_of entry.act)

-- an act that the format has
abbrev pub IsActIn : Format → Act → Type 0
IsActIn First (Cart asked draw) = Unit {0}
IsActIn First (Enter asked draw) = Unit {0}
IsActIn First (Confirm asked draw auth tax) = tax ≡ Flat
IsActIn First (Admin asked) = Unit {0}
IsActIn First (Add asked) = ⊥
IsActIn Second act = Unit {0}

-- the parts of an entry are in their types
pub record IsBounded (entry : Entry) : Type 0 where
  pub caller : IsId entry.caller
  pub number : entry.number < 2 ^ 64
  pub draw : IsId (draw_of entry.act)
  pub auth : IsAuthId (auth_of entry.act)
  pub form : IsInForm entry.act

-- an entry that the format keeps
pub record IsEntry (format : Format) (entry : Entry) : Type 0 where
  pub bounded : IsBounded entry
  pub stamp : entry.stamp ≤ stamp_limit
  pub kind : IsActIn format entry.act
