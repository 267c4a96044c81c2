-- The parts of an entry's payload are cut out of it again.
use Rattle.std.proofs.Common.{◌≡◌, ℕ, ◌+◌, ◌≤◌, List, length, take, drop, refl, arith}
use Rattle.std.proofs.lemmas.List.{length-append, take_at, drop_at}
use Rattle.std.proofs.lemmas.Nat.{from_be_bytes-to_be_bytes_4, from_be_bytes-to_be_bytes_8}
use Rattle.std.specs.Int.{from_be_bytes, w32, w64}
use Rattle.shop_model.specs.declared.tax.TaxRule.{TaxRule}
use Rattle.shop_model.specs.declared.tax.TaxRule.TheVariants.{Flat, ByCountry}
use Rattle.shop_history.specs.declared.acts.Act.{Act}
use Rattle.shop_history.specs.declared.acts.Act.TheVariants.{Cart, Enter, Confirm, Admin, Add}
use Rattle.shop_history.specs.declared.acts.Entry.{Entry}
use Rattle.shop_history.specs.Acts.{request_of}
use Rattle.shop_journal.specs.declared.headers.Format.{Format}
use Rattle.shop_journal.specs.declared.headers.Format.TheVariants.{First, Second}
use Rattle.shop_journal.specs.Payloads.{IsActIn, IsEntry, auth_of, auth_place, draw_of, payload_of, tax_byte, tax_of}
use Rattle.shop_journal.specs.Targets.{target_of}

-- the parts of this payload
pub record AreCut (format : Format) (entry : Entry) (payload : List ℕ) : Type 0 where
  pub long : auth_place format + 15 ≤ length payload
  pub caller : from_be_bytes w32 (take 4 (drop 0 payload)) ≡ entry.caller
  pub number : from_be_bytes w64 (take 8 (drop 4 payload)) ≡ entry.number
  pub stamp : from_be_bytes w64 (take 8 (drop 12 payload)) ≡ entry.stamp
  pub draw : from_be_bytes w32 (take 4 (drop 20 payload)) ≡ draw_of entry.act
  pub auth : take 15 (drop (auth_place format) payload) ≡ auth_of entry.act
  pub target : drop (auth_place format + 15) payload ≡ target_of (request_of entry.act)

pub cut : (format : Format) (entry : Entry) → IsEntry format entry → AreCut format entry (payload_of format entry)
cut First entry is =
    let auth = auth_of entry.act in
    let target = target_of (request_of entry.act) in
    let digits = is.bounded.auth.fifteen in
    record {
      long = omega (arith, length-append auth target, digits);
      caller = from_be_bytes-to_be_bytes_4 entry.caller (omega (arith, is.bounded.caller));
      number = from_be_bytes-to_be_bytes_8 entry.number is.bounded.number;
      stamp = from_be_bytes-to_be_bytes_8 entry.stamp (omega (arith, is.stamp));
      draw = from_be_bytes-to_be_bytes_4 (draw_of entry.act) (omega (arith, is.bounded.draw));
      auth = take_at auth target 15 digits;
      target = drop_at auth target 15 digits;
    }
cut Second entry is =
    let auth = auth_of entry.act in
    let target = target_of (request_of entry.act) in
    let digits = is.bounded.auth.fifteen in
    record {
      long = omega (arith, length-append auth target, digits);
      caller = from_be_bytes-to_be_bytes_4 entry.caller (omega (arith, is.bounded.caller));
      number = from_be_bytes-to_be_bytes_8 entry.number is.bounded.number;
      stamp = from_be_bytes-to_be_bytes_8 entry.stamp (omega (arith, is.stamp));
      draw = from_be_bytes-to_be_bytes_4 (draw_of entry.act) (omega (arith, is.bounded.draw));
      auth = take_at auth target 15 digits;
      target = drop_at auth target 15 digits;
    }

tax_low : (tax : TaxRule) → tax ≡ Flat → 0 ≡ tax_byte tax
tax_low Flat is = refl
tax_low ByCountry is = absurd (cc is)

-- the first format taxes by one rule
pub no_tax : (act : Act) → IsActIn First act → 0 ≡ tax_of act
no_tax (Cart asked draw) is = refl
no_tax (Enter asked draw) is = refl
no_tax (Confirm asked draw auth tax) is = tax_low tax is
no_tax (Admin asked) is = refl
no_tax (Add asked) is = refl
