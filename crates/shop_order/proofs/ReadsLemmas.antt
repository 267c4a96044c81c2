-- Reads of one key, and of the items of lines; reads with others behind them; and the rate of a country that was read.
use Rattle.std.proofs.Common.{◌≡◌, ℕ, ◌-◌, List, [], ◌∷◌, ◌++◌, length, length-append, get_or, Option, option_map, unwrap_or, refl, sym, ◌∙◌, ap, arith}
use Rattle.std.proofs.Math.Seq.{get_or-append_seam}
use Rattle.std.proofs.lemmas.List.{length-map}
use Rattle.shop_model.specs.declared.tables.Tables.{Tables}
use Rattle.shop_model.specs.rows.Lookups.{row_numbered, rate_of}
use Rattle.shop_model.specs.rows.Rows.{CountryRow}
use Rattle.shop_history.specs.declared.keys.Key.{Key}
use Rattle.shop_history.specs.declared.keys.Key.TheVariants as key
use Rattle.shop_history.specs.declared.keys.Row.TheVariants as row
use Rattle.shop_history.specs.Keys.{row_of}
use Rattle.shop_history.proofs.cited.Shown.{country_found}
use Rattle.shop_attempt.specs.declared.attempts.ReadOf.{ReadOf}
use Rattle.shop_attempt.specs.Reads.{Shows}
use Rattle.shop_browse.specs.Driver.{keys_of}
use Rattle.shop_order.specs.ShoppingCart.{AreItems}

pub one_read : (k : Key) (reads : List ReadOf) → keys_of reads ≡ k ∷ [] → (read : ReadOf) × (reads ≡ read ∷ []) × (read.key ≡ k)
one_read k [] are = absurd cc
one_read k (read ∷ []) are = (read, refl, cc)
one_read k (read ∷ other ∷ reads) are = absurd cc

-- so many as lines
pub many_items : (lines : List (ℕ × ℕ)) (items : List ReadOf) → AreItems lines items → length lines ≡ length items
many_items lines items are = sym (length-map lines (λ l. key.Item l.0)) ∙ ap length (sym are) ∙ length-map items (λ r. r.key)

-- the last of them
pub last_read : (before reads : List ReadOf) (last read : ReadOf) → reads ≡ before ++ last ∷ [] → get_or reads (length reads - 1) read ≡ last
last_read before reads last read is =
    let place : length (before ++ last ∷ []) - 1 ≡ length before = omega (arith, length-append before (last ∷ [])) in
    ap (λ (l : List ReadOf). get_or l (length l - 1) read) is
    ∙ ap (λ n. get_or (before ++ last ∷ []) n read) place
    ∙ get_or-append_seam before last [] read

-- tables that show all show those in front and those behind
pub shows_both : (t : Tables) (one other : List ReadOf) → Shows t (one ++ other) → Shows t one × Shows t other
shows_both t [] other shows = (tt, shows)
shows_both t (read ∷ one) other shows = let more = shows_both t one other shows.1 in ((shows.0, more.0), more.1)

pub rate_found : (t : Tables) (country : ℕ) (r : CountryRow) → row_of t (key.Country country) ≡ row.Country r → rate_of t country ≡ r.rate
rate_found t country r is = ap (λ (o : Option CountryRow). unwrap_or (option_map (λ c. c.rate) o) 0) (country_found (row_numbered t.countries country) r is)
