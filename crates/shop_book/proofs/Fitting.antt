-- Where there is room, each row that comes has a place.
use Rattle.std.proofs.Common.{◌≡◌, ℕ, ◌+◌, ◌<◌, ◌≤◌, true, false, List, length, take, get_or, sym, ◌∙◌, ap, subst, arith, length-take-le}
use Rattle.std.proofs.lemmas.Bool.{eqb-true}
use Rattle.std.proofs.lemmas.List.Elements.{All-contains}
use Rattle.std.proofs.lemmas.List.Sums.{count_by-le-length, count_by_more_yes, count_by_more_no}
use Rattle.std.proofs.lemmas.Map.Views.{Contains-from_any}
use Rattle.shop_model.specs.declared.tables.Tables.{Tables}
use Rattle.shop_book.specs.declared.puts.Put.{Put}
use Rattle.shop_book.specs.declared.rows.Rows.{Rows}
use Rattle.shop_book.specs.declared.versions.Versions.{Versions}
use Rattle.shop_book.specs.Places.{sizes, grown, grows, growth}
use Rattle.shop_book.specs.Puts.{all_put}
use Rattle.shop_book.specs.RowsNow.{tables_with}
use Rattle.shop_book.specs.Stored.{numbers, HasPlaces, HasRoom, HasRoomFor, MorePlaces}
use Rattle.shop_book.proofs.Ascending.{by_test}
use Rattle.shop_book.proofs.Sizes.{sizes_in, few_more}

-- rows that are the same need as many places
pub same_sizes : {v : Versions} {one other : Rows} (t : Tables) → tables_with t other ≡ tables_with t one → HasPlaces v one → HasPlaces v other
same_sizes {v} {one} {other} t same has =
    record {
      long = has.long;
      each = λ column. subst (λ (ns : List ℕ). get_or ns column 0 ≤ length (numbers v column)) (sym (ap sizes_in same)) (has.each column);
    }

pub room_places : {v : Versions} {rows : Rows} {puts : List Put} → HasRoom v rows puts → HasPlaces v rows
room_places room = record { long = room.long; each = λ column. omega (arith, room.each column) }

-- once the writes were made
pub all_placed : (v : Versions) (old new : Rows) (t : Tables) (stamp : ℕ) (puts : List Put) → tables_with t new ≡ all_put (tables_with t old) stamp puts → HasRoom v old puts → HasPlaces v new
all_placed v old new t stamp puts made room =
    record {
      long = room.long;
      each = λ column.
          let few : get_or (sizes new) column 0 ≤ get_or (sizes old) column 0 + growth puts column
          = subst (λ (ns : List ℕ). get_or ns column 0 ≤ get_or (sizes old) column 0 + growth puts column) (sym (ap sizes_in made)) (few_more (tables_with t old) stamp puts column) in
          omega (arith, few, room.each column);
    }

-- room for the first writes
abbrev pub HasRoomUntil : Versions → Rows → List Put → ℕ → Type 0
HasRoomUntil v rows puts i = (column : ℕ) → get_or (sizes rows) column 0 + growth (take i puts) column ≤ length (numbers v column)

-- and for one more
pub room_more : (v w : Versions) (rows : Rows) (puts : List Put) (i : ℕ) (p : Put) → i < length puts → p ≡ get_or puts i p → MorePlaces v w → HasRoomFor w rows (length puts) p
    → HasRoomUntil v rows puts i → HasRoomUntil w rows puts (i + 1)
room_more v w rows puts i p within is more for_one before column =
    by_test (grows column p)
    (λ (yes : grows column p ≡ true).
    let one : growth (take (i + 1) puts) column ≡ growth (take i puts) column + 1 = count_by_more_yes (grows column) puts i p within (ap (grows column) (sym is) ∙ yes) in
    let few : growth (take i puts) column ≤ length (take i puts) = count_by-le-length (grows column) (take i puts) in
    let here : get_or (sizes rows) column 0 + length puts ≤ length (numbers w column)
    = All-contains (λ (c : ℕ). get_or (sizes rows) c 0 + length puts ≤ length (numbers w c)) (grown p) column for_one (Contains-from_any (λ x y same. eqb-true x y same) column (grown p) yes) in
    omega (arith, one, few, length-take-le i puts (omega (arith, within)), within, here))
    (λ (no : grows column p ≡ false).
    let none : growth (take (i + 1) puts) column ≡ growth (take i puts) column = count_by_more_no (grows column) puts i p within (ap (grows column) (sym is) ∙ no) in
    omega (arith, none, before column, more.each column))
