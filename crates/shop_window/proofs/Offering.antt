-- Items that are offered one after the other, from the last to the first, as their pairs are walked.
use Rattle.std.proofs.Common.{◌≡◌, ◌≢◌, ℕ, zero, suc, ◌+◌, ◌-◌, ◌<◌, ◌≤◌, ◌==◌, Bool, true, false, List, [], ◌∷◌, length, take, drop, get_or, refl, sym, ap, ◌∙◌, arith, if◌then◌else◌}
use Rattle.std.specs.List.{All, range_with_len}
use Rattle.std.specs.List.Sorted.{IsNonDecreasingBy}
use Rattle.std.proofs.lemmas.Bool.{eq-eqb, ne_eqb}
use Rattle.std.proofs.lemmas.List.{drop_all}
use Rattle.std.proofs.lemmas.List.Sums.{sum_by-cons, sum_by-take-drop}
use Rattle.shop_text.proofs.cited.Lists.{drop_before}
use Rattle.shop_model.specs.rows.Sound.{Has}
use Rattle.shop_model.specs.lists.Rankings.{Sale, better, in_order}
use Rattle.shop_model.specs.lists.Related.{units_in_lines}
use Rattle.shop_window.specs.Gathered.{sale_in, is_beside, besides_from, offered}
use Rattle.shop_window.specs.Totals.{units_of}
use Rattle.shop_window.proofs.Adding.{units_cons}
use Rattle.shop_window.proofs.Putting.{take_put}

-- units of one pair more

units_other : (id : ℕ) (pair : ℕ × ℕ) (pairs : List (ℕ × ℕ)) → pair.0 ≢ id → units_in_lines id (pair ∷ pairs) ≡ units_in_lines id pairs
units_other id pair pairs other = units_cons id pair pairs ∙ rw (ne_eqb pair.0 id other) (omega arith)

units_same : (id : ℕ) (pair : ℕ × ℕ) (pairs : List (ℕ × ℕ)) → pair.0 ≡ id → units_in_lines id (pair ∷ pairs) ≡ units_in_lines id pairs + pair.1
units_same id pair pairs same = units_cons id pair pairs ∙ rw (eq-eqb pair.0 id same) (omega arith)

-- an item has no units in the pairs of smaller ones
units_behind : (pairs : List (ℕ × ℕ)) (n most id : ℕ) → ((i : ℕ) → i < n → i < length pairs → (get_or pairs i (0, 0)).0 ≤ most) → most < id
    → units_in_lines id pairs ≡ units_in_lines id (drop n pairs)
units_behind [] zero most id low less = refl
units_behind [] (suc n) most id low less = refl
units_behind (pair ∷ pairs) zero most id low less = refl
units_behind (pair ∷ pairs) (suc n) most id low less =
    units_other id pair pairs (λ e. absurd (omega (arith, e, less, low 0 (omega arith) (omega arith))))
    ∙ units_behind pairs n most id (λ i before within. low (suc i) (omega arith) (omega arith)) less

chosen_part : (b : Bool) (quantity : ℕ) → (if b then quantity else 0) ≤ quantity
chosen_part true quantity = omega arith
chosen_part false quantity = omega arith

part_of : (id : ℕ) (pairs : List (ℕ × ℕ)) → units_in_lines id pairs ≤ units_of pairs
part_of id [] = omega arith
part_of id (pair ∷ pairs) =
    omega (arith, units_cons id pair pairs, sum_by-cons (λ (p : ℕ × ℕ). p.1) pair pairs, chosen_part (pair.0 == id) pair.1, part_of id pairs)

-- the items from one id on

ids_from : (id items : ℕ) → id ≤ items → range_with_len id (items + 1 - id) ≡ id ∷ range_with_len (id + 1) (items + 1 - (id + 1))
ids_from id items within = let size : items + 1 - id ≡ suc (items + 1 - (id + 1)) = omega arith in rw size refl

besides_more : (pairs : List (ℕ × ℕ)) (item items id : ℕ) → id ≤ items → is_beside item (sale_in pairs id) ≡ true
    → besides_from id pairs item items ≡ sale_in pairs id ∷ besides_from (id + 1) pairs item items
besides_more pairs item items id within is = rw (ids_from id items within, is) refl

besides_same : (pairs : List (ℕ × ℕ)) (item items id : ℕ) → id ≤ items → is_beside item (sale_in pairs id) ≡ false
    → besides_from id pairs item items ≡ besides_from (id + 1) pairs item items
besides_same pairs item items id within is = rw (ids_from id items within, is) refl

-- items without units count for nothing
besides_later : (pairs : List (ℕ × ℕ)) (item items id n to : ℕ) → id + n ≡ to → to ≤ items + 1
    → ((k : ℕ) → id ≤ k → k < to → units_in_lines k pairs ≡ 0) → besides_from id pairs item items ≡ besides_from to pairs item items
besides_later pairs item items id zero to is within none = ap (λ k. besides_from k pairs item items) (omega (arith, is))
besides_later pairs item items id (suc n) to is within none =
    besides_same pairs item items id (omega arith) (rw (none id (omega arith) (omega arith)) refl)
    ∙ besides_later pairs item items (id + 1) n to (omega arith) within (λ k from before. none k (omega arith) before)

abbrev top_from : ℕ → List (ℕ × ℕ) → ℕ → ℕ → List Sale
top_from id pairs item items = take 5 (in_order better (besides_from id pairs item items))

offered_either : (b : Bool) (pairs : List (ℕ × ℕ)) (item items id : ℕ) → id ≤ items → is_beside item (sale_in pairs id) ≡ b
    → offered item (sale_in pairs id) (top_from (id + 1) pairs item items) ≡ top_from id pairs item items
unfolding in_order
offered_either true pairs item items id within is =
    rw is (take_put better 5 (sale_in pairs id) (in_order better (besides_from (id + 1) pairs item items))
    ∙ sym (ap (λ ss. take 5 (in_order better ss)) (besides_more pairs item items id within is)))
offered_either false pairs item items id within is =
    rw is (sym (ap (λ ss. take 5 (in_order better ss)) (besides_same pairs item items id within is)))

-- the pairs from a place on were walked: the sale of their first item is next, and those of later items are done
pub record IsWalked (pairs : List (ℕ × ℕ)) (item items place : ℕ) (sale : Sale) (top : List Sale) : Type 0 where
  pub some : 1 ≤ sale.id
  pub last : sale.id ≤ items
  pub behind : (i : ℕ) → i < place → (get_or pairs i (0, 0)).0 ≤ sale.id
  pub none : (id : ℕ) → id < sale.id → units_in_lines id (drop place pairs) ≡ 0
  pub units : units_in_lines sale.id (drop place pairs) ≡ sale.units
  pub done : top ≡ top_from (sale.id + 1) pairs item items

-- where none was walked
pub walked_none : (pairs : List (ℕ × ℕ)) (item items : ℕ) → 1 ≤ items → All (λ p. Has items p.0) pairs
    → IsWalked pairs item items (length pairs) (record { id = items; units = 0 }) []
unfolding in_order
walked_none pairs item items some names =
    let over : drop (length pairs) pairs ≡ [] = drop_all (length pairs) pairs (omega arith) in
    let size : items + 1 - (items + 1) ≡ 0 = omega arith in
    record {
      some = some;
      last = omega arith;
      behind = λ i within. (names i (0, 0) within).last;
      none = λ id low. rw over refl;
      units = rw over refl;
      done = rw size refl;
    }

-- a pair more of the same item
pub walked_same : (pairs : List (ℕ × ℕ)) (item items place : ℕ) (pair : ℕ × ℕ) (sale : Sale) (top : List Sale)
    → 0 < place → place ≤ length pairs → pair ≡ get_or pairs (place - 1) (0, 0) → pair.0 ≡ sale.id
    → IsWalked pairs item items place sale top → IsWalked pairs item items (place - 1) (record { id = sale.id; units = sale.units + pair.1 }) top
walked_same pairs item items place pair sale top some within is same was =
    let before : drop (place - 1) pairs ≡ pair ∷ drop place pairs = drop_before pairs place (0, 0) some within ∙ rw (← is) refl in
    record {
      some = was.some;
      last = was.last;
      behind = λ i low. was.behind i (omega arith);
      none = λ id low. ap (units_in_lines id) before ∙ units_other id pair (drop place pairs) (λ e. absurd (omega (arith, e, same))) ∙ was.none id low;
      units = ap (units_in_lines sale.id) before ∙ units_same sale.id pair (drop place pairs) same ∙ ap (λ k. k + pair.1) was.units;
      done = was.done;
    }

-- its units may be added
pub walked_fits : (pairs : List (ℕ × ℕ)) (item items place : ℕ) (pair : ℕ × ℕ) (sale : Sale) (top : List Sale)
    → 0 < place → place ≤ length pairs → pair ≡ get_or pairs (place - 1) (0, 0) → pair.0 ≡ sale.id
    → IsWalked pairs item items place sale top → sale.units + pair.1 ≤ units_of pairs
walked_fits pairs item items place pair sale top some within is same was =
    let now = walked_same pairs item items place pair sale top some within is same was in
    omega (arith, now.units, part_of sale.id (drop (place - 1) pairs), sum_by-take-drop (λ (p : ℕ × ℕ). p.1) pairs (place - 1))

-- the sale is done where the pairs that are left are of smaller items
walked_done : (pairs : List (ℕ × ℕ)) (item items place most : ℕ) (sale : Sale) (top : List Sale) → most < sale.id
    → ((i : ℕ) → i < place → (get_or pairs i (0, 0)).0 ≤ most)
    → IsWalked pairs item items place sale top → offered item sale top ≡ top_from (most + 1) pairs item items
walked_done pairs item items place most sale top less low was =
    let left = λ (id : ℕ) (over : most < id). units_behind pairs place most id (λ i before within. low i before) over in
    let all : units_in_lines sale.id pairs ≡ sale.units = left sale.id less ∙ was.units in
    let later = besides_later pairs item items (most + 1) (sale.id - (most + 1)) sale.id (omega arith) (omega (arith, was.last))
    (λ id from before. left id (omega arith) ∙ was.none id before) in
    ap (offered item sale) was.done
    ∙ ap (λ k. offered item (record { id = sale.id; units = k }) (top_from (sale.id + 1) pairs item items)) (sym all)
    ∙ offered_either (is_beside item (sale_in pairs sale.id)) pairs item items sale.id was.last refl
    ∙ sym (ap (λ ss. take 5 (in_order better ss)) later)

-- a pair more of another item
pub walked_other : (pairs : List (ℕ × ℕ)) (item items place : ℕ) (pair : ℕ × ℕ) (sale : Sale) (top : List Sale)
    → IsNonDecreasingBy (λ p. p.0) pairs → All (λ p. Has items p.0) pairs
    → 0 < place → place ≤ length pairs → pair ≡ get_or pairs (place - 1) (0, 0) → pair.0 ≢ sale.id
    → IsWalked pairs item items place sale top
    → IsWalked pairs item items (place - 1) (record { id = pair.0; units = pair.1 }) (offered item sale top)
walked_other pairs item items place pair sale top rising names some within is other was =
    let before : drop (place - 1) pairs ≡ pair ∷ drop place pairs = drop_before pairs place (0, 0) some within ∙ rw (← is) refl in
    let here : (get_or pairs (place - 1) (0, 0)).0 ≡ pair.0 = ap (λ (p : ℕ × ℕ). p.0) (sym is) in
    let name = names (place - 1) (0, 0) (omega arith) in
    let less : pair.0 < sale.id = omega (arith, here, was.behind (place - 1) (omega arith), other) in
    let low : (i : ℕ) → i < place → (get_or pairs i (0, 0)).0 ≤ pair.0 =
    λ i under. omega (arith, here, rising i (place - 1) (0, 0) (omega arith) (omega arith)) in
    record {
      some = omega (arith, here, name.first);
      last = omega (arith, here, name.last);
      behind = λ i under. low i (omega arith);
      none = λ id under. ap (units_in_lines id) before ∙ units_other id pair (drop place pairs) (λ e. absurd (omega (arith, e, under))) ∙ was.none id (omega arith);
      units = ap (units_in_lines pair.0) before ∙ units_same pair.0 pair (drop place pairs) refl ∙ ap (λ k. k + pair.1) (was.none pair.0 less) ∙ omega arith;
      done = walked_done pairs item items place pair.0 sale top less low was;
    }

-- all pairs were walked
pub walked_all : (pairs : List (ℕ × ℕ)) (item items : ℕ) (sale : Sale) (top : List Sale) → IsWalked pairs item items 0 sale top
    → offered item sale top ≡ top_from 1 pairs item items
walked_all pairs item items sale top was =
    walked_done pairs item items 0 0 sale top was.some (λ i under. absurd (omega arith)) was
