-- What the latest orders are once one more comes: those of a window but the one that leaves, and the new one.
use Rattle.std.proofs.Common.{◌≡◌, ℕ, suc, ◌+◌, ◌-◌, ◌<◌, ◌≤◌, nat_lt, true, false, List, [], ◌∷◌, ◌++◌, length, map, drop, get_or, Option, Some, None, option_map, slice_get, sym, ◌∙◌, ap, arith, ⊎_elim, ◌==◌}
use Rattle.std.specs.Prelude.{option_to_list, option_and_then}
use Rattle.std.proofs.lemmas.Bool.{cases_lt, cond-true, cond-false, eq-eqb, ne_eqb}
use Rattle.std.proofs.lemmas.List.{map-append, length-map, length-drop}
use Rattle.std.proofs.lemmas.Option.{slice_get-get_or}
use Rattle.shop_model.specs.lists.Related.{Sold, sold_of, last}
use Rattle.shop_model.specs.rows.Lookups.{row_numbered}
use Rattle.shop_model.specs.rows.Rows.{OrderRow}
use Rattle.shop_model.specs.rows.Sound.{Runs}
use Rattle.shop_model.proofs.cited.Lists.{id_of_place}
use Rattle.shop_window.specs.Windows as windows
use Rattle.shop_history.specs.MayChange.{leaving}
use Rattle.shop_history.proofs.WindowFrame.{Stays, Leaves, window_moves, drop_more}
use Rattle.shop_history.proofs.cited.Places.{row_there, row_push_other}
use Rattle.shop_book.proofs.KeptLists.{map_last, last_push}

-- one order comes, and one may leave
pub record Moves (before after : List Sold) (gone : Option Sold) (coming : Sold) : Type 0 where
  pub rest : List Sold
  pub before_is : before ≡ option_to_list gone ++ rest
  pub after_is : after ≡ rest ++ coming ∷ []

pub moved : (most : ℕ) (orders : List OrderRow) (order : OrderRow) → 1 ≤ most
    → Moves (map sold_of (last most orders)) (map sold_of (last most (orders ++ order ∷ []))) (option_map sold_of (leaving most orders)) (sold_of order)
moved most orders order some =
    ⊎_elim
    (λ (is : Stays most orders order). record {
      rest = map sold_of (last most orders);
      before_is = ap (λ (o : Option OrderRow). option_to_list (option_map sold_of o) ++ map sold_of (last most orders)) (sym is.none);
      after_is = ap (map sold_of) is.now ∙ map-append sold_of (last most orders) (order ∷ []);
    })
    (λ (is : Leaves most orders order). record {
      rest = map sold_of is.rest;
      before_is = ap (map sold_of) is.before ∙ ap (λ (o : Option OrderRow). option_to_list (option_map sold_of o) ++ map sold_of is.rest) (sym is.leaves);
      after_is = ap (map sold_of) is.now ∙ map-append sold_of is.rest (order ∷ []);
    })
    (window_moves most orders order some)

-- a window that took an order in has the latest ones
pub window_after : (most : ℕ) (orders : List OrderRow) (order : OrderRow) (old new : List Sold) → old ≡ map sold_of (last most orders) → new ≡ last most (old ++ sold_of order ∷ [])
    → new ≡ map sold_of (last most (orders ++ order ∷ []))
window_after most orders order old new before is =
    is
    ∙ ap (λ (l : List Sold). last most (l ++ sold_of order ∷ [])) (before ∙ map_last sold_of most orders)
    ∙ last_push most (map sold_of orders) (sold_of order)
    ∙ ap (last most) (sym (map-append sold_of orders (order ∷ [])))
    ∙ sym (map_last sold_of most (orders ++ order ∷ []))

lt_true : (a b : ℕ) → a < b → nat_lt a b ≡ true
lt_true a b lt = grind (arith, lt)

le_false : (a b : ℕ) → b ≤ a → nat_lt a b ≡ false
le_false a b le = grind (arith, le)

-- the order that leaves a window is found by its id
pub gone_found : (most : ℕ) (orders : List OrderRow) (order : OrderRow) (kept : List Sold) → 1 ≤ most → Runs (map (λ o. o.id) orders) → kept ≡ map sold_of (last most orders)
    → option_and_then (row_numbered (orders ++ order ∷ [])) (windows.leaving most kept) ≡ leaving most orders
gone_found most orders order kept some runs is =
    ⊎_elim
    (λ (few : length orders < most).
    let short : length kept ≡ length orders - (length orders - most) = ap length is ∙ length-map (last most orders) sold_of ∙ length-drop (length orders - most) orders in
    let none : windows.leaving most kept ≡ None = cond-false (length kept == most) (windows.first_id kept) None (ne_eqb (length kept) most (λ same. omega (arith, same, short, few))) in
    ap (option_and_then (row_numbered (orders ++ order ∷ []))) none
    ∙ sym (cond-true (nat_lt (length orders) most) None (slice_get orders (length orders - most)) (lt_true (length orders) most few)))
    (λ (many : most ≤ length orders).
    let n : ℕ = length orders - most in
    let within : n < length orders = omega (arith, many, some) in
    let gone : OrderRow = get_or orders n order in
    let at : slice_get orders n ≡ Some gone = slice_get-get_or orders n order within in
    let first : last most orders ≡ gone ∷ drop (suc n) orders = drop_more n orders gone at in
    let long : length kept ≡ most = ap length is ∙ length-map (last most orders) sold_of ∙ length-drop n orders ∙ omega (arith, many) in
    let id : gone.id ≡ n + 1 = id_of_place (λ (o : OrderRow). o.id) orders n order runs within ∙ omega arith in
    let leaves : windows.leaving most kept ≡ Some (n + 1)
    = cond-true (length kept == most) (windows.first_id kept) None (eq-eqb (length kept) most long)
    ∙ ap windows.first_id (is ∙ ap (map sold_of) first) ∙ ap Some id in
    let place : n + 1 - 1 ≡ n = omega arith in
    let there : row_numbered orders (n + 1) ≡ Some gone = row_there orders (n + 1) gone (record { above = omega arith; at = ap (slice_get orders) place ∙ at }) in
    ap (option_and_then (row_numbered (orders ++ order ∷ []))) leaves
    ∙ row_push_other orders (n + 1) order (λ same. omega (arith, same, within))
    ∙ there
    ∙ sym (cond-false (nat_lt (length orders) most) None (slice_get orders n) (le_false (length orders) most many) ∙ at))
    (cases_lt (length orders) most)
