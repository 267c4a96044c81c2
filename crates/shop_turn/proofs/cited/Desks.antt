-- The desks of a new shop, and what each keeps through calls that are known by its seat alone.
use Rattle.std.proofs.Common.{◌≡◌, ⊎_elim, ℕ, zero, suc, ◌+◌, ◌-◌, ◌≤◌, ◌<◌, List, [], ◌∷◌, length, get_or, refl, sym, ap, ◌∙◌, arith, length-append}
use Rattle.std.proofs.lemmas.Bool.{cases_lt}
use Rattle.std.proofs.lemmas.List.{get_or_append_left, get_or-append_right}
use Rattle.std.proofs.lemmas.List.Elements.{All-nil, All-cons, All-contains, Contains-get_or}
use Rattle.std.specs.List.{All}
use Rattle.atomic_table.specs.Seated.{TableId}
use Rattle.shop_attempt.specs.Seats.{Follows}
use Rattle.shop_book.specs.Books.{BookValue}
use Rattle.shop_turn.specs.declared.rule.Origin.{Origin}
use Rattle.shop_turn.specs.Desks.{DeskValue, moments_of, greatest_of, seat_of, IsOneShop}
use Rattle.shop_turn.specs.Shops.{new_desk, new_desks, IsAll, IsMomentOf}

pub new_size : (table : TableId) (b : BookValue) (callers n : ℕ) → length (new_desks table b callers n) ≡ n
new_size table b callers zero = refl
new_size table b callers (suc n) =
    omega (arith, length-append (new_desks table b callers n) (new_desk table b callers (suc n) ∷ []), new_size table b callers n)

-- the desk at a place has the next number
pub new_at : (table : TableId) (b : BookValue) (callers n k : ℕ) (d : DeskValue) → k < n → get_or (new_desks table b callers n) k d ≡ new_desk table b callers (k + 1)
new_at table b callers zero k d within = absurd (omega (arith, within))
new_at table b callers (suc n) k d within =
    let ds : List DeskValue = new_desks table b callers n in
    let last : List DeskValue = new_desk table b callers (suc n) ∷ [] in
    let size : length ds ≡ n = new_size table b callers n in
    ⊎_elim
    (λ (before : k < n). get_or_append_left ds last d k (omega (arith, before, size)) ∙ new_at table b callers n k d before)
    (λ (behind : n ≤ k).
    let first : k - n ≡ 0 = omega (arith, behind, within) in
    let number : suc n ≡ k + 1 = omega (arith, behind, within) in
    get_or-append_right ds last n k d size behind ∙ ap (λ i. get_or last i d) first ∙ ap (new_desk table b callers) number)
    (cases_lt k n)

-- how the shop began stays
pub origin_stays : (d e : DeskValue) → Follows (seat_of d) (seat_of e) → e.origin ≡ d.origin
origin_stays d e f = λ i. record { size = size i; latest = latest i; callers = callers i; opening = record { tables = f.opening i; limit = f.limit i } }
  where
    size : e.origin.size ≡ d.origin.size
    size = let n = f.shop in cc

    latest : e.origin.latest ≡ d.origin.latest
    latest = let n = f.shop in cc

    callers : e.origin.callers ≡ d.origin.callers
    callers = let n = f.shop in cc

-- and so do the desks of one shop
pub one_shop_stays : (d d' e e' : DeskValue) → IsOneShop d e → Follows (seat_of d) (seat_of d') → Follows (seat_of e) (seat_of e') → IsOneShop d' e'
one_shop_stays d d' e e' one f g = g.shop ∙ one ∙ sym f.shop

-- desks with the numbers from 1 on are all desks
pub are_all : (origin : Origin) (ds : List DeskValue) (d : DeskValue) → length ds ≡ origin.callers → ((k : ℕ) → k < length ds → (get_or ds k d).number ≡ k + 1) → IsAll origin ds
are_all origin ds d size numbers c one most =
    let within : c - 1 < length ds = omega (arith, size, one, most) in
    (get_or ds (c - 1) d, Contains-get_or ds (c - 1) d within, numbers (c - 1) within ∙ omega (arith, one))

-- a moment is at most the greatest
within_greatest : (ms : List (ℕ × ℕ)) → All (λ t. t ≤ greatest_of ms) (moments_of ms)
within_greatest ms = each ms (greatest_of ms) (omega arith)
  where
    each : (ms : List (ℕ × ℕ)) (most : ℕ) → greatest_of ms ≤ most → All (λ t. t ≤ most) (moments_of ms)
    each [] most le = All-nil (λ t. t ≤ most)
    each (m ∷ ms) most le = All-cons (λ t. t ≤ most) m.1 (moments_of ms) (omega arith) (each ms most (omega arith))

pub moment_within : (ds : List DeskValue) (most t : ℕ) → All (λ d. (seat_of d).greatest ≤ most) ds → IsMomentOf ds t → t ≤ most
moment_within ds most t all of =
    let d : DeskValue = of.0 in
    let one : t ≤ greatest_of d.marks = All-contains (λ n. n ≤ greatest_of d.marks) (moments_of d.marks) t (within_greatest d.marks) of.2 in
    let two : greatest_of d.marks ≤ most = All-contains (λ (x : DeskValue). (seat_of x).greatest ≤ most) ds d all of.1 in
    omega arith
