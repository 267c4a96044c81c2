-- What a seat with the turn has of the shares, as it gathers them, counts an entry and gives them back.
use Rattle.std.proofs.Common.{◌≡◌, ℕ, ◌+◌, ◌-◌, ◌*◌, ◌≤◌, ◌<◌, List, [], ◌∷◌, max, Option, Some, None, sym, subst, arith, ◌∙◌, ap, refl, zero, suc}
use Rattle.atomic_table.specs.Table.{rest}
use Rattle.shop_book.specs.Books.{BookValue}
use Rattle.shop_turn.specs.declared.rule.View.{View}
use Rattle.shop_turn.specs.Views.{turning, gathering, knowing, raising, appending, filling, giving}
use Rattle.shop_turn.specs.Plays.{AtTable, slot_log}
use Rattle.shop_turn.specs.Seats.{IsReady, HasTurn, HasShares, IsCounted, empties}
use Rattle.shop_turn.proofs.SeatLemmas.{top_slot}

-- a book whose opening is the shop's is the one that a share of it makes known
own_book : (v : View) (b : BookValue) → b.opening ≡ v.origin.opening → b ≡ record { opening = v.origin.opening; log = b.log; latest = b.latest }
own_book v b opening = λ i. record { opening = opening i; log = b.log; latest = b.latest }

pub turn_share : (number callers : ℕ) (share : BookValue) (old now : AtTable) → IsReady number callers old → share.opening ≡ old.0.origin.opening → now ≡ (turning share old.0, (0, None) ∷ []) → HasShares 0 share now
turn_share number callers share old now r opening e =
    subst (HasShares 0 share) (sym e) (record { live = r.live; one = let a = r.one in let b = r.number_is in omega arith; has = refl; gathered = refl; book = own_book old.0 share opening; slots = refl })

pub turn_next : (i callers : ℕ) (share : BookValue) (m : AtTable) → HasShares i share m → i < callers → HasTurn (i + 1) callers m
turn_next i callers share m k more = record { live = k.live; one = k.one; has = k.has; gathered = ap (λ j. j + 1) k.gathered; most = omega arith }

pub more_shares : (i : ℕ) (share : BookValue) (m now : AtTable) → HasShares i share m → now ≡ (gathering m.0, (8 * (i + 1), None) ∷ m.1) → HasShares (i + 1) share now
more_shares i share m now k e =
    let next : suc i ≡ i + 1 = omega arith in
    subst (HasShares (i + 1) share) (sym e) (record {
      live = k.live;
      one = k.one;
      has = k.has;
      gathered = ap (λ j. j + 1) k.gathered;
      book = k.book;
      slots = ap (λ l. (8 * (i + 1), None) ∷ l) k.slots ∙ subst (λ j. (8 * j, None) ∷ empties i ≡ empties j) next refl;
    })

pub more_keeps : (v : View) (m now : AtTable) (more : List (ℕ × Option BookValue)) → now ≡ (gathering m.0, more) → giving m.0 ≡ giving v → giving now.0 ≡ giving v
more_keeps v m now more e kept = ap (λ (x : AtTable). giving x.0) e ∙ kept

top_empty : (left : ℕ) (l : List (ℕ × Option BookValue)) → l ≡ empties left → 0 < left → l ≡ (8 * left, None) ∷ rest l
top_empty zero l is some_left = absurd (omega arith)
top_empty (suc left) l is some_left = top_slot l (8 * suc left, None) (empties left) is

rest_empty : (left : ℕ) → 0 < left → rest (empties left) ≡ empties (left - 1)
rest_empty zero some_left = absurd (omega arith)
rest_empty (suc left) some_left = ap empties (let e : left ≡ suc left - 1 = omega arith in e)

pub top_of : (left : ℕ) (share : BookValue) (m : AtTable) → HasShares left share m → 0 < left → m.1 ≡ (8 * left, None) ∷ rest m.1
top_of left share m k some_left = top_empty left m.1 k.slots some_left

-- a share went back
pub filled_as : (left : ℕ) (share : BookValue) (m now new : AtTable) → HasShares left share m → now ≡ (m.0, (8 * left, Some share) ∷ rest m.1) → new ≡ (filling now.0, rest now.1) → 0 < left → HasShares (left - 1) share new
filled_as left share m now new k e f some_left =
    let is : new ≡ (filling m.0, rest m.1) = f ∙ ap (λ (x : AtTable). (filling x.0, rest x.1)) e in
    subst (HasShares (left - 1) share) (sym is) (record { live = k.live; one = k.one; has = k.has; gathered = ap (λ j. j - 1) k.gathered; book = k.book; slots = ap rest k.slots ∙ rest_empty left some_left })

pub filled_keeps : (v : View) (m now new : AtTable) (more less : List (ℕ × Option BookValue)) → now ≡ (m.0, more) → new ≡ (filling now.0, less) → giving m.0 ≡ giving v → giving new.0 ≡ giving v
filled_keeps v m now new more less e f kept = ap (λ (x : AtTable). giving x.0) f ∙ ap (λ (x : AtTable). giving x.0) e ∙ kept

-- the share of the turn is in its slot again
pub turn_top : (share : BookValue) (m : AtTable) → HasShares 0 share m → m.1 ≡ (0, None) ∷ rest m.1
turn_top share m k = top_slot m.1 (0, None) [] k.slots

pub given_as : (share : BookValue) (v : View) (m laid new : AtTable) → HasShares 0 share m → giving m.0 ≡ giving v → laid ≡ (m.0, (0, Some share) ∷ rest m.1) → new ≡ (giving laid.0, rest laid.1) → new ≡ (giving v, [])
given_as share v m laid new k kept e f = f ∙ ap (λ (x : AtTable). (giving x.0, rest x.1)) e ∙ (λ i. (kept i, rest (k.slots i)))

-- an entry more was counted
module _ (callers t : ℕ) (share : BookValue) (old lifted laid counted : AtTable) (k : IsCounted callers t share old) (some_caller : 1 ≤ callers)
    (e : lifted ≡ (knowing (max old.0.latest t) (raising t old.0), old.1)) (f : laid ≡ (lifted.0, (8 * callers, Some share) ∷ rest lifted.1)) (g : counted ≡ (appending (slot_log laid.1) laid.0, laid.1)) where
  pub lifted_top : lifted.1 ≡ (8 * callers, None) ∷ rest lifted.1
  lifted_top = top_empty callers lifted.1 (ap (λ (x : AtTable). x.1) e ∙ k.all.slots) some_caller

  counted_is : counted ≡ (appending share.log (knowing (max old.0.latest t) (raising t old.0)), (8 * callers, Some share) ∷ rest old.1)
  counted_is = g ∙ ap (λ (x : AtTable). (appending (slot_log x.1) x.0, x.1)) f ∙ ap (λ (x : AtTable). (appending share.log x.0, (8 * callers, Some share) ∷ rest x.1)) e

  pub counted_top : counted.1 ≡ (8 * callers, Some share) ∷ rest counted.1
  counted_top = top_slot counted.1 (8 * callers, Some share) (rest old.1) (ap (λ (x : AtTable). x.1) counted_is)

  module _ (new : AtTable) (x : new ≡ (counted.0, (8 * callers, None) ∷ rest counted.1)) where
    new_is : new ≡ (appending share.log (knowing (max old.0.latest t) (raising t old.0)), (8 * callers, None) ∷ rest old.1)
    new_is = x ∙ ap (λ (y : AtTable). (y.0, (8 * callers, None) ∷ rest y.1)) counted_is

    pub counted_shares : HasShares callers share new
    counted_shares = subst (HasShares callers share) (sym new_is) (record {
      live = k.all.live;
      one = k.all.one;
      has = k.all.has;
      gathered = k.all.gathered;
      book = λ i. record { opening = (k.longer.is i).opening; log = share.log; latest = (k.longer.is i).latest };
      slots = sym (top_empty callers old.1 k.all.slots some_caller) ∙ k.all.slots;
    })

    pub counted_keeps : giving new.0 ≡ giving (appending share.log (raising t old.0))
    counted_keeps = ap (λ (y : AtTable). giving y.0) new_is
