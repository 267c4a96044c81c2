-- The sales of items by the units that stand of them.
use Rattle.std.proofs.Common.{◌≡◌, ℕ, zero, suc, ◌+◌, ◌-◌, ◌<◌, false, List, [], ◌∷◌, length, replicate, get_or, set, refl, ap, ◌∙◌, arith}
use Rattle.std.specs.List.{All}
use Rattle.std.proofs.lemmas.List.Elements.{All-nil, All-cons}
use Rattle.std.proofs.lemmas.List.{get_or_default}
use Rattle.shop_model.specs.lists.Rankings.{Sale}
use Rattle.shop_model.specs.rows.Sound.{Has}
use Rattle.shop_ranking.specs.StandingBest.{is_sold, sales_from}

abbrev pub sale : ℕ → ℕ → Sale
sale id units = record { id = id; units = units }

pub length_sales : (id : ℕ) (units : List ℕ) → length (sales_from id units) ≡ length units
unfolding sales_from
length_sales id [] = refl
length_sales id (u ∷ us) = ap suc (length_sales (id + 1) us)

-- the sale of an item
pub sales_at : (id : ℕ) (units : List ℕ) (k : ℕ) (d : Sale)
    → k < length units → get_or (sales_from id units) k d ≡ sale (id + k) (get_or units k 0)
unfolding sales_from
sales_at id [] k d within = absurd (omega arith)
sales_at id (u ∷ us) zero d within = let e : id + 0 ≡ id = omega arith in rw e refl
sales_at id (u ∷ us) (suc k) d within = let e : id + suc k ≡ id + 1 + k = omega arith in rw e (sales_at (id + 1) us k d (omega arith))

-- as its units are set
pub sales_set : (id : ℕ) (units : List ℕ) (k now : ℕ)
    → set (sales_from id units) k (sale (id + k) now) ≡ sales_from id (set units k now)
unfolding sales_from
sales_set id [] k now = refl
sales_set id (u ∷ us) zero now = let e : id + 0 ≡ id = omega arith in rw e refl
sales_set id (u ∷ us) (suc k) now =
    let e : id + suc k ≡ id + 1 + k = omega arith in rw e (ap (λ (xs : List Sale). sale id u ∷ xs) (sales_set (id + 1) us k now))

-- without units
pub none_sold : (id n : ℕ) → All (λ s. is_sold s ≡ false) (sales_from id (replicate n 0))
unfolding sales_from
none_sold id zero = All-nil (λ s. is_sold s ≡ false)
none_sold id (suc n) = All-cons (λ s. is_sold s ≡ false) (sale id 0) (sales_from (id + 1) (replicate n 0)) refl (none_sold (id + 1) n)

-- the sale of an item by its id, before and after its units are set
pub sale_before : (units : List ℕ) (item now : ℕ) (d : Sale)
    → Has (length units) item → now ≡ get_or units (item - 1) now → get_or (sales_from 1 units) (item - 1) d ≡ sale item now
sale_before units item now d has here =
    let within : item - 1 < length units = omega (arith, has.first, has.last) in
    let place : 1 + (item - 1) ≡ item = omega (arith, has.first) in
    sales_at 1 units (item - 1) d within
    ∙ rw (place, get_or_default units (item - 1) 0 now within, ← here) refl

pub sale_after : (units : List ℕ) (item now : ℕ)
    → Has (length units) item → set (sales_from 1 units) (item - 1) (sale item now) ≡ sales_from 1 (set units (item - 1) now)
sale_after units item now has =
    let place : 1 + (item - 1) ≡ item = omega (arith, has.first) in
    rw place at (sales_set 1 units (item - 1) now)
