-- Writes add few rows.
use Rattle.std.proofs.Common.{ℕ, zero, suc, ◌+◌, ◌-◌, ◌≤◌, eqb, List, [], ◌∷◌, ◌++◌, length, get_or, slice_set, cond, arith, length-append}
use Rattle.std.proofs.lemmas.Bool.{cond_both}
use Rattle.std.proofs.lemmas.List.{length-set}
use Rattle.std.proofs.lemmas.List.Sums.{sum_by-cons}
use Rattle.shop_model.specs.declared.tables.Tables.{Tables}
use Rattle.shop_model.specs.rows.Limits.{day_of}
use Rattle.shop_model.specs.trade.Buyers.{logged_in}
use Rattle.shop_attempt.specs.Writes.{put_row, entered}
use Rattle.shop_attempt.proofs.cited.Writes.{changed_length}
use Rattle.shop_book.specs.declared.puts.Put.{Put}
use Rattle.shop_book.specs.declared.puts.Put.TheVariants as put
use Rattle.shop_book.specs.Places.{grows, growth}
use Rattle.shop_book.specs.Puts.{put_one, all_put}

-- how many places each column needs for the rows of some tables
abbrev pub sizes_in : Tables → List ℕ
sizes_in t =
    length t.items ∷ length t.customers ∷ length t.customers ∷ length t.carts ∷ 24 ∷ 24 ∷ length t.items ∷ length t.customers ∷ length t.addresses ∷ 0 ∷ length t.orders ∷ []

-- each number is larger by so many at most
AreFew : List ℕ → List ℕ → (ℕ → ℕ) → Type 0
AreFew [] ys more = Unit {0}
AreFew (x ∷ xs) [] more = ⊥
AreFew (x ∷ xs) (y ∷ ys) more = (x ≤ y + more 0) × AreFew xs ys (λ k. more (suc k))

few_at : (xs ys : List ℕ) (more : ℕ → ℕ) → AreFew xs ys more → (k : ℕ) → get_or xs k 0 ≤ get_or ys k 0 + more k
unfolding AreFew
few_at [] ys more few k = omega arith
few_at (x ∷ xs) [] more few k = absurd few
few_at (x ∷ xs) (y ∷ ys) more few zero = few.0
few_at (x ∷ xs) (y ∷ ys) more few (suc k) = few_at xs ys (λ n. more (suc n)) few.1 k

put_one_more : {Row : Type 0} (rows : List Row) (id : ℕ) (make : ℕ → Row) → length (put_row rows id make) ≤ length rows + 1
put_one_more {Row} rows id make =
    cond_both (eqb id 0) (rows ++ make (length rows + 1) ∷ []) (slice_set rows (id - 1) (make id)) (λ (xs : List Row). length xs ≤ length rows + 1)
    (λ _. omega (arith, length-append rows (make (length rows + 1) ∷ []))) (λ _. omega (arith, length-set rows (id - 1) (make id)))

few_one : (t : Tables) (stamp : ℕ) (p : Put) → AreFew (sizes_in (put_one t stamp p)) (sizes_in t) (λ column. cond (grows column p) 1 0)
unfolding AreFew
few_one t stamp (put.Cart cart) = grind (arith, put_one_more t.carts cart.id (λ id. record cart { id = id }))
few_one t stamp (put.Login id) = grind (arith, changed_length t.customers id (logged_in stamp))
few_one t stamp (put.Customer customer) = grind (arith, length-append t.customers (entered t stamp customer ∷ []))
few_one t stamp (put.Stock stock) = grind (arith, changed_length t.items stock.item (λ item. record item { stock = stock.stock; restocks = stock.restocks }))
few_one t stamp (put.Item item) = grind (arith, put_one_more t.items item.id (λ id. record item { id = id; published = day_of stamp }))
few_one t stamp (put.Address address text) = grind (arith, length-append t.addresses (address ∷ []))
few_one t stamp (put.Order order days) = grind (arith, length-append t.orders (order ∷ []))

pub few_more : (t : Tables) (stamp : ℕ) (puts : List Put) (column : ℕ) → get_or (sizes_in (all_put t stamp puts)) column 0 ≤ get_or (sizes_in t) column 0 + growth puts column
few_more t stamp [] column = omega arith
few_more t stamp (p ∷ puts) column =
    omega (
      arith,
      few_at (sizes_in (put_one t stamp p)) (sizes_in t) (λ column. cond (grows column p) 1 0) (few_one t stamp p) column,
      few_more (put_one t stamp p) stamp puts column,
      sum_by-cons (λ (q : Put). cond (grows column q) 1 0) p puts,
    )
