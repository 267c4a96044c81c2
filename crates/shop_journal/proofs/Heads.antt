-- The numbers of a header are read again.
use Rattle.std.proofs.Common.{◌≡◌, ◌⊎◌, inl, inr, ⊎_elim, ℕ, ◌/◌, ◌<◌, ◌≤◌, ◌≢◌, ◌^◌, List, take, drop, refl, sym, ◌∙◌, ap, arith}
use Rattle.std.proofs.lemmas.Bool.{cases_eq}
use Rattle.std.proofs.lemmas.Nat.{from_be_bytes-to_be_bytes_4}
use Rattle.std.specs.Int.{from_be_bytes, w32}
use Rattle.shop_model.specs.population.Scales.{ScaleRow, IsScale, desk, larger}
use Rattle.shop_journal.specs.declared.headers.Format.{Format}
use Rattle.shop_journal.specs.declared.headers.Format.TheVariants.{First, Second}
use Rattle.shop_journal.specs.declared.headers.Head.{Head}
use Rattle.shop_journal.specs.Headers.{IsHead, header_of}

-- the number of four bytes from a place on
abbrev number_at : ℕ → List ℕ → ℕ
number_at at bytes = from_be_bytes w32 (take 4 (drop at bytes))

-- the numbers by which a scale is found
pub record AreSizes (scale : ScaleRow) : Type 0 where
  pub items : scale.items < 2 ^ 32
  pub customers : scale.customers < 2 ^ 32

sizes : (scale : ScaleRow) → IsScale scale → AreSizes scale
sizes scale (inl is) = record { items = omega (arith, ap (λ s. s.items) is); customers = omega (arith, ap (λ s. s.customers) is) }
sizes scale (inr is) = record {
  items = ⊎_elim (λ e. omega (arith, e, ap (λ s. s.items) is.is)) (λ e. omega (arith, e, ap (λ s. s.items) is.is)) is.sizes;
  customers = omega (arith, is.high, ap (λ s. s.customers) is.is);
}

pub seed_again : (format : Format) (head : Head) (header : List ℕ) → IsHead head → header ≡ header_of format head → number_at 8 header ≡ head.seed
seed_again First head header is same = ap (number_at 8) same ∙ from_be_bytes-to_be_bytes_4 head.seed (omega (arith, is.seed))
seed_again Second head header is same = ap (number_at 8) same ∙ from_be_bytes-to_be_bytes_4 head.seed (omega (arith, is.seed))

pub items_again : (format : Format) (head : Head) (header : List ℕ) → IsHead head → header ≡ header_of format head → number_at 12 header ≡ head.scale.items
items_again First head header is same = ap (number_at 12) same ∙ from_be_bytes-to_be_bytes_4 head.scale.items (sizes head.scale is.scale).items
items_again Second head header is same = ap (number_at 12) same ∙ from_be_bytes-to_be_bytes_4 head.scale.items (sizes head.scale is.scale).items

pub customers_again : (format : Format) (head : Head) (header : List ℕ) → IsHead head → header ≡ header_of format head → number_at 20 header ≡ head.scale.customers
customers_again First head header is same = ap (number_at 20) same ∙ from_be_bytes-to_be_bytes_4 head.scale.customers (sizes head.scale is.scale).customers
customers_again Second head header is same = ap (number_at 20) same ∙ from_be_bytes-to_be_bytes_4 head.scale.customers (sizes head.scale is.scale).customers

-- a scale with 100 items is the desk
pub desk_found : (scale : ScaleRow) → IsScale scale → scale.items ≡ 100 → scale ≡ desk
desk_found scale (inl is) few = is
desk_found scale (inr is) few =
    absurd (⊎_elim (λ e. omega (arith, e, few, ap (λ s. s.items) is.is)) (λ e. omega (arith, e, few, ap (λ s. s.items) is.is)) is.sizes)

-- any other is found by its items and its customers
pub larger_found : (scale : ScaleRow) → IsScale scale → scale.items ≢ 100
    → (((scale.items ≡ 1000) ⊎ (scale.items ≡ 10_000)) × (1 ≤ scale.customers / 2880) × (scale.customers / 2880 ≤ 10)) × (scale ≡ larger scale.items (scale.customers / 2880))
larger_found scale (inl is) many = absurd (many (ap (λ s. s.items) is))
larger_found scale (inr is) many =
    let items : is.items ≡ scale.items = sym (ap (λ s. s.items) is.is) in
    let ebs : is.ebs ≡ scale.customers / 2880 = omega (arith, ap (λ s. s.customers) is.is) in (
      (⊎_elim (λ e. inl (sym items ∙ e)) (λ e. inr (sym items ∙ e)) is.sizes, omega (arith, ebs, is.low), omega (arith, ebs, is.high)),
      is.is ∙ (λ i. larger (items i) (ebs i)),
    )

-- a header is one shop's
pub same_head : (format : Format) (head other : Head) → IsHead head → IsHead other → header_of format head ≡ header_of format other → head ≡ other
same_head format head other is there same =
    let seeds : head.seed ≡ other.seed = sym (seed_again format head _ is refl) ∙ seed_again format other _ there same in
    let items : head.scale.items ≡ other.scale.items = sym (items_again format head _ is refl) ∙ items_again format other _ there same in
    let customers : head.scale.customers ≡ other.scale.customers = sym (customers_again format head _ is refl) ∙ customers_again format other _ there same in
    let scales = same_scale head.scale other.scale is.scale there.scale items customers in
    λ i. record { seed = seeds i; scale = scales i }
  where
    same_scale : (one two : ScaleRow) → IsScale one → IsScale two → one.items ≡ two.items → one.customers ≡ two.customers → one ≡ two
    same_scale one two is there items customers =
        elim (cases_eq one.items 100) [
          | inl few ↦ desk_found one is few ∙ sym (desk_found two there (sym items ∙ few))
          | inr many ↦
              (larger_found one is many).1 ∙ (λ i. larger (items i) (customers i / 2880)) ∙ sym (larger_found two there (λ e. many (items ∙ e))).1
        ]
