-- Links that are written once: what is added behind them, and one more of them.
use Rattle.std.proofs.Common.{◌≡◌, ℕ, ◌+◌, ◌≤◌, ◌<◌, ◌^◌, List, [], ◌∷◌, ◌++◌, length, take, drop, None, codes, decimal, arith, refl, ◌∙◌, ap, sym, append_assoc, append-nil, length-drop, take-append-drop}
use Rattle.std.proofs.lemmas.List.{take-append-le, drop-append-le, take_all, drop_all}
use Rattle.std.proofs.lemmas.List.Sums.{sum_by-cons}
use Rattle.shop_text.specs.Escape.{escape}
use Rattle.shop_text.proofs.cited.Plain.{escape_append, plain_decimal}
use Rattle.shop_model.specs.declared.requests.IdsAsked.{IdsAsked}
use Rattle.shop_model.specs.pages.PageText.{block_line, block_text}
use Rattle.shop_model.specs.pages.Targets.{pairs, id_fields, item_link}
use Rattle.shop_draft.specs.Links.{gaps_sum, ids_behind, woven}

gaps-cons : (gap : ℕ) (gaps : List ℕ) → gaps_sum (gap ∷ gaps) ≡ gap + gaps_sum gaps
gaps-cons gap gaps = sum_by-cons (λ (g : ℕ). g) gap gaps

pub gaps-push : (gaps : List ℕ) (gap : ℕ) → gaps_sum (gaps ++ gap ∷ []) ≡ gaps_sum gaps + gap
gaps-push [] gap = omega (arith, gaps-cons gap [])
gaps-push (g ∷ gaps) gap = omega (arith, gaps-cons g gaps, gaps-cons g (gaps ++ gap ∷ []), gaps-push gaps gap)

-- bytes behind the last place
woven-append : (ids gaps text more : List ℕ) → gaps_sum gaps ≤ length text → woven ids gaps (text ++ more) ≡ woven ids gaps text ++ more
woven-append ids [] text more le = refl
woven-append ids (gap ∷ gaps) text more le =
    let size = gaps-cons gap gaps in
    let rest : gaps_sum gaps ≤ length (drop gap text) = omega (arith, size, length-drop gap text) in
    let first : gap ≤ length text = omega (arith, size) in
    rw (
      take-append-le gap text more first,
      drop-append-le gap text more first,
      woven-append ids gaps (drop gap text) more rest,
    )
    (sym (append_assoc (take gap text ++ ids) (woven ids gaps (drop gap text)) more))

-- a place behind all bytes
woven-gap : (ids gaps : List ℕ) (gap : ℕ) (text : List ℕ) → gaps_sum gaps + gap ≡ length text → woven ids (gaps ++ gap ∷ []) text ≡ woven ids gaps text ++ ids
woven-gap ids [] gap text all =
    let long : length text ≤ gap = omega arith in
    rw (take_all gap text long, drop_all gap text long, append-nil (text ++ ids)) refl
woven-gap ids (g ∷ gaps) gap text all =
    let rest : gaps_sum gaps + gap ≡ length (drop g text) = omega (arith, gaps-cons g gaps, length-drop g text) in
    rw (woven-gap ids gaps gap (drop g text) rest) (sym (append_assoc (take g text ++ ids) (woven ids gaps (drop g text)) ids))

-- nothing at the places
woven_none : (gaps text : List ℕ) → woven [] gaps text ≡ text
woven_none [] text = refl
woven_none (gap ∷ gaps) text = rw (woven_none gaps (drop gap text), append-nil (take gap text)) (take-append-drop gap text)

-- no ids at the places
pub without_ids : (ids : IdsAsked) (gaps text : List ℕ) → ids.c ≡ None → ids.cart ≡ None → woven (ids_behind (codes "&") ids) gaps text ≡ text
unfolding pairs id_fields
without_ids ids gaps text no_c no_cart = rw (no_c, no_cart) (woven_none gaps text)

-- one more, whose ids stand between two texts
woven-push : (ids gaps : List ℕ) (gap : ℕ) (text front back : List ℕ) → gaps_sum gaps ≤ length text → gaps_sum gaps + gap ≡ length (text ++ front)
    → woven ids (gaps ++ gap ∷ []) ((text ++ front) ++ back) ≡ woven ids gaps text ++ (front ++ (ids ++ back))
woven-push ids gaps gap text front back le all =
    let sum : gaps_sum (gaps ++ gap ∷ []) ≤ length (text ++ front) = omega (arith, gaps-push gaps gap) in
    rw (woven-append ids (gaps ++ gap ∷ []) (text ++ front) back sum, woven-gap ids gaps gap (text ++ front) all, woven-append ids gaps text front le) (simp append_assoc)

-- a target of plain bytes, a plain value and more
parted : (front plain close label end feed value more : List ℕ) → escape plain ≡ plain → escape value ≡ value
    → (front ++ escape (plain ++ (value ++ more)) ++ close ++ label ++ end) ++ feed ≡ ((front ++ plain) ++ value) ++ (escape more ++ (close ++ label ++ (end ++ feed)))
parted front plain close label end feed value more is_plain is_value =
    rw (escape_append plain (value ++ more), escape_append value more, is_plain, is_value) (simp append_assoc)

-- a link to the page of an item, before its ids
abbrev pub front_of : ℕ → List ℕ
front_of item = codes "<a href=\"/product_detail?item=" ++ decimal item

-- behind them
abbrev pub back_of : List ℕ → List ℕ
back_of label = codes "\">" ++ escape label ++ codes "</a>\n"

link_parted : (item : ℕ) (label : List ℕ) (ids : IdsAsked) → item < 2 ^ 64
    → block_line (item_link (codes "/product_detail") item ids label) ≡ front_of item ++ (ids_behind (codes "&") ids ++ back_of label)
unfolding block_text pairs
link_parted item label ids fits =
    parted (codes "<a href=\"") (codes "/product_detail?item=") (codes "\">") (escape label) (codes "</a>") (codes "\n")
    (decimal item) (pairs (codes "&") (id_fields ids)) refl (plain_decimal item fits)

-- one more
pub pushed : (item : ℕ) (label : List ℕ) (ids : IdsAsked) (gaps : List ℕ) (gap : ℕ) (text : List ℕ) → item < 2 ^ 64 → gaps_sum gaps ≤ length text
    → gaps_sum gaps + gap ≡ length (text ++ front_of item)
    → woven (ids_behind (codes "&") ids) (gaps ++ gap ∷ []) ((text ++ front_of item) ++ back_of label)
    ≡ woven (ids_behind (codes "&") ids) gaps text ++ block_line (item_link (codes "/product_detail") item ids label)
pushed item label ids gaps gap text fits le all =
    woven-push (ids_behind (codes "&") ids) gaps gap text (front_of item) (back_of label) le all
    ∙ ap (λ (line : List ℕ). woven (ids_behind (codes "&") ids) gaps text ++ line) (sym (link_parted item label ids fits))
