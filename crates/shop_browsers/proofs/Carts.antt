-- Where the front of a cart's pair stands nowhere, no link names a cart.
use Rattle.std.proofs.Common.{◌≡◌, ℕ, ◌+◌, ◌==◌, false, List, [], ◌∷◌, ◌++◌, map, drop, Option, Some, None, codes, nat_eq, refl, sym, ap, subst, ◌∙◌}
use Rattle.std.specs.Prelude.{is_some}
use Rattle.std.specs.List.{flat_map, starts_with, join_with_byte, after_first, position_or_len}
use Rattle.std.proofs.lemmas.Bool.{cond_both, true≢false}
use Rattle.std.proofs.lemmas.Bool.Decides.{Decides-eqb}
use Rattle.std.proofs.lemmas.Grind.{flat_map-append}
use Rattle.std.proofs.lemmas.List.Splits.{join_with_byte-slice_split}
use Rattle.std.proofs.lemmas.Slice.Eq.{starts_is}
use Rattle.memchr.specs.Find.{FindsNeedle}
use Rattle.shop_text.specs.Escape.{escape, escape_byte}
use Rattle.shop_browsers.specs.Scanned.{links_in, NamesNoCart}
use Rattle.shop_browsers.specs.Shown.{first_number, number_behind, pairs_in}
use Rattle.shop_browsers.proofs.Ids.{first_append}
use Rattle.shop_browsers.proofs.Needles.{Lacks, lacks_sought, lacks_before, lacks_behind, lacks_take, lacks_drop}

abbrev front_of : List ℕ
front_of = codes "cart="

no_number : (pair : List ℕ) → Lacks front_of pair → number_behind front_of pair ≡ None
no_number pair lacks =
    cond_both (starts_with nat_eq pair front_of) _ _ (λ number. number ≡ None)
    (λ starts. absurd (lacks [] (drop 5 pair) ((starts_is Decides-eqb pair front_of (starts_with nat_eq pair front_of) refl).0 starts))) (λ _. refl)

no_pair : (pairs : List (List ℕ)) → Lacks front_of (join_with_byte 38 pairs) → first_number front_of pairs ≡ None
no_pair [] lacks = refl
no_pair (pair ∷ []) lacks = rw (no_number pair lacks) refl
no_pair (pair ∷ next ∷ pairs) lacks =
    let others = join_with_byte 38 (next ∷ pairs) in
    rw (no_number pair (lacks_before front_of pair (38 ∷ others) lacks))
    (no_pair (next ∷ pairs) (lacks_behind front_of (38 ∷ []) others (lacks_behind front_of pair (38 ∷ others) lacks)))

-- what is not in a text as it stands in a page is not in the text
unescaped : (text : List ℕ) → Lacks front_of (escape text) → Lacks front_of text
unescaped text lacks front rest is = lacks (escape front) (escape rest) (ap escape is ∙ flat_map-append escape_byte front (front_of ++ rest))

no_target : (target : List ℕ) → Lacks front_of (escape target) → first_number front_of (pairs_in target) ≡ None
no_target target lacks =
    let query = after_first (λ b. b == 63) target in
    no_pair (pairs_in target)
    (subst (Lacks front_of) (sym (join_with_byte-slice_split 38 query)) (lacks_drop front_of target (position_or_len (λ b. b == 63) target + 1) (unescaped target lacks)))

abbrev AllLack : List (List ℕ) → Type 0
AllLack [] = Unit {0}
AllLack (link ∷ links) = Lacks front_of link × AllLack links

links_lack : (bytes : List ℕ) → Lacks front_of bytes → AllLack (links_in bytes)
unfolding links_in
links_lack [] lacks = tt
links_lack (byte ∷ bytes) lacks =
    let behind = lacks_behind front_of (byte ∷ []) bytes lacks in
    let others = links_lack bytes behind in
    cond_both (starts_with nat_eq (byte ∷ bytes) (codes "<a href=\"")) _ _ AllLack
    (λ _. (lacks_take front_of (drop 8 bytes) (position_or_len (λ b. b == 34) (drop 8 bytes)) (lacks_drop front_of bytes 8 behind), others)) (λ _. others)

no_targets : (targets : List (List ℕ)) → AllLack (map escape targets) → first_number front_of (flat_map pairs_in targets) ≡ None
no_targets [] lack = refl
no_targets (target ∷ targets) lack =
    first_append front_of (pairs_in target) (flat_map pairs_in targets) ∙ rw (no_target target lack.0, no_targets targets lack.1) refl

pub no_cart : (bytes : List ℕ) (found : Option ℕ) → FindsNeedle bytes front_of 0 found → is_some found ≡ false → NamesNoCart bytes
no_cart bytes None nowhere none = λ targets is. no_targets targets (subst AllLack is (links_lack bytes (lacks_sought front_of bytes nowhere)))
no_cart bytes (Some at) first none = absurd (true≢false none)
