-- The decoded pairs of an encoded text, from the encoded ones.
use Rattle.std.proofs.Common.{◌≡◌, ℕ, List, [], ◌∷◌, length, map, refl, sym, arith}
use Rattle.std.proofs.lemmas.Simd.{map-map}
use Rattle.form_urlencoded.specs.Form.{raw_pairs, split}
use Rattle.shop_http.specs.Forms.{decoded, pairs}

pub pairs-decoded : (encoded : List ℕ) → map decoded (raw_pairs encoded) ≡ pairs encoded
pairs-decoded encoded = sym (map-map _ _ (raw_pairs encoded))

-- no bytes have no pairs
pub pairs-none : pairs [] ≡ []
unfolding raw_pairs split
pairs-none = refl

pub pairs-empty : (encoded : List ℕ) → length encoded ≡ 0 → pairs encoded ≡ []
pairs-empty [] none = pairs-none
pairs-empty (x ∷ encoded) none = absurd (omega (arith, none))
