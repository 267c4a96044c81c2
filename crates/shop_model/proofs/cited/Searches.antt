-- The form in which texts are compared is that of a text that has it.
use Rattle.std.proofs.Common.{◌≡◌, ℕ, ◌+◌, ◌≤◌, Bool, true, false, nat_lt, List, [], ◌∷◌, map, refl, arith}
use Rattle.std.proofs.lemmas.Bool.{ltb-false, le-ltb}
use Rattle.shop_text.specs.Fold.{lower}
use Rattle.shop_model.specs.declared.requests.SearchKind.{SearchKind}
use Rattle.shop_model.specs.declared.requests.SearchKind.TheVariants as kind
use Rattle.shop_model.specs.lists.Catalogues.{compared}

lower_by : (before upto : Bool) (byte : ℕ) → nat_lt byte 65 ≡ before → nat_lt byte 91 ≡ upto → lower (lower byte) ≡ lower byte
lower_by true upto byte first last = rw (first, first) refl
lower_by false true byte first last =
    let least : 65 ≤ byte = ltb-false byte 65 first in
    rw (first, last, le-ltb (byte + 32) 65 (omega arith), le-ltb (byte + 32) 91 (omega arith)) refl
lower_by false false byte first last = rw (first, last, first, last) refl

lower_twice : (bytes : List ℕ) → map lower (map lower bytes) ≡ map lower bytes
lower_twice [] = refl
lower_twice (byte ∷ bytes) = rw (lower_by (nat_lt byte 65) (nat_lt byte 91) byte refl refl, lower_twice bytes) refl

pub compared_twice : (kind : SearchKind) (text : List ℕ) → compared kind (compared kind text) ≡ compared kind text
compared_twice kind.Title text = lower_twice text
compared_twice kind.Author text = lower_twice text
compared_twice kind.Subject text = refl
