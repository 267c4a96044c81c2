-- How the parts of a page's text are read back. What is no part of a page may be read as anything.
use Rattle.std.specs.Prelude.{◌≡◌, ℕ, ◌==◌, ◌||◌, nat_eq, true, List, [], ◌∷◌, ◌++◌, Option, None, Result, Ok, Err, if◌then◌else◌}
use Rattle.std.specs.Borrow.{Bor}
use Rattle.std.specs.List.{starts_with, flat_map}
use Rattle.shop_text.specs.Escape.{first_read}
use Rattle.shop_model.specs.declared.page.Block.{Block}
use Rattle.shop_model.specs.pages.PageText.{block_text}
use Rattle.shop_pages.specs.declared.reading.unread.Unread.{Unread}
use Rattle.shop_pages.specs.declared.reading.unread.Unread.TheVariants.{Memory}

-- an escaped text ends before `<` or `"`
abbrev pub Ends : List ℕ → Type 0
Ends [] = ⊥
Ends (byte ∷ bytes) = ((byte == 60) || (byte == 34)) ≡ true

-- the first byte of an escaped text that has an end, and what follows it
unfoldable pub text_read : List ℕ → Option (ℕ × List ℕ)
text_read [] = None
text_read (byte ∷ bytes) = if (byte == 60) || (byte == 34) then None else first_read (byte ∷ bytes)

-- the rest is this one; only memory may run out
abbrev pub IsRest : List ℕ → Result (Bor (List ℕ)) Unread → Type 0
IsRest rest (Ok after) = after.now ≡ rest
IsRest rest (Err unread) = unread ≡ Memory

-- this value was read, and this rest follows; only memory may run out
abbrev pub ReadAs : {A : Type 0} → A → List ℕ → Result (A × Bor (List ℕ)) Unread → Type 0
ReadAs x rest (Ok both) = (both.0 ≡ x) × (both.1.now ≡ rest)
ReadAs x rest (Err unread) = unread ≡ Memory

-- what begins with the text of a value is read as this value
abbrev pub ReadsBack : {A : Type 0} → (A → List ℕ) → List ℕ → Result (A × Bor (List ℕ)) Unread → Type 0
ReadsBack {A} shown bytes result = (x : A) (rest : List ℕ) → bytes ≡ shown x ++ rest → ReadAs x rest result

-- what begins with the texts of values, up to this end, is read as these values
abbrev pub ReadsAll : {A : Type 0} → (A → List ℕ) → List ℕ → List ℕ → Result (List A × Bor (List ℕ)) Unread → Type 0
ReadsAll {A} shown end bytes result =
    (xs : List A) (rest : List ℕ) → starts_with nat_eq rest end ≡ true → bytes ≡ flat_map shown xs ++ rest → ReadAs xs rest result

-- what begins with the text of this block is read as this block
abbrev pub ReadsBlock : Block → List ℕ → List ℕ → Result (Block × Bor (List ℕ)) Unread → Type 0
ReadsBlock block rest bytes result = bytes ≡ block_text block ++ rest → ReadAs block rest result
