-- Each kind of block begins with a letter of its own.
use Rattle.std.proofs.Common.{◌≡◌, ◌∙◌, ℕ, nat_eq, false, List, ◌++◌, get_or, codes, refl, sym, ap, arith}
use Rattle.std.specs.List.{starts_with}
use Rattle.shop_model.specs.declared.page.Block.{Block}
use Rattle.shop_model.specs.declared.page.Block.TheVariants.{Heading, Para, Link, Picture, Table, Form}
use Rattle.shop_model.specs.declared.page.Field.{Field}
use Rattle.shop_model.specs.pages.PageText.{block_text, block_line}

-- the letter behind the `<`
abbrev letter : Block → ℕ
letter (Heading text) = 104
letter (Para text) = 112
letter (Link target label) = 97
letter (Picture target label) = 105
letter (Table rows) = 116
letter (Form target fields) = 102

letter_stands : (block : Block) (rest bytes : List ℕ) → bytes ≡ block_text block ++ rest → get_or bytes 1 0 ≡ letter block
unfolding block_text
letter_stands (Heading text) rest bytes is = ap (λ l. get_or l 1 0) is
letter_stands (Para text) rest bytes is = ap (λ l. get_or l 1 0) is
letter_stands (Link target label) rest bytes is = ap (λ l. get_or l 1 0) is
letter_stands (Picture target label) rest bytes is = ap (λ l. get_or l 1 0) is
letter_stands (Table rows) rest bytes is = ap (λ l. get_or l 1 0) is
letter_stands (Form target fields) rest bytes is = ap (λ l. get_or l 1 0) is

-- the letter that was found is the block's
pub letter_found : (block : Block) (rest bytes : List ℕ) (found n : ℕ) → bytes ≡ block_text block ++ rest → found ≡ get_or bytes 1 0 → found ≡ n → n ≡ letter block
letter_found block rest bytes found n is at e = sym e ∙ at ∙ letter_stands block rest bytes is

-- no block begins as the body ends
pub block_apart : (block : Block) (rest : List ℕ) → starts_with nat_eq (block_line block ++ rest) (codes "</body>") ≡ false
unfolding block_text
block_apart (Heading text) rest = refl
block_apart (Para text) rest = refl
block_apart (Link target label) rest = refl
block_apart (Picture target label) rest = refl
block_apart (Table rows) rest = refl
block_apart (Form target fields) rest = refl

pub only_heading : (P : Block → Type 0) → ((text : List ℕ) → P (Heading text)) → (block : Block) → 104 ≡ letter block → P block
only_heading P has (Heading text) is = has text
only_heading P has other is = absurd (omega arith)

pub only_para : (P : Block → Type 0) → ((text : List ℕ) → P (Para text)) → (block : Block) → 112 ≡ letter block → P block
only_para P has (Para text) is = has text
only_para P has other is = absurd (omega arith)

pub only_link : (P : Block → Type 0) → ((target : List ℕ) (label : List ℕ) → P (Link target label)) → (block : Block) → 97 ≡ letter block → P block
only_link P has (Link target label) is = has target label
only_link P has other is = absurd (omega arith)

pub only_picture : (P : Block → Type 0) → ((target : List ℕ) (label : List ℕ) → P (Picture target label)) → (block : Block) → 105 ≡ letter block → P block
only_picture P has (Picture target label) is = has target label
only_picture P has other is = absurd (omega arith)

pub only_table : (P : Block → Type 0) → ((rows : List (List (List ℕ))) → P (Table rows)) → (block : Block) → 116 ≡ letter block → P block
only_table P has (Table rows) is = has rows
only_table P has other is = absurd (omega arith)

pub only_form : (P : Block → Type 0) → ((target : List ℕ) (fields : List Field) → P (Form target fields)) → (block : Block) → 102 ≡ letter block → P block
only_form P has (Form target fields) is = has target fields
only_form P has other is = absurd (omega arith)

-- each block begins with one of these
pub some_letter : (block : Block) (n : ℕ) → n ≡ letter block → (n ≡ 104 → ⊥) → (n ≡ 112 → ⊥) → (n ≡ 97 → ⊥) → (n ≡ 105 → ⊥) → (n ≡ 116 → ⊥) → (n ≡ 102 → ⊥) → ⊥
some_letter (Heading text) n is not other1 other2 other3 other4 other5 = not is
some_letter (Para text) n is other0 not other2 other3 other4 other5 = not is
some_letter (Link target label) n is other0 other1 not other3 other4 other5 = not is
some_letter (Picture target label) n is other0 other1 other2 not other4 other5 = not is
some_letter (Table rows) n is other0 other1 other2 other3 not other5 = not is
some_letter (Form target fields) n is other0 other1 other2 other3 other4 not = not is
