-- A target with the pairs of a request is read as that request.
use Rattle.std.proofs.Common.{◌≡◌, ℕ, ◌+◌, ◌<◌, ◌≤◌, ◌&&◌, Bool, true, nat_le, length, List, [], ◌∷◌, ◌++◌, codes, decimal, Option, Some, None, IfSome, IsUtf8, refl, ◌∙◌, ap, append-nil, arith}
use Rattle.std.specs.Prelude.{Ok}
use Rattle.std.specs.Option.{option_map}
use Rattle.std.specs.List.{AllByRecursion, list_all}
use Rattle.std.specs.Char.{is_ascii}
use Rattle.std.proofs.lemmas.Bool.{and_parts, leb-true}
use Rattle.std.proofs.lemmas.List.Sums.{AllPass-from_list_all}
use Rattle.std.proofs.lemmas.Str.{IsUtf8-from_ascii}
use Rattle.std.proofs.lemmas.Str.Ascii.{IsAscii-from_all}
use Rattle.shop_model.specs.declared.parameter.Parameter.{Parameter}
use Rattle.shop_model.specs.declared.parameter.Parameter.TheVariants.{C, Cart}
use Rattle.shop_model.specs.declared.requests.IdsAsked.{IdsAsked}
use Rattle.shop_model.specs.declared.requests.Interaction.{Interaction}
use Rattle.shop_model.specs.declared.requests.Request.{Request}
use Rattle.shop_model.specs.asked.CustomersAsked.{IsId, IsIdsAsked, IsFilled, IsShort}
use Rattle.shop_model.specs.asked.Interactions.{interaction_of}
use Rattle.shop_model.specs.asked.Parameters.{parameter_name}
use Rattle.shop_http.specs.Forms.{Pair, pairs, value_of}
use Rattle.shop_http.specs.Requests as requests
use Rattle.shop_journal.specs.Pairs.{number_pair, optional_pair, target_with, text_pair}
use Rattle.shop_journal.specs.Targets.{ids_pairs}
use Rattle.shop_journal.proofs.Numbers.{number_length, number_text}
use Rattle.shop_journal.proofs.Splits.{AreTexts, form_of, pairs_again}

-- the two sides of the mark
abbrev pub HasPath : List ℕ → Type 0
HasPath path = (texts : List Pair) → (requests.path_of (target_with path texts) ≡ path) × (requests.query_of (target_with path texts) ≡ form_of texts)

-- ---- pairs that are spelled

low : (b : ℕ) → is_ascii b ≡ true → b < 128
low b is = grind arith

pub ascii_text : (bytes : List ℕ) → list_all is_ascii bytes ≡ true → IsUtf8 bytes
ascii_text bytes all = IsUtf8-from_ascii bytes (IsAscii-from_all bytes (λ k d within. low _ (AllPass-from_list_all is_ascii bytes all k d within)))

-- a text with a name, both of them short
pub record IsSpelled (pair : Pair) : Type 0 where
  pub texts : AreTexts pair
  pub short : length pair.0 + length pair.1 ≤ 120

abbrev pub AllSpelled : List Pair → Type 0
AllSpelled pairs = AllByRecursion IsSpelled pairs

texts_of : (pairs : List Pair) → AllSpelled pairs → AllByRecursion AreTexts pairs
texts_of [] each = tt
texts_of (pair ∷ pairs) each = (each.0.texts, texts_of pairs each.1)

pub both : (xs ys : List Pair) → AllSpelled xs → AllSpelled ys → AllSpelled (xs ++ ys)
both [] ys each others = others
both (x ∷ xs) ys each others = (each.0, both xs ys each.1 others)

-- the name of a parameter
abbrev is_name : List ℕ → Bool
is_name name = list_all is_ascii name && nat_le (length name) 20

pub named : (parameter : Parameter) (text : List ℕ) → is_name (parameter_name parameter) ≡ true → IsUtf8 text → length text ≤ 100 → IsSpelled (text_pair parameter text)
named parameter text name is short =
    let parts = and_parts (list_all is_ascii (parameter_name parameter)) (nat_le (length (parameter_name parameter)) 20) name in
    record {
      texts = (ascii_text (parameter_name parameter) parts.0, is);
      short = omega (arith, short, leb-true (length (parameter_name parameter)) 20 parts.1);
    }

pub filled_named : (parameter : Parameter) (text : List ℕ) → is_name (parameter_name parameter) ≡ true → IsFilled text → IsSpelled (text_pair parameter text)
filled_named parameter text name is = named parameter text name is.utf8 is.short

pub short_named : (parameter : Parameter) (text : List ℕ) → is_name (parameter_name parameter) ≡ true → IsShort text → IsSpelled (text_pair parameter text)
short_named parameter text name is = named parameter text name is.utf8 is.short

pub number_named : (parameter : Parameter) (number : ℕ) → is_name (parameter_name parameter) ≡ true → IsId number → IsSpelled (number_pair parameter number)
number_named parameter number name is = named parameter (decimal number) name (number_text number is) (omega (arith, number_length number is))

pub optional_named : (parameter : Parameter) (number : Option ℕ) → is_name (parameter_name parameter) ≡ true → IfSome number IsId → AllSpelled (optional_pair parameter number)
optional_named parameter None name is = tt
optional_named parameter (Some n) name is = (number_named parameter n name is, tt)

pub ids_named : (ids : IdsAsked) → IsIdsAsked ids → AllSpelled (ids_pairs ids)
ids_named ids is = both (optional_pair C ids.c) (optional_pair Cart ids.cart) (optional_named C ids.c refl is.0) (optional_named Cart ids.cart refl is.1)

-- ---- the whole

pub read_at : (at : Interaction) (path : List ℕ) (texts : List Pair) (asked : Request) → HasPath path → interaction_of path ≡ Some at
    → AllSpelled texts → requests.request_by at texts ≡ Ok asked → requests.asked_of (codes "GET") (target_with path texts) [] ≡ Ok asked
unfolding requests.asked_of
read_at at path texts asked cut found are reads =
    let target = target_with path texts in
    let all = requests.pairs_asked (codes "GET") target [] in
    let again : all ≡ texts = append-nil (pairs (requests.query_of target)) ∙ ap pairs (cut texts).1 ∙ pairs_again texts (texts_of texts are) in
    ap (λ p. requests.asked_at (interaction_of p) (codes "GET") all) (cut texts).0
    ∙ ap (λ o. requests.asked_at o (codes "GET") all) found
    ∙ ap (λ l. requests.named (requests.request_by at l)) again
    ∙ ap requests.named reads

-- ---- the ids that a request carries along

pub c_first : (c cart : Option ℕ) → value_of (optional_pair C c ++ optional_pair Cart cart) C ≡ option_map decimal c
c_first None None = refl
c_first None (Some n) = refl
c_first (Some n) cart = refl

pub cart_first : (c cart : Option ℕ) → value_of (optional_pair C c ++ optional_pair Cart cart) Cart ≡ option_map decimal cart
cart_first None None = refl
cart_first None (Some n) = refl
cart_first (Some n) None = refl
cart_first (Some n) (Some m) = refl
