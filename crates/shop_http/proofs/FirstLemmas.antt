-- The first values of the parameters, of more and more pairs.
use Rattle.std.proofs.Common.{◌≡◌, ℕ, List, [], ◌∷◌, ◌++◌, map, Option, Some, None, refl, sym, ap, ◌∙◌}
use Rattle.std.specs.List.{find}
use Rattle.std.specs.Option.{option_map, option_or}
use Rattle.std.specs.Str.{bytes_eq}
use Rattle.std.proofs.lemmas.List.Folds.{find-append}
use Rattle.shop_model.specs.asked.Parameters.{parameter_name}
use Rattle.shop_http.specs.Firsts.{Firsts, behind}
use Rattle.shop_http.specs.Forms.{Pair, decoded_text, decoded, value_named}

pub none_behind : (value : Option (List ℕ)) → option_or value None ≡ value
none_behind None = refl
none_behind (Some text) = refl

pub behind-nil : (firsts : Firsts) → behind firsts [] ≡ firsts
behind-nil firsts i parameter = none_behind (firsts parameter) i

-- the first value among the pairs of two lists
in_turn : (value : Option (List ℕ)) (one other : Option Pair)
    → option_or (option_or value (option_map (λ pair. pair.1) one)) (option_map (λ pair. pair.1) other)
    ≡ option_or value (option_map (λ pair. pair.1) (option_or one other))
in_turn None None other = refl
in_turn None (Some pair) other = refl
in_turn (Some text) one other = refl

value-append : (value : Option (List ℕ)) (pairs others : List Pair) (name : List ℕ)
    → option_or (option_or value (value_named pairs name)) (value_named others name)
    ≡ option_or value (value_named (pairs ++ others) name)
value-append value pairs others name =
    in_turn value (find (λ pair. bytes_eq pair.0 name) pairs) (find (λ pair. bytes_eq pair.0 name) others)
    ∙ ap (λ found. option_or value (option_map (λ pair. pair.1) found)) (sym (find-append (λ (pair : Pair). bytes_eq pair.0 name) pairs others))

pub behind-append : (firsts : Firsts) (pairs others : List Pair) → behind (behind firsts pairs) others ≡ behind firsts (pairs ++ others)
behind-append firsts pairs others i parameter = value-append (firsts parameter) pairs others (parameter_name parameter) i

-- the next of the encoded pairs that are left
pub behind-next : (firsts : Firsts) (left left' : List Pair) (name value text : List ℕ)
    → left ≡ (name, value) ∷ left' → text ≡ decoded_text name
    → behind (behind firsts ((text, decoded_text value) ∷ [])) (map decoded left') ≡ behind firsts (map decoded left)
behind-next firsts left left' name value text is same =
    behind-append firsts ((text, decoded_text value) ∷ []) (map decoded left')
    ∙ ap (λ t. behind firsts ((t, decoded_text value) ∷ map decoded left')) same ∙ ap (λ pairs. behind firsts (map decoded pairs)) (sym is)
