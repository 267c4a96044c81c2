-- Pairs of names and values as a target spells them, behind its path.
use Rattle.std.specs.Prelude.{◌≡◌, ℕ, List, [], ◌∷◌, ◌++◌, decimal, Option, Some, None}
use Rattle.form_urlencoded.specs.Form.{serialize_pair, ampersand}
use Rattle.shop_model.specs.declared.parameter.Parameter.{Parameter}
use Rattle.shop_model.specs.asked.Parameters.{parameter_name}
use Rattle.shop_http.specs.Forms.{Pair}
use Rattle.shop_journal.specs.declared.target.Target.{Target}

-- `?`, which stands before the first pair
abbrev pub mark : ℕ
mark = 63

-- pairs, the first behind this sign, and each other one behind `&`
abbrev pub pairs_behind : ℕ → List Pair → List ℕ
pairs_behind sign [] = []
pairs_behind sign (pair ∷ others) = sign ∷ serialize_pair pair ++ pairs_behind ampersand others

-- the one target with a path and these pairs
abbrev pub target_with : List ℕ → List Pair → List ℕ
target_with path pairs = path ++ pairs_behind mark pairs

abbrev pub number_pair : Parameter → ℕ → Pair
number_pair parameter number = (parameter_name parameter, decimal number)

abbrev pub text_pair : Parameter → List ℕ → Pair
text_pair parameter text = (parameter_name parameter, text)

abbrev pub optional_pair : Parameter → Option ℕ → List Pair
optional_pair parameter None = []
optional_pair parameter (Some number) = number_pair parameter number ∷ []

-- a path alone
abbrev pub Begins : List ℕ → Target → Type 0
Begins path target = (target.text ≡ path) × (target.mark ≡ mark)

-- what stands before the pair behind these
abbrev pub mark_after : ℕ → List Pair → ℕ
mark_after sign [] = sign
mark_after sign (pair ∷ others) = ampersand

-- these pairs are written behind what was
abbrev pub Adds : List Pair → Target → Target → Type 0
Adds more before after = (after.text ≡ before.text ++ pairs_behind before.mark more) × (after.mark ≡ mark_after before.mark more)
