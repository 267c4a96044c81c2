-- What clap takes of a command of options, and its matches, in the words of the grammar.
use Rattle.std.proofs.Common.{◌≡◌, ◌∙◌, ◌&&◌, ◌||◌, Bool, true, false, not, refl, sym, ap, ap₂, subst, List, [], ◌∷◌, ◌++◌, map, Option, Some, None, cond, drop, arith, zero, suc}
use Rattle.std.specs.List.{All, AllByRecursion, Contains, IsDistinct, fold, list_any}
use Rattle.std.specs.Str.{bytes_eq}
use Rattle.std.proofs.Math.Bool.{or-true, or-false}
use Rattle.std.proofs.lemmas.List.Folds.{Any-from_list_any, list_any-from_Any, list_any-append}
use Rattle.std.proofs.lemmas.Bool.{or_parts}
use Rattle.clap.specs.Walk.{Row, Rule, Text, Walk, first_of, has_row, idle, rows_after, settled, walked, with_default}
use Rattle.clap.specs.Simple.{App, matches_of, names_of}
use Rattle.clap.specs.Kinds.{Kinds, or_else}
use Rattle.clap.specs.Takes.{is_given}
use Rattle.clap.specs.Faults.{built_fault, check_fault, default_fault, defaults_fault, entered_fault, fault_of, level_fault, settle_fault, walk_fault}
use Rattle.clap.specs.Walk as walk
use Rattle.shop_words.specs.Options.{Given, name_of, value_for}
use Rattle.shop_words.specs.Parser.{options_app}
use Rattle.shop_words.proofs.Rules.{built-is, built_with, help, is_name, none-pass, option, rules, same-text, shape, text-same}
use Rattle.shop_words.proofs.Turns.{at, no-more}
use Rattle.shop_words.proofs.Walks.{Fits, end, row_of}

-- ---- after the walk: no default, nothing required

no-default : (a : Rule) (rows : List Row) → a.defaults ≡ [] → default_fault rows a ≡ []
no-default a rows none = rw (none, or-true (has_row a.id rows)) refl

no-defaults : (names : List Text) (rows : List Row) → defaults_fault rows (rules names) ≡ []
unfolding defaults_fault
no-defaults [] rows = rw (no-default help rows refl) refl
no-defaults (name ∷ names) rows = rw (no-default (option name) rows refl) (no-defaults names (with_default rows (option name)))

as-they-are : (rows : List Row) (b : Bool) → cond b rows rows ≡ rows
as-they-are rows true = refl
as-they-are rows false = refl

finished-is : (names : List Text) (rows : List Row) → fold with_default rows (rules names) ≡ rows
finished-is [] rows = as-they-are rows (has_row help.id rows)
finished-is (name ∷ names) rows =
    ap (λ (first : List Row). fold with_default first (rules names)) (as-they-are rows (has_row name rows)) ∙ finished-is names rows

none-wanted : (names : List Text) (rows : List Row) (entered : Bool) → check_fault (shape names) rows entered ≡ []
none-wanted names rows entered = go entered
  where
    free : list_any (λ (a : Rule). a.required && not (is_given a.id rows)) (rules names) ≡ false
    free = none-pass (λ a. a.required && not (is_given a.id rows)) (λ name. refl) refl names

    go : (entered : Bool) → check_fault (shape names) rows entered ≡ []
    go true = rw free refl
    go false = rw free refl

module _ (names : List Text) where
  abbrev outcome : List Text → Kinds × List Row
  outcome words = end names (at [] None idle) words

  no-entry : (stop : Option (Text × List Text)) → entered_fault (built_with (rules names)) stop ≡ []
  no-entry None = refl
  no-entry (Some p) = refl

  level-is : (words : List Text) (stop : Option (Text × List Text)) (entered : Bool)
      → level_fault (shape names) [] walk.nothing_held words entered (entered_fault (built_with (rules names)) stop) ≡ (outcome words).0
  level-is words stop entered =
      let last = (fold (walked (rules names) []) (at [] None idle) words).held in
      let rows = (settled (rules names) last).rows in
      let faults = walk_fault (shape names) [] (at [] None idle) words in
      let waiting = settle_fault (rules names) false last in
      let after : or_else (defaults_fault rows (rules names)) (check_fault (shape names) (fold with_default rows (rules names)) entered) ≡ [] =
      rw (no-defaults names rows) (none-wanted names (fold with_default rows (rules names)) entered) in
      ap₂ (λ (below more : Kinds). or_else faults (or_else below (or_else waiting more))) (no-entry stop) after
      ∙ ap (or_else faults) (no-more waiting)

  pub fault-is : (words : List Text) → fault_of (options_app names) words ≡ (outcome (drop 1 words)).0
  fault-is words = ap (λ (a : App). built_fault a walk.nothing_held (drop 1 words)) (built-is names) ∙ level-is (drop 1 words) _ _

  pub matches-are : (words : List Text) → matches_of (options_app names) words ≡ (outcome (drop 1 words)).1
  matches-are words =
      ap (λ (a : App). rows_after a.top.rules (names_of a) (drop 1 words)) (built-is names) ∙ finished-is names (outcome (drop 1 words)).1

-- ---- the options of the grammar

pub each : {X : Type 0} (P Q : X → Type 0) → ((x : X) → P x → Q x) → (xs : List X) → AllByRecursion P xs → AllByRecursion Q xs
each P Q turns [] all = tt
each P Q turns (x ∷ xs) all = (turns x all.0, each P Q turns xs all.1)

pub by-recursion : {X : Type 0} (P : X → Type 0) → (xs : List X) → All P xs → AllByRecursion P xs
by-recursion P [] all = tt
by-recursion P (x ∷ xs) all = (all 0 x (omega arith), by-recursion P xs (λ k d lt. all (suc k) d (omega arith)))

pub from-recursion : {X : Type 0} (P : X → Type 0) → (xs : List X) → AllByRecursion P xs → All P xs
from-recursion P [] all k d lt = absurd (omega arith)
from-recursion P (x ∷ xs) all zero d lt = all.0
from-recursion P (x ∷ xs) all (suc k) d lt = from-recursion P xs all.1 k d (omega arith)

pub contained : (names : List Text) (name : Text) → Contains names name → is_name names name ≡ true
contained names name found = list_any-from_Any (λ n. bytes_eq n name) names (found.0, name, found.1, found.2, text-same name)

pub contains : (names : List Text) (name : Text) → is_name names name ≡ true → Contains names name
contains names name known =
    let found = Any-from_list_any (λ n. bytes_eq n name) names known in
    subst (Contains names) (same-text found.1 name found.4) (found.0, found.2, found.3)

-- no row of the option's yet, and none that a further one brings
row-behind : (n : Text) (done : List Row) (g : Given) → has_row n (done ++ row_of g ∷ []) ≡ (has_row n done || bytes_eq (name_of g) n)
row-behind n done g = list_any-append (λ (r : Row). bytes_eq r.id n) done (row_of g ∷ []) ∙ ap (λ (b : Bool). has_row n done || b) (or-false (bytes_eq (name_of g) n))

abbrev AreFresh : List Row → List Text → Type 0
AreFresh done ns = AllByRecursion (λ (n : Text). has_row n done ≡ false) ns

module _ (names : List Text) where
  pub fits-from : (given : List Given) (done : List Row) → AllByRecursion (Contains names) (map name_of given) → IsDistinct bytes_eq (map name_of given)
      → AreFresh done (map name_of given) → Fits names done given
  unfolding IsDistinct
  fits-from [] done known once fresh = tt
  fits-from (g ∷ given) done known once fresh =
      let both = zip (map name_of given) once.0 fresh.1 in
      (contained names (name_of g) known.0, fresh.0, fits-from given (done ++ row_of g ∷ []) known.1 once.1 both)
    where
      zip : (ns : List Text) → AllByRecursion (λ (n : Text). bytes_eq (name_of g) n ≡ false) ns → AreFresh done ns → AreFresh (done ++ row_of g ∷ []) ns
      zip [] apart fresh = tt
      zip (n ∷ ns) apart fresh = (row-behind n done g ∙ rw (fresh.0, apart.0) refl, zip ns apart.1 fresh.1)

  pub fits-to : (given : List Given) (done : List Row) → Fits names done given
      → AllByRecursion (Contains names) (map name_of given) × IsDistinct bytes_eq (map name_of given) × AreFresh done (map name_of given)
  unfolding IsDistinct
  fits-to [] done fits = (tt, tt, tt)
  fits-to (g ∷ given) done fits =
      let rest = fits-to given (done ++ row_of g ∷ []) fits.2 in
      let old = λ (n : Text) (free : has_row n (done ++ row_of g ∷ []) ≡ false). or_parts (has_row n done) (bytes_eq (name_of g) n) (sym (row-behind n done g) ∙ free) in (
        (contains names (name_of g) fits.0, rest.0),
        (each _ _ (λ n free. (old n free).1) (map name_of given) rest.2, rest.1),
        (fits.1, each _ _ (λ n free. (old n free).0) (map name_of given) rest.2),
      )

-- the value of an option is the first of its row
pub first-is : (name : Text) (given : List Given) → first_of name (map row_of given) ≡ value_for given name
first-is name [] = refl
first-is name (g ∷ given) = go (first-is name given) (bytes_eq (name_of g) name) refl
  where
    go : first_of name (map row_of given) ≡ value_for given name → (b : Bool) → bytes_eq (name_of g) name ≡ b → first_of name (map row_of (g ∷ given)) ≡ value_for (g ∷ given) name
    go rest true e = rw e refl
    go rest false e = rw e rest
