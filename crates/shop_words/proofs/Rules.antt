-- What a built command of options is: its rules, and which of them a name finds.
use Rattle.std.proofs.Common.{◌≡◌, ◌∙◌, ◌&&◌, ◌==◌, ℕ, Bool, true, false, refl, sym, ap, List, [], ◌∷◌, ◌++◌, map, Some, None, cond, is_some, true≢false, Bor, ◌<◌, ◌+◌, length, get_or, take}
use Rattle.std.specs.Prelude.{count_by, find}
use Rattle.std.specs.List.{list_all, list_any}
use Rattle.std.specs.Option.{option_map_or}
use Rattle.std.specs.Str.{bytes_eq}
use Rattle.std.proofs.lemmas.List.{map-append, take_more}
use Rattle.std.proofs.lemmas.Slice.Eq.{bytes_eq-Decides}
use Rattle.clap.specs.Walk.{Rule, Text, arg_by_index, is_early_multiple}
use Rattle.clap.specs.Simple.{App, Shape, built, filled_from, help_rule, is_buildable, with_rule, is_ready, is_ready_leaf, new_shape, with_index, filled}
use Rattle.clap.specs.Faults.{is_free_app, is_simple_and_free}
use Rattle.shop_words.specs.Parser.{option_rule, options_app}

-- an option, and the flag for help, with what building fills in
abbrev pub option : Text → Rule
option name = with_index 1 (filled (option_rule name))

abbrev pub help : Rule
help = with_index 1 (filled help_rule)

abbrev pub rules : List Text → List Rule
rules names = map option names ++ help ∷ []

-- the command, built
abbrev pub built_with : List Rule → App
built_with rules = record {
  top = record (new_shape []) { rules = rules; disable_help_subcommand = true; is_built = true };
  subs = [];
}

abbrev pub shape : List Text → Shape
shape names = (built_with (rules names)).top

filled-is : (names : List Text) → filled_from 1 (map option_rule names ++ help_rule ∷ []) ≡ rules names
filled-is [] = refl
filled-is (name ∷ names) = ap (λ more. option name ∷ more) (filled-is names)

pub built-is : (names : List Text) → built (options_app names) ≡ built_with (rules names)
built-is names = ap built_with (filled-is names)

-- ---- each rule

-- a test that each option and the flag pass is passed by all
pub all-pass : (test : Rule → Bool) → ((name : Text) → test (option name) ≡ true) → test help ≡ true → (names : List Text) → list_all test (rules names) ≡ true
all-pass test option_passes help_passes [] = rw help_passes refl
all-pass test option_passes help_passes (name ∷ names) = rw (option_passes name) (all-pass test option_passes help_passes names)

-- and one that all fail finds none
pub none-pass : (test : Rule → Bool) → ((name : Text) → test (option name) ≡ false) → test help ≡ false → (names : List Text) → list_any test (rules names) ≡ false
none-pass test option_fails help_fails [] = rw help_fails refl
none-pass test option_fails help_fails (name ∷ names) = rw (option_fails name) (none-pass test option_fails help_fails names)

-- where no option passes, the flag for help is all that is found
pub only-help : (test : Rule → Bool) → ((name : Text) → test (option name) ≡ false) → (names : List Text) → find test (rules names) ≡ cond (test help) (Some help) None
only-help test option_fails [] = refl
only-help test option_fails (name ∷ names) = rw (option_fails name) (only-help test option_fails names)

pub no-positional : (names : List Text) (i : ℕ) → arg_by_index (rules names) i ≡ None
no-positional names i = only-help (λ a. option_map_or (λ k. k == i) a.index false) (λ name. refl) names

plain-rules : (names : List Text) → list_all (λ (a : Rule). a.is_simple) (map option_rule names) ≡ true
plain-rules [] = refl
plain-rules (name ∷ names) = plain-rules names

pub is-simple : (names : List Text) → is_simple_and_free (options_app names) ≡ true
is-simple names =
    let plain = plain-rules names in
    let simple : list_all (λ (a : Rule). a.is_simple) (rules names) ≡ true = all-pass (λ a. a.is_simple) (λ name. refl) refl names in
    let free : list_all (λ (a : Rule). a.is_free) (rules names) ≡ true = all-pass (λ a. a.is_free) (λ name. refl) refl names in
    let count = count_by (λ (a : Rule). is_some a.index) (rules names) in
    let order : list_any (is_early_multiple count) (rules names) ≡ false = none-pass (is_early_multiple count) (λ name. refl) refl names in
    ap (λ (b : App). (is_buildable (options_app names) && (is_ready b.top && list_all is_ready_leaf b.subs)) && is_free_app b) (built-is names)
    ∙ rw (plain, simple, order, free) refl

-- ---- the names

-- the name is one of the names
abbrev pub is_name : List Text → Text → Bool
is_name names name = list_any (λ n. bytes_eq n name) names

pub same-text : (a b : Text) → bytes_eq a b ≡ true → a ≡ b
same-text a b e = (bytes_eq-Decides a b).0 e

pub text-same : (a : Text) → bytes_eq a a ≡ true
text-same a = (bytes_eq-Decides a a).1 refl

-- a test of an option that tells its name finds the option of the name
pub name-found : (test : Rule → Bool) (name : Text) → ((n : Text) → test (option n) ≡ bytes_eq n name)
    → (names : List Text) → is_name names name ≡ true → find test (rules names) ≡ Some (option name)
name-found test name tells [] known = absurd (true≢false (sym known))
name-found test name tells (n ∷ names) known = go (name-found test name tells names) (bytes_eq n name) refl
  where
    go : (is_name names name ≡ true → find test (rules names) ≡ Some (option name)) → (b : Bool) → bytes_eq n name ≡ b → find test (rules (n ∷ names)) ≡ Some (option name)
    go rest true e = rw (tells n, e) (ap (λ t. Some (option t)) (same-text n name e))
    go rest false e = rw (tells n, e) (rest (rw e at known))

-- and where it is none, the flag for help is all that is left
pub name-missing : (test : Rule → Bool) (name : Text) → ((n : Text) → test (option n) ≡ bytes_eq n name)
    → (names : List Text) → is_name names name ≡ false → find test (rules names) ≡ cond (test help) (Some help) None
name-missing test name tells [] known = refl
name-missing test name tells (n ∷ names) known = go (name-missing test name tells names) (bytes_eq n name) refl
  where
    go : (is_name names name ≡ false → find test (rules names) ≡ cond (test help) (Some help) None) → (b : Bool) → bytes_eq n name ≡ b → find test (rules (n ∷ names)) ≡ cond (test help) (Some help) None
    go rest true e = absurd (true≢false (rw e at known))
    go rest false e = rw (tells n, e) (rest (rw e at known))

-- ---- one more option

abbrev texts : List (Bor Text) → List Text
texts = map (λ s. s.now)

pub option-next : (names : List (Bor Text)) (i : ℕ) (blank : Bor Text) (name : Text) → i < length names → name ≡ (get_or names i blank).now
    → with_rule (options_app (texts (take i names))) (option_rule name) ≡ options_app (texts (take (i + 1) names))
option-next names i blank name lt here =
    let more = ap texts (take_more names i blank lt) ∙ map-append (λ (s : Bor Text). s.now) (take i names) (get_or names i blank ∷ []) in
    ap (λ (rules : List Rule). record { top = record (new_shape []) { rules = rules }; subs = [] })
    (sym (map-append option_rule (texts (take i names)) (name ∷ [])) ∙ ap (λ (n : Text). map option_rule (texts (take i names) ++ n ∷ [])) here ∙ ap (map option_rule) (sym more))
