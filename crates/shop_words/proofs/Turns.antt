-- What each word comes to in clap's walk over the words of a command of options.
use Rattle.std.proofs.Common.{◌≡◌, ◌≢◌, append-nil, ◌∙◌, ◌<◌, ◌&&◌, ℕ, zero, suc, Bool, true, false, not, refl, sym, ap, ap₂, List, [], ◌∷◌, ◌++◌, length, Option, Some, None, cond, drop, is_some, true≢false, arith}
use Rattle.std.specs.Prelude.{encode_utf8, slice_get}
use Rattle.std.specs.Str.{bytes_eq, chars}
use Rattle.std.proofs.Math.Bool.{or-false}
use Rattle.clap.specs.Lexer.{long_of, short_of}
use Rattle.clap.specs.Walk.{Held, Row, Rule, Text, Waiting, Walk, used, idle, after_flag, after_step, arg_by_id, arg_by_long, bundle_met, has_long, has_row, has_short, long_met, option, plain, plain_word, Outcome, settled_rows, subcommand_met, walked, without, at_row, more_values}
use Rattle.clap.specs.Walk as walk
use Rattle.clap.specs.Kinds.{Kinds, or_else}
use Rattle.clap.specs.Faults.{bundle_step_fault, flags_fault, long_fault, react_fault, short_fault, use_fault, settle_fault, step_fault, turn_fault}
use Rattle.clap.proofs.FaultLemmas.{fault_ends}
use Rattle.clap.proofs.WalkLemmas.{bundle_ends}
use Rattle.clap.specs.declared.parser.matches.ValueSource.TheVariants.{CommandLine}
use Rattle.clap.specs.declared.error.kind.ErrorKind.TheVariants as kind
use Rattle.shop_words.proofs.Rules.{help, is_name, name-found, name-missing, no-positional, only-help, rules, shape, text-same}
use Rattle.shop_words.proofs.Rules as rule

-- what is held between two words, and where the walk stands there
abbrev pub holding : List Row → Option (Text × List Text) → Held
holding rows pending = record { rows = rows; pending = pending; skip = 0 }

abbrev pub at : List Row → Option (Text × List Text) → Waiting → Walk
at rows pending waiting = record { held = holding rows pending; waiting = waiting; position = 1; is_trailing = false; stopped = None }

-- what a value of an option leaves
abbrev pub row : Text → Text → Row
row name value = record { id = name; values = value ∷ []; count = None; source = Some CommandLine; reading = walk.reading_by (rule.option name) }

-- both parts are empty where the whole is
pub both-empty : (a b : Kinds) → or_else a b ≡ [] → (a ≡ []) × (b ≡ [])
both-empty [] b none = (refl, none)
both-empty (k ∷ ks) b none = cc

pub no-more : (a : Kinds) → or_else a [] ≡ a
no-more [] = refl
no-more (k ∷ ks) = refl

-- a row is behind the others, where none has its id
at-end : (id : Text) (change : Row → List Row) (missing rows : List Row) → has_row id rows ≡ false → at_row id change missing rows ≡ rows ++ missing
at-end id change missing [] fresh = refl
at-end id change missing (r ∷ rows) fresh = go (at-end id change missing rows) (bytes_eq r.id id) refl
  where
    go : (has_row id rows ≡ false → at_row id change missing rows ≡ rows ++ missing) → (b : Bool) → bytes_eq r.id id ≡ b → at_row id change missing (r ∷ rows) ≡ r ∷ rows ++ missing
    go rest true e = absurd (true≢false (rw e at fresh))
    go rest false e = rw e (ap (λ more. r ∷ more) (rest (rw e at fresh)))

pub used-fresh : (name value : Text) (rows : List Row) → has_row name rows ≡ false → used (rule.option name) (value ∷ []) rows ≡ rows ++ row name value ∷ []
used-fresh name value rows fresh =
    let whole : without name rows ≡ rows = at-end name (λ _. []) [] rows fresh ∙ append-nil rows in
    rw whole (at-end name (more_values CommandLine (value ∷ [])) (row name value ∷ []) rows fresh)

-- an option that was not used yet has no fault, and one that was has
pub use-fresh : (name value : Text) (rows : List Row) → has_row name rows ≡ false → use_fault false (rule.option name) (value ∷ []) rows ≡ []
use-fresh name value rows fresh = rw fresh refl

pub use-again : (name value : Text) (rows : List Row) → has_row name rows ≡ true → use_fault false (rule.option name) (value ∷ []) rows ≡ kind.ArgumentConflict ∷ []
use-again name value rows again = rw again refl

module _ (names : List Text) where
  -- the kinds of fault at the word, and the walk after it
  abbrev pub turn : Walk → Text → Kinds × Walk
  turn w word = (turn_fault (shape names) [] w word, walked (rules names) [] w word)

  -- the same where the word is a long one, by the option that it names
  abbrev pub long_turn : Walk → Text → Option Text → Option Rule → Kinds × Walk
  long_turn w word value found =
      let met = long_met (rules names) found value w.held in
      let step = after_flag (rules names) w.waiting word met.0 met.1 in
      (or_else (long_fault (rules names) false found value w.held) (step_fault (shape names) 1 step.0 step.1), after_step (rules names) word w step.0 step.1)

  no-subcommand : (waiting : Waiting) (word : Text) → subcommand_met [] waiting word ≡ None
  no-subcommand idle word = refl
  no-subcommand (option id) word = refl
  no-subcommand walk.positional word = refl

  pub turn-long : (rows : List Row) (pending : Option (Text × List Text)) (waiting : Waiting) (word name : Text) (value : Option Text)
      → bytes_eq word (45 ∷ 45 ∷ []) ≡ false → long_of word ≡ Some (name, value)
      → turn (at rows pending waiting) word ≡ long_turn (at rows pending waiting) word value (arg_by_long (rules names) name)
  unfolding walked
  turn-long rows pending waiting word name value hyphens long = rw (no-subcommand waiting word, hyphens, long) refl

  long-found : (name : Text) → is_name names name ≡ true → arg_by_long (rules names) name ≡ Some (rule.option name)
  long-found name known = name-found _ name (λ n. or-false (bytes_eq n name)) names known

  pub id-found : (name : Text) → is_name names name ≡ true → arg_by_id (rules names) name ≡ Some (rule.option name)
  id-found name known = name-found _ name (λ n. refl) names known

  -- an option whose value is to come
  pub turn-apart : (rows : List Row) (pending : Option (Text × List Text)) (waiting : Waiting) (word name : Text) → is_name names name ≡ true
      → bytes_eq word (45 ∷ 45 ∷ []) ≡ false → long_of word ≡ Some (name, None)
      → turn (at rows pending waiting) word ≡ (or_else (settle_fault (rules names) false (holding rows pending)) [], at (settled_rows (rules names) pending rows) (Some (name, [])) (option name))
  turn-apart rows pending waiting word name known hyphens long =
      turn-long rows pending waiting word name None hyphens long ∙ ap (long_turn (at rows pending waiting) word None) (long-found name known)

  -- an option with its value
  pub turn-joined : (rows : List Row) (pending : Option (Text × List Text)) (waiting : Waiting) (word name value : Text) → is_name names name ≡ true
      → bytes_eq word (45 ∷ 45 ∷ []) ≡ false → long_of word ≡ Some (name, Some value)
      → turn (at rows pending waiting) word
      ≡ (or_else (react_fault (rules names) false (rule.option name) (value ∷ []) (holding rows pending)) [], at (used (rule.option name) (value ∷ []) (settled_rows (rules names) pending rows)) None idle)
  turn-joined rows pending waiting word name value known hyphens long =
      turn-long rows pending waiting word name (Some value) hyphens long ∙ ap (long_turn (at rows pending waiting) word (Some value)) (long-found name known)

  -- what a word comes to that is no option
  abbrev pub plain_turn : Walk → Text → Kinds × Walk
  plain_turn w word =
      let step = plain_word (rules names) w.waiting word w.held in
      (step_fault (shape names) 1 step.0 step.1, after_step (rules names) word w step.0 step.1)

  pub turn-plain : (rows : List Row) (pending : Option (Text × List Text)) (waiting : Waiting) (word : Text)
      → bytes_eq word (45 ∷ 45 ∷ []) ≡ false → long_of word ≡ None → short_of word ≡ None
      → turn (at rows pending waiting) word ≡ plain_turn (at rows pending waiting) word
  unfolding walked
  turn-plain rows pending waiting word hyphens long short = rw (no-subcommand waiting word, hyphens, long, short) refl

  -- it is refused where no option waits for its value, and else is the value
  pub plain-stray : (rows : List Row) (pending : Option (Text × List Text)) (word : Text) → (plain_turn (at rows pending idle) word).0 ≡ kind.UnknownArgument ∷ []
  plain-stray rows pending word = rw (no-positional names 1) refl

  pub plain-value : (rows : List Row) (name word : Text) → is_name names name ≡ true
      → plain_turn (at rows (Some (name, [])) (option name)) word ≡ ([], at rows (Some (name, word ∷ [])) idle)
  plain-value rows name word known = rw (id-found name known, text-same name) refl

  -- ---- what is refused

  -- the flag for help, or no option at all
  abbrev at_most_help : Bool → Option Rule
  at_most_help b = cond b (Some help) None

  help-asked : (h : Held) → react_fault (rules names) false help [] h ≢ []
  help-asked h none =
      let asked : kind.DisplayHelp ∷ [] ≡ [] = (both-empty (settle_fault (rules names) false h) _ none).1 in
      cc

  long-refused : (b : Bool) (value : Option Text) (h : Held) → long_fault (rules names) false (at_most_help b) value h ≢ []
  long-refused false value h none = cc
  long-refused true (Some value) h none = cc
  long-refused true None h none = help-asked h none

  short-refused : (b : Bool) (rest : Text) (h : Held) (next : Held → Kinds) → short_fault (rules names) false (at_most_help b) rest h next ≢ []
  short-refused false rest h next none = cc
  short-refused true rest h next none = help-asked h (both-empty (react_fault (rules names) false help [] h) _ none).0

  -- a word with the name of no option
  pub unknown-refused : (rows : List Row) (pending : Option (Text × List Text)) (waiting : Waiting) (word name : Text) (value : Option Text) → is_name names name ≡ false
      → bytes_eq word (45 ∷ 45 ∷ []) ≡ false → long_of word ≡ Some (name, value) → (turn (at rows pending waiting) word).0 ≢ []
  unknown-refused rows pending waiting word name value unknown hyphens long none =
      let missing = name-missing (λ a. not (is_some a.index) && has_long a name) name (λ n. or-false (bytes_eq n name)) names unknown in
      let at_word = ap (λ t. t.0) (sym (turn-long rows pending waiting word name value hyphens long ∙ ap (long_turn (at rows pending waiting) word value) missing)) ∙ none in
      long-refused _ value (holding rows pending) (both-empty _ _ at_word).0

  -- a bundle of flags has no fault only where it has no character
  pub flags-refused : (k : ℕ) (flags : Text) (h : Held) → flags_fault (rules names) false k flags 0 h ≡ [] → 0 < k → slice_get (chars flags) 0 ≡ None
  unfolding flags_fault
  flags-refused zero flags h none some = absurd (omega arith)
  flags-refused (suc k) flags h none some = go (slice_get (chars flags) 0) refl
    where
      go : (first : Option ℕ) → slice_get (chars flags) 0 ≡ first → slice_get (chars flags) 0 ≡ None
      go None e = e
      go (Some x) e =
          let found = only-help (λ a. not (is_some a.index) && has_short a x) (λ n. refl) names in
          let met = ap (λ o. bundle_step_fault (rules names) false o flags 0 h (flags_fault (rules names) false k)) (sym e) ∙ none in
          let rest = drop (length (encode_utf8 x)) flags in
          let next = flags_fault (rules names) false k rest 0 in
          absurd (short-refused (has_short help x) rest h next (ap (λ o. short_fault (rules names) false o rest h next) (sym found) ∙ met))

  -- ---- a word that begins with one hyphen

  abbrev bundle_turn : Walk → Text → Kinds → Held × Outcome → Kinds × Walk
  bundle_turn w word kinds met =
      let step = after_flag (rules names) w.waiting word met.0 met.1 in
      (or_else kinds (step_fault (shape names) 1 step.0 step.1), after_step (rules names) word w step.0 step.1)

  turn-bundle : (rows : List Row) (pending : Option (Text × List Text)) (waiting : Waiting) (word flags : Text)
      → bytes_eq word (45 ∷ 45 ∷ []) ≡ false → long_of word ≡ None → short_of word ≡ Some flags
      → turn (at rows pending waiting) word
      ≡ bundle_turn (at rows pending waiting) word (flags_fault (rules names) false (length flags) flags 0 (holding rows pending))
      (bundle_met (rules names) (length flags) flags 0 plain (holding rows pending))
  unfolding walked
  turn-bundle rows pending waiting word flags hyphens long short = rw (no-subcommand waiting word, hyphens, long, short) refl

  no-character : (flags : Text) (h : Held) → flags_fault (rules names) false (length flags) flags 0 h ≡ [] → slice_get (chars flags) 0 ≡ None
  unfolding chars
  no-character [] h none = refl
  no-character (x ∷ flags) h none = flags-refused (length (x ∷ flags)) (x ∷ flags) h none (omega arith)

  -- it has a fault, or is read as if it were no option
  pub turn-short : (rows : List Row) (pending : Option (Text × List Text)) (waiting : Waiting) (word flags : Text)
      → bytes_eq word (45 ∷ 45 ∷ []) ≡ false → long_of word ≡ None → short_of word ≡ Some flags → (turn (at rows pending waiting) word).0 ≡ []
      → turn (at rows pending waiting) word ≡ plain_turn (at rows pending waiting) word
  turn-short rows pending waiting word flags hyphens long short none =
      let h = holding rows pending in
      let is = turn-bundle rows pending waiting word flags hyphens long short in
      let empty = no-character flags h (both-empty _ _ (ap (λ t. t.0) (sym is) ∙ none)).0 in
      is ∙ ap₂ (bundle_turn (at rows pending waiting) word) (sym (fault_ends (rules names) false (length flags) flags 0 h (sym empty)))
      (sym (bundle_ends (rules names) (length flags) flags 0 plain h (sym empty)))
