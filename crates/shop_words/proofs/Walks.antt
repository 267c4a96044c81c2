-- clap's walk over whole lists of words: what it takes is options, each known and each at most once.
use Rattle.std.proofs.Common.{◌≡◌, ◌≢◌, ◌∙◌, Bool, true, false, refl, sym, ap, ap₂, subst, List, [], ◌∷◌, ◌++◌, map, append-nil, append_assoc, Option, Some, None}
use Rattle.std.specs.Prelude.{⊤}
use Rattle.std.specs.List.{flat_map, fold}
use Rattle.std.specs.List.{AllByRecursion}
use Rattle.std.specs.Str.{bytes_eq}
use Rattle.clap.specs.Lexer.{long_of, short_of}
use Rattle.clap.specs.Walk.{Row, Text, Walk, has_row, idle, option, settled_rows, used, walked}
use Rattle.clap.specs.Kinds.{Kinds, or_else}
use Rattle.clap.specs.Faults.{react_fault, settle_fault, use_fault, walk_fault}
use Rattle.clap.specs.declared.error.kind.ErrorKind.TheVariants as kind
use Rattle.shop_words.specs.Options.{Given, apart, joined, name_of, value_of, words_of, IsOptionName, IsPlain}
use Rattle.shop_words.proofs.Rules.{is_name, rules, shape}
use Rattle.shop_words.proofs.Rules as rule
use Rattle.shop_words.proofs.Spellings.{spelled, spelled-read, spelled-more, read-spelled, plain-long, plain-short, plain-more}
use Rattle.shop_words.proofs.Turns.{at, both-empty, holding, row, turn, turn-apart, turn-joined, turn-plain, turn-short, plain-stray, plain-value, plain_turn, unknown-refused, use-again, use-fresh, used-fresh, id-found}

-- the row of an option
abbrev pub row_of : Given → Row
row_of g = row (name_of g) (value_of g)

or-assoc : (a b c : Kinds) → or_else (or_else a b) c ≡ or_else a (or_else b c)
or-assoc [] b c = refl
or-assoc (k ∷ ks) b c = refl

-- an option that clap can read back
abbrev pub IsClear : Given → Type 0
IsClear g = IsOptionName (name_of g) × IsPlain (value_of g)

module _ (names : List Text) where
  -- the fault of the walk over these words and the rows at its end
  abbrev pub end : Walk → List Text → Kinds × List Row
  end w words =
      let last = fold (walked (rules names) []) w words in
      (or_else (walk_fault (shape names) [] w words) (settle_fault (rules names) false last.held), settled_rows (rules names) last.held.pending last.held.rows)

  -- a first word, and the others
  abbrev follows : List Text → Kinds × Walk → Kinds × List Row
  follows rest t = (or_else t.0 (end t.1 rest).0, (end t.1 rest).1)

  end-step : (w : Walk) (word : Text) (rest : List Text) → end w (word ∷ rest) ≡ follows rest (turn names w word)
  unfolding walk_fault
  end-step w word rest =
      let last = fold (walked (rules names) []) (walked (rules names) [] w word) rest in
      ap (λ kinds. (kinds, settled_rows (rules names) last.held.pending last.held.rows))
      (or-assoc (turn names w word).0 (walk_fault (shape names) [] (walked (rules names) [] w word) rest) (settle_fault (rules names) false last.held))

  -- the options have names of the command's, and no two the same, nor one that has a row
  abbrev pub Fits : List Row → List Given → Type 0
  Fits done [] = ⊤
  Fits done (g ∷ given) = (is_name names (name_of g) ≡ true) × (has_row (name_of g) done ≡ false) × Fits (done ++ row_of g ∷ []) given

  settle-fresh : (name value : Text) (done : List Row) → is_name names name ≡ true → has_row name done ≡ false
      → settle_fault (rules names) false (holding done (Some (name, value ∷ []))) ≡ []
  settle-fresh name value done known fresh = rw (id-found names name known) (use-fresh name value done fresh)

  settled-is : (name value : Text) (done : List Row) → is_name names name ≡ true
      → settled_rows (rules names) (Some (name, value ∷ [])) done ≡ used (rule.option name) (value ∷ []) done
  settled-is name value done known = rw (id-found names name known) refl

  -- what the grammar has is taken, with its rows
  pub taken : (given : List Given) (rows : List Row) (pending : Option (Text × List Text)) (done : List Row)
      → settle_fault (rules names) false (holding rows pending) ≡ [] → settled_rows (rules names) pending rows ≡ done
      → AllByRecursion IsClear given → Fits done given
      → end (at rows pending idle) (flat_map words_of given) ≡ ([], done ++ map row_of given)
  unfolding walk_fault
  taken [] rows pending done settles settled clear fits = λ i. (settles i, (settled ∙ sym (append-nil done)) i)
  taken (apart name value ∷ given) rows pending done settles settled clear fits =
      let first = turn-apart names rows pending idle (spelled name None) name fits.0 (spelled-more name None clear.0.0) (spelled-read name None clear.0.0) in
      let second = turn-plain names done (Some (name, [])) (option name) value (plain-more value clear.0.1) (plain-long value clear.0.1) (plain-short value clear.0.1)
      ∙ plain-value names done name value fits.0 in
      let rest = taken given done (Some (name, value ∷ [])) (done ++ row name value ∷ []) (settle-fresh name value done fits.0 fits.1)
      (settled-is name value done fits.0 ∙ used-fresh name value done fits.1) clear.1 fits.2 in
      let more = value ∷ flat_map words_of given in
      end-step (at rows pending idle) (spelled name None) more
      ∙ ap (follows more) first
      ∙ ap₂ (λ (kinds : Kinds) (rows : List Row). follows more (or_else kinds [], at rows (Some (name, [])) (option name))) settles settled
      ∙ end-step (at done (Some (name, [])) (option name)) value (flat_map words_of given)
      ∙ ap (follows (flat_map words_of given)) second
      ∙ rest
      ∙ ap (λ (rows : List Row). ([], rows)) (append_assoc done (row name value ∷ []) (map row_of given))
  taken (joined name value ∷ given) rows pending done settles settled clear fits =
      let first = turn-joined names rows pending idle (spelled name (Some value)) name value fits.0 (spelled-more name (Some value) clear.0.0) (spelled-read name (Some value) clear.0.0) in
      let rest = taken given (used (rule.option name) (value ∷ []) done) None (done ++ row name value ∷ []) refl (used-fresh name value done fits.1) clear.1 fits.2 in
      let more = flat_map words_of given in
      end-step (at rows pending idle) (spelled name (Some value)) more
      ∙ ap (follows more) first
      ∙ ap₂ (λ (kinds : Kinds) (rows : List Row). follows more (or_else (or_else kinds (use_fault false (rule.option name) (value ∷ []) rows)) [], at (used (rule.option name) (value ∷ []) rows) None idle)) settles settled
      ∙ ap (λ (kinds : Kinds). follows more (or_else kinds [], at (used (rule.option name) (value ∷ []) done) None idle)) (use-fresh name value done fits.1)
      ∙ rest
      ∙ ap (λ (rows : List Row). ([], rows)) (append_assoc done (row name value ∷ []) (map row_of given))

  -- ---- what is taken stands in the grammar

  -- the words are options that fit, and these are the rows with theirs
  pub record Reads (done : List Row) (words : List Text) (rows : List Row) : Type 0 where
    pub given : List Given
    pub stand : words ≡ flat_map words_of given
    pub fits : Fits done given
    pub all : rows ≡ done ++ map row_of given

  -- where the walk stands: no option waits for its value, or this one does
  data Place : Type 0 where
    free : List Row → Option (Text × List Text) → Place
    waits : List Row → Text → Place

  abbrev walk_at : Place → Walk
  walk_at (free rows pending) = at rows pending idle
  walk_at (waits rows name) = at rows (Some (name, [])) (option name)

  abbrev IsKnown : Place → Type 0
  IsKnown (free rows pending) = ⊤
  IsKnown (waits rows name) = is_name names name ≡ true

  -- the value of an option, and what follows it
  record Waited (rows : List Row) (name : Text) (words : List Text) (last : List Row) : Type 0 where
    value : Text
    rest : List Text
    stand : words ≡ value ∷ rest
    fresh : has_row name rows ≡ false
    reads : Reads (rows ++ row name value ∷ []) rest last

  -- what a walk from here without a fault says
  abbrev Sound : Place → List Text → Type 0
  Sound (free rows pending) words = (settle_fault (rules names) false (holding rows pending) ≡ [])
      × Reads (settled_rows (rules names) pending rows) words (end (at rows pending idle) words).1
  Sound (waits rows name) words = Waited rows name words (end (at rows (Some (name, [])) (option name)) words).1

  abbrev IsSound : List Text → Type 0
  IsSound words = (place : Place) → IsKnown place → (end (walk_at place) words).0 ≡ [] → Sound place words

  -- an option is fresh where its use has no fault
  is-fresh : (name value : Text) (rows : List Row) → use_fault false (rule.option name) (value ∷ []) rows ≡ [] → has_row name rows ≡ false
  is-fresh name value rows none = go (has_row name rows) refl
    where
      go : (b : Bool) → has_row name rows ≡ b → has_row name rows ≡ false
      go false e = e
      go true e = let again : kind.ArgumentConflict ∷ [] ≡ [] = sym (use-again name value rows e) ∙ none in cc

  -- an option that waits for its value has none yet
  no-value : (name : Text) (rows : List Row) → is_name names name ≡ true → settle_fault (rules names) false (holding rows (Some (name, []))) ≢ []
  no-value name rows known none = let missing : kind.InvalidValue ∷ [] ≡ [] = rw (id-found names name known) at none in cc

  -- the walk after the first word has no fault either
  rest-none : (w after : Walk) (word : Text) (rest : List Text) (kinds : Kinds) → turn names w word ≡ (kinds, after) → (end w (word ∷ rest)).0 ≡ []
      → (kinds ≡ []) × ((end after rest).0 ≡ []) × ((end w (word ∷ rest)).1 ≡ (end after rest).1)
  rest-none w after word rest kinds is none =
      let whole = end-step w word rest ∙ ap (follows rest) is in
      let parts = both-empty kinds (end after rest).0 (ap (λ e. e.0) (sym whole) ∙ none) in
      (parts.0, parts.1, ap (λ e. e.1) whole)

  module _ (word : Text) (rest : List Text) (hyphens : bytes_eq word (45 ∷ 45 ∷ []) ≡ false) (sound : IsSound rest) where
    -- the word names an option whose value is to come
    sound-apart : (place : Place) (name : Text) → IsKnown place → is_name names name ≡ true → long_of word ≡ Some (name, None)
        → (end (walk_at place) (word ∷ rest)).0 ≡ [] → Sound place (word ∷ rest)
    sound-apart (free rows pending) name known is long none =
        let done = settled_rows (rules names) pending rows in
        let parts = rest-none (at rows pending idle) (at done (Some (name, [])) (option name)) word rest _ (turn-apart names rows pending idle word name is hyphens long) none in
        let waited = sound (waits done name) is parts.1 in
        let reads = waited.reads in (
          (both-empty (settle_fault (rules names) false (holding rows pending)) [] parts.0).0,
          record {
            given = apart name waited.value ∷ reads.given;
            stand = ap₂ (λ (w : Text) (ws : List Text). w ∷ ws) (read-spelled word name None long) (waited.stand ∙ ap (λ (ws : List Text). waited.value ∷ ws) reads.stand);
            fits = (is, waited.fresh, reads.fits);
            all = parts.2 ∙ reads.all ∙ append_assoc done (row name waited.value ∷ []) (map row_of reads.given);
          },
        )
    sound-apart (waits rows waiting) name known is long none =
        let parts = rest-none (at rows (Some (waiting, [])) (option waiting)) _ word rest _ (turn-apart names rows (Some (waiting, [])) (option waiting) word name is hyphens long) none in
        absurd (no-value waiting rows known (both-empty (settle_fault (rules names) false (holding rows (Some (waiting, [])))) [] parts.0).0)

    -- the word is an option with its value
    sound-joined : (place : Place) (name value : Text) → IsKnown place → is_name names name ≡ true → long_of word ≡ Some (name, Some value)
        → (end (walk_at place) (word ∷ rest)).0 ≡ [] → Sound place (word ∷ rest)
    sound-joined (free rows pending) name value known is long none =
        let done = settled_rows (rules names) pending rows in
        let parts = rest-none (at rows pending idle) (at (used (rule.option name) (value ∷ []) done) None idle) word rest _ (turn-joined names rows pending idle word name value is hyphens long) none in
        let faults = both-empty (settle_fault (rules names) false (holding rows pending)) (use_fault false (rule.option name) (value ∷ []) done)
        (both-empty (react_fault (rules names) false (rule.option name) (value ∷ []) (holding rows pending)) [] parts.0).0 in
        let fresh = is-fresh name value done faults.1 in
        let last = (end (at (used (rule.option name) (value ∷ []) done) None idle) rest).1 in
        let reads = subst (λ (rows : List Row). Reads rows rest last) (used-fresh name value done fresh) (sound (free (used (rule.option name) (value ∷ []) done) None) tt parts.1).1 in (
          faults.0,
          record {
            given = joined name value ∷ reads.given;
            stand = ap₂ (λ (w : Text) (ws : List Text). w ∷ ws) (read-spelled word name (Some value) long) reads.stand;
            fits = (is, fresh, reads.fits);
            all = parts.2 ∙ reads.all ∙ append_assoc done (row name value ∷ []) (map row_of reads.given);
          },
        )
    sound-joined (waits rows waiting) name value known is long none =
        let parts = rest-none (at rows (Some (waiting, [])) (option waiting)) _ word rest _ (turn-joined names rows (Some (waiting, [])) (option waiting) word name value is hyphens long) none in
        absurd (no-value waiting rows known (both-empty (settle_fault (rules names) false (holding rows (Some (waiting, [])))) _
        (both-empty (react_fault (rules names) false (rule.option name) (value ∷ []) (holding rows (Some (waiting, [])))) [] parts.0).0).0)

    -- the word is no option
    sound-plain : (place : Place) → IsKnown place → turn names (walk_at place) word ≡ plain_turn names (walk_at place) word
        → (end (walk_at place) (word ∷ rest)).0 ≡ [] → Sound place (word ∷ rest)
    sound-plain (free rows pending) known plain none =
        let parts = rest-none (at rows pending idle) _ word rest _ plain none in
        let stray : kind.UnknownArgument ∷ [] ≡ [] = sym (plain-stray names rows pending word) ∙ parts.0 in
        cc
    sound-plain (waits rows name) known plain none =
        let parts = rest-none (at rows (Some (name, [])) (option name)) (at rows (Some (name, word ∷ [])) idle) word rest [] (plain ∙ plain-value names rows name word known) none in
        let next = sound (free rows (Some (name, word ∷ []))) tt parts.1 in
        let fresh = is-fresh name word rows (rw (id-found names name known) at next.0) in
        record {
          value = word;
          rest = rest;
          stand = refl;
          fresh = fresh;
          reads = subst (λ (done : List Row). Reads done rest (end (at rows (Some (name, [])) (option name)) (word ∷ rest)).1) (settled-is name word rows known ∙ used-fresh name word rows fresh)
              (subst (λ (last : List Row). Reads (settled_rows (rules names) (Some (name, word ∷ [])) rows) rest last) (sym parts.2) next.1);
        }

    plain-at : (place : Place) → long_of word ≡ None → short_of word ≡ None → turn names (walk_at place) word ≡ plain_turn names (walk_at place) word
    plain-at (free rows pending) long short = turn-plain names rows pending idle word hyphens long short
    plain-at (waits rows name) long short = turn-plain names rows (Some (name, [])) (option name) word hyphens long short

    -- a first word without a fault
    none-first : (place : Place) → (end (walk_at place) (word ∷ rest)).0 ≡ [] → (turn names (walk_at place) word).0 ≡ []
    none-first place none = (both-empty _ _ (ap (λ e. e.0) (sym (end-step (walk_at place) word rest)) ∙ none)).0

    short-at : (place : Place) (flags : Text) → long_of word ≡ None → short_of word ≡ Some flags → (turn names (walk_at place) word).0 ≡ []
        → turn names (walk_at place) word ≡ plain_turn names (walk_at place) word
    short-at (free rows pending) flags long short none = turn-short names rows pending idle word flags hyphens long short none
    short-at (waits rows name) flags long short none = turn-short names rows (Some (name, [])) (option name) word flags hyphens long short none

    unknown-at : (place : Place) (name : Text) (value : Option Text) → is_name names name ≡ false → long_of word ≡ Some (name, value) → (turn names (walk_at place) word).0 ≢ []
    unknown-at (free rows pending) name value unknown long = unknown-refused names rows pending idle word name value unknown hyphens long
    unknown-at (waits rows waiting) name value unknown long = unknown-refused names rows (Some (waiting, [])) (option waiting) word name value unknown hyphens long

    -- any word
    sound-word : (place : Place) → IsKnown place → (end (walk_at place) (word ∷ rest)).0 ≡ [] → Sound place (word ∷ rest)
    sound-word place known none = by-long (long_of word) refl
      where
        by-short : (flags : Option Text) → long_of word ≡ None → short_of word ≡ flags → Sound place (word ∷ rest)
        by-short None long short = sound-plain place known (plain-at place long short) none
        by-short (Some flags) long short = sound-plain place known (short-at place flags long short (none-first place none)) none

        by-name : (b : Bool) (name : Text) (value : Option Text) → is_name names name ≡ b → long_of word ≡ Some (name, value) → Sound place (word ∷ rest)
        by-name true name None is long = sound-apart place name known is long none
        by-name true name (Some value) is long = sound-joined place name value known is long none
        by-name false name value is long = absurd (unknown-at place name value is long (none-first place none))

        by-long : (read : Option (Text × Option Text)) → long_of word ≡ read → Sound place (word ∷ rest)
        by-long None long = by-short (short_of word) long refl
        by-long (Some p) long = by-name (is_name names p.0) p.0 p.1 refl long

  -- words with no two hyphens alone are read
  sound : (words : List Text) → AllByRecursion (λ (word : Text). bytes_eq word (45 ∷ 45 ∷ []) ≡ false) words → IsSound words
  unfolding walk_fault
  sound [] plain (free rows pending) known none = (none, record { given = []; stand = refl; fits = tt; all = sym (append-nil (settled_rows (rules names) pending rows)) })
  sound [] plain (waits rows name) known none = absurd (no-value name rows known none)
  sound (word ∷ rest) plain place known none = sound-word word rest plain.0 (sound rest plain.1) place known none

  pub read : (words : List Text) → AllByRecursion (λ (word : Text). bytes_eq word (45 ∷ 45 ∷ []) ≡ false) words → (end (at [] None idle) words).0 ≡ []
      → Reads [] words (end (at [] None idle) words).1
  read words plain none = (sound words plain (free [] None) tt none).1
