-- What clap takes and what it finds, as readings of the grammar of options.
use Rattle.std.proofs.Common.{◌≡◌, ◌≢◌, ◌∙◌, ◌<◌, ℕ, zero, suc, Bool, true, false, refl, sym, ap, subst, List, [], ◌∷◌, ◌++◌, map, Option, Some, None, drop, true≢false, arith}
use Rattle.std.specs.List.{All, AllByRecursion, Contains, flat_map}
use Rattle.std.specs.Str.{bytes_eq, IsAscii, IsUtf8}
use Rattle.std.proofs.lemmas.Str.{IsUtf8-append, IsUtf8-from_ascii}
use Rattle.std.proofs.lemmas.Str.Ascii.{IsAscii-nil}
use Rattle.std.proofs.lemmas.List.Elements.{All-drop}
use Rattle.clap.specs.Walk.{Text, first_of}
use Rattle.clap.specs.Simple.{matches_of}
use Rattle.clap.specs.Faults.{fault_of}
use Rattle.shop_words.specs.Options.{AreOptions, Given, IsOptionName, IsPlain, IsReading, IsWord, apart, joined, name_of, value_of, words_of}
use Rattle.shop_words.specs.Parser.{options_app}
use Rattle.shop_words.proofs.Parses.{by-recursion, each, fault-is, first-is, fits-from, fits-to, from-recursion, matches-are}
use Rattle.shop_words.proofs.Rules.{same-text, text-same}
use Rattle.shop_words.proofs.Spellings.{plain-more, spelled, spelled-more}
use Rattle.shop_words.proofs.Walks.{IsClear, read, row_of, taken}

-- ---- options that can be read back

named : (names : List Text) → All IsOptionName names → (name : Text) → Contains names name → IsOptionName name
named names all name found = subst IsOptionName found.2 (all found.0 name found.1)

clear-from : (names : List Text) → All IsOptionName names → (given : List Given) → AllByRecursion (Contains names) (map name_of given)
    → AllByRecursion IsPlain (map value_of given) → AllByRecursion IsClear given
clear-from names all [] known plain = tt
clear-from names all (g ∷ given) known plain = ((named names all (name_of g) known.0, plain.0), clear-from names all given known.1 plain.1)

-- UTF-8, and an ASCII byte before it
pub utf8-more : (b : ℕ) (bs : List ℕ) → b < 128 → IsUtf8 bs → IsUtf8 (b ∷ bs)
utf8-more b bs low utf8 = IsUtf8-append (b ∷ []) bs (IsUtf8-from_ascii (b ∷ []) one) utf8
  where
    one : IsAscii (b ∷ [])
    one zero = low
    one (suc i) = IsAscii-nil i

different : (word other : Text) → bytes_eq word other ≡ false → word ≢ other
different word other unlike same = true≢false (sym (rw same (text-same other)) ∙ unlike)

same-not : (word other : Text) → word ≢ other → bytes_eq word other ≡ false
same-not word other unlike = go (bytes_eq word other) refl
  where
    go : (b : Bool) → bytes_eq word other ≡ b → bytes_eq word other ≡ false
    go true e = absurd (unlike (same-text word other e))
    go false e = e

spelled-word : (name : Text) → IsOptionName name → IsWord (spelled name None)
spelled-word name is = record {
  utf8 = utf8-more 45 (45 ∷ name) (omega arith) (utf8-more 45 name (omega arith) (IsUtf8-from_ascii name is.ascii));
  no_hyphens = different _ _ (spelled-more name None is);
}

joined-word : (name value : Text) → IsOptionName name → IsPlain value → IsWord (spelled name (Some value))
joined-word name value is plain =
    let ends = utf8-more 61 value (omega arith) plain.utf8 in
    record {
      utf8 = utf8-more 45 (45 ∷ (name ++ 61 ∷ value)) (omega arith) (utf8-more 45 (name ++ 61 ∷ value) (omega arith) (IsUtf8-append name (61 ∷ value) (IsUtf8-from_ascii name is.ascii) ends));
      no_hyphens = different _ _ (spelled-more name (Some value) is);
    }

plain-word : (value : Text) → IsPlain value → IsWord value
plain-word value plain = record { utf8 = plain.utf8; no_hyphens = different _ _ (plain-more value plain) }

clear-words : (given : List Given) → AllByRecursion IsClear given → AllByRecursion IsWord (flat_map words_of given)
clear-words [] clear = tt
clear-words (apart name value ∷ given) clear = (spelled-word name clear.0.0, (plain-word value clear.0.1, clear-words given clear.1))
clear-words (joined name value ∷ given) clear = (joined-word name value clear.0.0 clear.0.1, clear-words given clear.1)

-- the words of plain options are words
pub option-words : (names words : List Text) (given : List Given) → All IsOptionName names → AreOptions names words given → All IsPlain (map value_of given) → All IsWord words
option-words names words given all options plain =
    subst (All IsWord) (sym options.stand)
    (from-recursion IsWord _ (clear-words given (clear-from names all given (by-recursion _ _ options.known) (by-recursion _ _ plain))))

-- ---- what clap does

module _ (names : List Text) (all : All IsOptionName names) (words : List Text) where
  abbrev rest : List Text
  rest = drop 1 words

  -- it takes plain options, and has their values
  pub options-taken : (given : List Given) → AreOptions names rest given → All IsPlain (map value_of given)
      → (fault_of (options_app names) words ≡ []) × (matches_of (options_app names) words ≡ map row_of given)
  options-taken given options plain =
      let known = by-recursion _ _ options.known in
      let fits = fits-from names given [] known options.once (nothing-used (map name_of given)) in
      let end = taken names given [] None [] refl refl (clear-from names all given known (by-recursion _ _ plain)) fits in (
        fault-is names words ∙ rw options.stand (ap (λ e. e.0) end),
        matches-are names words ∙ rw options.stand (ap (λ e. e.1) end),
      )
    where
      nothing-used : (ns : List Text) → AllByRecursion (λ n. false ≡ false) ns
      nothing-used [] = tt
      nothing-used (n ∷ ns) = (refl, nothing-used ns)

  -- and takes nothing else of words
  options-read : All IsWord rest → fault_of (options_app names) words ≡ []
      → (given : List Given) × AreOptions names rest given × (matches_of (options_app names) words ≡ map row_of given)
  options-read text none =
      let no_hyphens = each IsWord _ (λ w is. same-not w (45 ∷ 45 ∷ []) is.no_hyphens) rest (by-recursion IsWord rest text) in
      let reads = read names rest no_hyphens (sym (fault-is names words) ∙ none) in
      let parts = fits-to names reads.given [] reads.fits in
      (reads.given, record { stand = reads.stand; known = from-recursion _ _ parts.0; once = parts.1 }, matches-are names words ∙ reads.all)

  -- what it found is a reading
  pub is-reading : (values : Text → Option Text) → All IsWord words → fault_of (options_app names) words ≡ []
      → ((name : Text) → values name ≡ first_of name (matches_of (options_app names) words)) → IsReading names rest values
  is-reading values text none found =
      let read = options-read (All-drop IsWord 1 words text) none in
      record {
        given = read.0;
        options = read.1;
        those = λ name. found name ∙ ap (first_of name) read.2 ∙ first-is name read.0;
        only = λ other options plain name. found name ∙ ap (first_of name) (options-taken other options plain).1 ∙ first-is name other;
      }
