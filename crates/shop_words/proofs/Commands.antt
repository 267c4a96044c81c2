-- Commands with options: their words are read as they stand, and in one way.
use Rattle.std.proofs.Common.{◌≡◌, ◌≢◌, ◌∙◌, ◌<◌, ◌==◌, ℕ, true, false, not, refl, sym, ap, ap₂, subst, List, [], ◌∷◌, drop, map, length, Option, Some, None, codes, true≢false, arith, ltb-true, Bor, Err, IsErrAnd, Ok, Result, get_or}
use Rattle.std.specs.Prelude.{nat_lt, slice_index}
use Rattle.std.specs.List.{All, AllByRecursion, Contains, IsDistinct, list_all}
use Rattle.std.specs.Str.{bytes_eq, IsAscii}
use Rattle.std.proofs.lemmas.List.Elements.{All-cons}
use Rattle.std.proofs.lemmas.List.Sums.{AllPass-from_list_all}
use Rattle.std.proofs.lemmas.Str.{IsUtf8-from_ascii}
use Rattle.std.proofs.lemmas.Str.Ascii.{IsAscii-from_all}
use Rattle.clap.specs.Walk.{Text}
use Rattle.shop_words.specs.declared.options.Refusal.{Refusal}
use Rattle.shop_words.specs.declared.options.Refusal.TheVariants as refusal
use Rattle.shop_words.specs.Commands.{IsGiven, IsRead}
use Rattle.shop_words.specs.Options.{AreOptions, Given, IsChosen, IsOptionName, IsPlain, IsReading, IsRequired, IsWord, name_of, value_for, value_of}
use Rattle.shop_words.proofs.Parses.{by-recursion, from-recursion}
use Rattle.shop_words.proofs.Readings.{option-words}
use Rattle.shop_words.proofs.Rules.{text-same}

-- ---- literals

-- bytes below 128, by a test
pub ascii-from : (text : Text) → list_all (λ b. nat_lt b 128) text ≡ true → IsAscii text
ascii-from text low = IsAscii-from_all text (λ k d lt. ltb-true _ _ (AllPass-from_list_all (λ b. nat_lt b 128) text low k d lt))

pub name-from : (name : Text) → 0 < length name → list_all (λ b. nat_lt b 128) name ≡ true → list_all (λ b. not (b == 61)) name ≡ true → IsOptionName name
name-from name some low other = record {
  some = some;
  ascii = ascii-from name low;
  no_equals = λ k d lt. not-equals _ (AllPass-from_list_all (λ b. not (b == 61)) name other k d lt);
}
  where
    not-equals : (b : ℕ) → not (b == 61) ≡ true → b ≢ 61
    not-equals b e same = let no : false ≡ true = rw same at e in true≢false (sym no)

pub plain-from : (text : Text) → list_all (λ b. nat_lt b 128) text ≡ true → slice_index text 0 ≢ 45 → IsPlain text
plain-from text low other = record { utf8 = IsUtf8-from_ascii text (ascii-from text low); no_hyphen = other }

pub word-from : (text : Text) → list_all (λ b. nat_lt b 128) text ≡ true → text ≢ codes "--" → IsWord text
word-from text low other = record { utf8 = IsUtf8-from_ascii text (ascii-from text low); no_hyphens = other }

-- ---- what one value chooses

some-same : (a b : Text) → Some a ≡ Some b → a ≡ b
some-same a b is = cc

-- a value, where there is one, is plain
abbrev pub IsPlainAt : (Text → Option Text) → Text → Type 0
IsPlainAt values name = (text : Text) → values name ≡ Some text → IsPlain text

pub chosen-plain : {A : Type 0} (form : Text → Option A) (fallback : A) (values : Text → Option Text) (name : Text) (chosen : A)
    → ((text : Text) (x : A) → form text ≡ Some x → IsPlain text) → IsChosen form fallback (values name) chosen → IsPlainAt values name
chosen-plain form fallback values name chosen plain chooses text is = plain text chosen (subst (λ v. IsChosen form fallback v chosen) is chooses)

pub chosen-along : {A : Type 0} (form : Text → Option A) (fallback : A) (value other : Option Text) (chosen : A) → value ≡ other
    → IsChosen form fallback value chosen → IsChosen form fallback other chosen
chosen-along form fallback value other chosen same = subst (λ v. IsChosen form fallback v chosen) same

pub chosen-same : {A : Type 0} (form : Text → Option A) (fallback : A) (value : Option Text) (a b : A) → IsChosen form fallback value a → IsChosen form fallback value b → a ≡ b
chosen-same form fallback None a b x y = x ∙ sym y
chosen-same form fallback (Some text) a b x y = let both : Some a ≡ Some b = sym x ∙ y in cc

-- a value that has to be given
pub required-plain : (Form : Text → Type 0) (values : Text → Option Text) (name chosen : Text) → ((text : Text) → Form text → IsPlain text)
    → IsRequired Form (values name) chosen → IsPlainAt values name
required-plain Form values name chosen plain required text is =
    let same : chosen ≡ text = some-same chosen text (sym required.given ∙ is) in
    plain text (subst Form same required.form)

pub required-along : (Form : Text → Type 0) (value other : Option Text) (chosen : Text) → value ≡ other → IsRequired Form value chosen → IsRequired Form other chosen
required-along Form value other chosen same = subst (λ v. IsRequired Form v chosen) same

pub required-same : (Form : Text → Type 0) (value : Option Text) (a b : Text) → IsRequired Form value a → IsRequired Form value b → a ≡ b
required-same Form value a b x y = some-same a b (sym x.given ∙ y.given)

-- ---- what the values of options choose

-- no two things, and by plain values alone
pub record IsForm {A : Type 0} (names : List Text) (Chooses : (Text → Option Text) → A → Type 0) : Type 0 where
  pub known : AllByRecursion IsOptionName names
  pub along : (values others : Text → Option Text) → ((name : Text) → values name ≡ others name) → (chosen : A) → Chooses values chosen → Chooses others chosen
  pub same : (values : Text → Option Text) (one other : A) → Chooses values one → Chooses values other → one ≡ other
  pub plain : (values : Text → Option Text) (chosen : A) → Chooses values chosen → AllByRecursion (IsPlainAt values) names

-- a choice with one option more than another one: it chooses a part by the others, and its own by this one
pub record IsMore {A B C : Type 0} (Inner : (Text → Option Text) → A → Type 0) (Outer : (Text → Option Text) → C → Type 0) (name : Text) (form : Text → Option B) (fallback : B) : Type 0 where
  pub part : C → A
  pub own : C → B
  pub whole : (one other : C) → part one ≡ part other → own one ≡ own other → one ≡ other
  pub apart : (values : Text → Option Text) (chosen : C) → Outer values chosen → Inner values (part chosen) × IsChosen form fallback (values name) (own chosen)
  pub joined : (values : Text → Option Text) (chosen : C) → Inner values (part chosen) → IsChosen form fallback (values name) (own chosen) → Outer values chosen

module _ {A B C : Type 0} {Inner : (Text → Option Text) → A → Type 0} {Outer : (Text → Option Text) → C → Type 0} {name : Text} {form : Text → Option B} {fallback : B} (more : IsMore Inner Outer name form fallback) where
  pub more-form : (names : List Text) → IsForm names Inner → IsOptionName name → ((text : Text) (x : B) → form text ≡ Some x → IsPlain text) → IsForm (name ∷ names) Outer
  more-form names inner named plain = record {
    known = (named, inner.known);
    along = λ values others same chosen chooses.
        let parts = more.apart values chosen chooses in
        more.joined others chosen (inner.along values others same (more.part chosen) parts.0) (chosen-along form fallback (values name) (others name) (more.own chosen) (same name) parts.1);
    same = λ values one other x y.
        let first = more.apart values one x in
        let second = more.apart values other y in
        more.whole one other (inner.same values (more.part one) (more.part other) first.0 second.0) (chosen-same form fallback (values name) (more.own one) (more.own other) first.1 second.1);
    plain = λ values chosen chooses.
        let parts = more.apart values chosen chooses in
        (chosen-plain form fallback values name (more.own chosen) plain parts.1, inner.plain values (more.part chosen) parts.0);
  }

-- one option more, beside what others choose
abbrev pub Beside : {A B : Type 0} → ((Text → Option Text) → A → Type 0) → Text → (Text → Option B) → B → (Text → Option Text) → A × B → Type 0
Beside Inner name form fallback values p = Inner values p.0 × IsChosen form fallback (values name) p.1

pub beside-form : {A B : Type 0} {Inner : (Text → Option Text) → A → Type 0} {names : List Text} → IsForm names Inner → (name : Text) (form : Text → Option B) (fallback : B)
    → IsOptionName name → ((text : Text) (x : B) → form text ≡ Some x → IsPlain text) → IsForm (name ∷ names) (Beside Inner name form fallback)
beside-form {names} inner name form fallback =
    more-form
    (record {
      part = λ p. p.0;
      own = λ p. p.1;
      whole = λ one other rest own. ap₂ (λ rest own. (rest, own)) rest own;
      apart = λ values p chooses. chooses;
      joined = λ values p rest own. (rest, own);
    })
    names inner

-- each option's value is that of its name
own-value : (given : List Given) → IsDistinct bytes_eq (map name_of given) → AllByRecursion (λ g. value_for given (name_of g) ≡ Some (value_of g)) given
unfolding IsDistinct
own-value [] once = tt
own-value (g ∷ given) once = (rw (text-same (name_of g)) refl, later given once.0 (own-value given once.1))
  where
    later : (rest : List Given) → AllByRecursion (λ n. bytes_eq (name_of g) n ≡ false) (map name_of rest)
        → AllByRecursion (λ h. value_for given (name_of h) ≡ Some (value_of h)) rest → AllByRecursion (λ h. value_for (g ∷ given) (name_of h) ≡ Some (value_of h)) rest
    later [] unlike own = tt
    later (h ∷ rest) unlike own = (rw unlike.0 own.0, later rest unlike.1 own.1)

plain-values : (names : List Text) (whole rest : List Given) → All (IsPlainAt (value_for whole)) names
    → AllByRecursion (Contains names) (map name_of rest) → AllByRecursion (λ g. value_for whole (name_of g) ≡ Some (value_of g)) rest → AllByRecursion IsPlain (map value_of rest)
plain-values names whole [] forms known own = tt
plain-values names whole (g ∷ rest) forms known own = (at known.0 (value_of g) own.0, plain-values names whole rest forms known.1 own.1)
  where
    at : Contains names (name_of g) → IsPlainAt (value_for whole) (name_of g)
    at found = subst (IsPlainAt (value_for whole)) found.2 (forms found.0 (name_of g) found.1)

-- the options stand behind the name
abbrev pub rest-of : List Text → List Text
rest-of words = drop 1 words

module _ {A : Type 0} (first : Text) (names : List Text) (Chooses : (Text → Option Text) → A → Type 0) (form : IsForm names Chooses) (words : List Text) where
  abbrev Is : A → Type 0
  Is = IsGiven first names Chooses words

  given-plain : (chosen : A) (is : Is chosen) → All IsPlain (map value_of is.given)
  given-plain chosen is =
      from-recursion IsPlain (map value_of is.given)
      (plain-values names is.given is.given (from-recursion _ names (form.plain (value_for is.given) chosen is.chooses)) (by-recursion _ _ is.options.known) (own-value is.given is.options.once))

  pub given-words : IsWord first → (chosen : A) → Is chosen → All IsWord words
  given-words word chosen is =
      subst (All IsWord) (sym is.named)
      (All-cons IsWord first is.rest word (option-words names is.rest is.given (from-recursion IsOptionName names form.known) is.options (given-plain chosen is)))

  options-behind : (chosen : A) (is : Is chosen) → AreOptions names (rest-of words) is.given
  options-behind chosen is = subst (λ rest. AreOptions names rest is.given) (sym (ap rest-of is.named)) is.options

  -- where no options are read nothing is given
  pub no-options : ((given : List Given) → AreOptions names (rest-of words) given → ¬ (All IsPlain (map value_of given))) → (chosen : A) → ¬ (Is chosen)
  no-options none chosen is = none is.given (options-behind chosen is) (given-plain chosen is)

  module _ (values : Text → Option Text) (reading : IsReading names (rest-of words) values) where
    -- what a reading chooses is given
    pub is-given : words ≡ first ∷ rest-of words → (chosen : A) → Chooses values chosen → Is chosen
    is-given named chosen chooses = record {
      rest = rest-of words;
      named = named;
      given = reading.given;
      options = reading.options;
      chooses = form.along values (value_for reading.given) reading.those chosen chooses;
    }

    -- and what is given, the reading chooses
    pub chosen-by : (chosen : A) → Is chosen → Chooses values chosen
    chosen-by chosen is =
        form.along (value_for is.given) values (λ name. sym (reading.only is.given (options-behind chosen is) (given-plain chosen is) name)) chosen is.chooses

    pub one-given : (chosen : A) → Chooses values chosen → (other : A) → Is other → other ≡ chosen
    one-given chosen chooses other is = form.same values other chosen (chosen-by other is) chooses

-- ---- the steps of reading one

-- an error that is passed up tells what came
pub passed : {T : Type 0} (Is : T → Type 0) (r : Result T Refusal) (e : Refusal) → IsErrAnd r (λ y. y ≡ e) → (e ≡ refusal.Bad → (asked : T) → ¬ (Is asked)) → IsRead Is r
passed Is (Ok x) e is none = absurd is
passed {T} Is (Err y) e is none = subst (λ z. IsRead Is (Err z)) (sym is) (by e none)
  where
    by : (z : Refusal) → (z ≡ refusal.Bad → (asked : T) → ¬ (Is asked)) → IsRead Is (Err z)
    by refusal.Bad none = none refl
    by refusal.Memory none = tt

abbrev pub texts : List (Bor Text) → List Text
texts = map (λ s. s.now)

pub first-named : (first : Text) (words : List Text) (read : List (Bor Text)) (blank : Bor Text) → texts read ≡ words → 0 < length read → (get_or read 0 blank).now ≡ first
    → words ≡ first ∷ rest-of words
first-named first words [] blank are some is = absurd (omega (arith, some))
first-named first words (t ∷ read) blank are some is = subst (λ ws. ws ≡ first ∷ rest-of ws) are (ap (λ w. w ∷ texts read) is)

-- ---- one of several commands

-- words begin with one name
pub same-name : (a b : Text) (words rest more : List Text) → words ≡ a ∷ rest → words ≡ b ∷ more → bytes_eq a b ≡ true
same-name a b words rest more x y =
    let both : a ∷ rest ≡ b ∷ more = sym x ∙ y in
    let same : a ≡ b = cc in
    subst (λ n. bytes_eq a n ≡ true) same (text-same a)

-- what words give, where they begin with its name
pub record Only {T A : Type 0} (made : A → T) (Given : A → Type 0) (other : T) : Type 0 where
  pub chosen : A
  pub is : other ≡ made chosen
  pub given : Given chosen

-- one kind of command: the one with this name and these options
pub record IsKind {T A : Type 0} (Is : List Text → T → Type 0) (first : Text) (names : List Text) (Choose : (Text → Option Text) → A → Type 0) (made : A → T) : Type 0 where
  pub form : IsForm names Choose
  pub stands : (words : List Text) (chosen : A) → IsGiven first names Choose words chosen → Is words (made chosen)
  pub only : (words : List Text) (other : T) → words ≡ first ∷ rest-of words → Is words other → Only made (IsGiven first names Choose words) other

-- what is made of words that begin with the name
module _ {T A : Type 0} {Is : List Text → T → Type 0} {first : Text} {names : List Text} {Choose : (Text → Option Text) → A → Type 0} {made : A → T}
    (kind : IsKind Is first names Choose made) (words : List Text) (read : List (Bor Text)) (are : texts read ≡ words) (named : words ≡ first ∷ rest-of words) where
  -- no options: nothing is given
  pub none-read : ((given : List Given) → AreOptions names (rest-of (texts read)) given → ¬ (All IsPlain (map value_of given))) → (other : T) → ¬ (Is words other)
  none-read none other is =
      let only = kind.only words other named is in
      no-options first names Choose kind.form words (subst (λ ws. (given : List Given) → AreOptions names (rest-of ws) given → ¬ (All IsPlain (map value_of given))) are none) only.chosen only.given

  module _ (values : Text → Option Text) (reading : IsReading names (rest-of (texts read)) values) where
    abbrev same-reading : IsReading names (rest-of words) values
    same-reading = subst (λ ws. IsReading names (rest-of ws) values) are reading

    pub chosen-read : (chosen : A) → Choose values chosen → IsRead (Is words) (Ok (made chosen))
    chosen-read chosen chooses = (
      kind.stands words chosen (is-given first names Choose kind.form words values same-reading named chosen chooses),
      λ other is.
          let only = kind.only words other named is in
          only.is ∙ ap made (one-given first names Choose kind.form words values same-reading chosen chooses only.chosen only.given),
    )

    pub none-chosen : ((chosen : A) → ¬ (Choose values chosen)) → (other : T) → ¬ (Is words other)
    none-chosen none other is =
        let only = kind.only words other named is in
        none only.chosen (chosen-by first names Choose kind.form words values same-reading only.chosen only.given)
