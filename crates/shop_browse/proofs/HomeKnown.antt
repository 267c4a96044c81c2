-- Home for the customer whose number is given: what it asks for, and what it shows.
use Rattle.std.proofs.Common.{◌≡◌, ℕ, zero, suc, List, [], ◌∷◌, ◌++◌, All, Option, Some, None, refl, sym, ◌∙◌, ap, subst, inl, inr, ⊎_elim, arith}
use Rattle.std.proofs.lemmas.Bool.{cases_eq}
use Rattle.std.proofs.lemmas.List.Elements.{All-nil, All-cons}
use Rattle.shop_model.specs.declared.refusal.Refusal.TheVariants.{NoCustomer}
use Rattle.shop_model.specs.declared.requests.Home as home_asked
use Rattle.shop_model.specs.declared.requests.Request.TheVariants.{Home}
use Rattle.shop_model.specs.declared.tables.Tables.{Tables}
use Rattle.shop_model.specs.asked.Refusals.{page_of}
use Rattle.shop_model.specs.lists.Catalogues.{Catalogue}
use Rattle.shop_model.specs.pages.Home.{customer_asked, home_page}
use Rattle.shop_model.specs.pages.Show.{check_customer, check_there, refused_or, show}
use Rattle.shop_model.specs.rows.Lookups.{row_numbered}
use Rattle.shop_model.specs.rows.Rows.{CustomerRow}
use Rattle.shop_history.specs.declared.keys.Key.{Key}
use Rattle.shop_history.specs.declared.keys.Key.TheVariants as key
use Rattle.shop_history.specs.declared.keys.Row.{Row}
use Rattle.shop_history.specs.declared.keys.Row.TheVariants as row
use Rattle.shop_history.specs.Keys.{row_of, shown}
use Rattle.shop_history.proofs.cited.Shown.{customer_found}
use Rattle.shop_draft.specs.declared.draft.Draft.{Draft}
use Rattle.shop_attempt.specs.declared.attempts.ReadOf.{ReadOf}
use Rattle.shop_attempt.specs.Reads as Reads
use Rattle.shop_browse.specs.declared.attempted.Ask.{Ask}
use Rattle.shop_browse.specs.declared.driver.Next.{Next}
use Rattle.shop_browse.specs.declared.names.Names.{Names}
use Rattle.shop_browse.specs.Counting.{HasCount, drawn_key, number_in}
use Rattle.shop_browse.specs.Driver.{keys_of, AreSeen, AsksFor, Fits, IsNext, WereRead}
use Rattle.shop_browse.specs.Footprints.{InFootprint}
use Rattle.shop_browse.specs.Home.{FollowsWelcome, IsGreeting, home_in}
use Rattle.shop_browse.specs.Names.{HaveTitles, NoneUnread, label_keys}
use Rattle.shop_browse.specs.Related.{related_in}
use Rattle.shop_browse.proofs.cited.Counting.{asks_behind, were_behind}
use Rattle.shop_browse.proofs.cited.Names.{titles_are}
use Rattle.shop_browse.proofs.cited.Reads.{shows_page}
use Rattle.shop_browse.proofs.HomeLemmas.{home_shown, related_read}
use Rattle.shop_browse.proofs.HomeReads.{drawn_may, related_may}
use Rattle.shop_browse.proofs.Items.{row_missing}

-- behind the number of items, the customer, the drawn item and labels of items related to it
abbrev pub FollowsGreeting : ℕ → Catalogue → ℕ → ℕ → ℕ → List ReadOf → Type 0
FollowsGreeting number c draw items = FollowsWelcome (Some number) c (drawn_key draw items)

-- the customer and the drawn item were read, and after the next round these labels
pub record HasGreeting (number : ℕ) (c : Catalogue) (drawn : Key) (round : ℕ) (reads : List ReadOf) : Type 0 where
  pub known : ReadOf
  pub read : ReadOf
  pub labels : List ReadOf
  pub reads_are : reads ≡ known ∷ read ∷ labels
  pub known_is : known.key ≡ key.Customer number
  pub read_is : read.key ≡ drawn
  pub first : round ≡ 1 → labels ≡ []
  pub labels_are : (round ≡ 1 → ⊥) → keys_of labels ≡ label_keys c (related_in read.row)

pub has_greeting : (number : ℕ) (c : Catalogue) (drawn : Key) (round : ℕ) (reads : List ReadOf) → (round ≡ 0 → ⊥) → FollowsWelcome (Some number) c drawn round reads → HasGreeting number c drawn round reads
has_greeting number c drawn zero reads some follows = absurd (some refl)
has_greeting number c drawn (suc zero) [] some follows = absurd cc
has_greeting number c drawn (suc zero) (known ∷ []) some follows = absurd cc
has_greeting number c drawn (suc zero) (known ∷ read ∷ []) some follows = record {
  known = known;
  read = read;
  labels = [];
  reads_are = refl;
  known_is = cc;
  read_is = cc;
  first = λ is. refl;
  labels_are = λ later. absurd (later refl);
}
has_greeting number c drawn (suc zero) (known ∷ read ∷ other ∷ reads) some follows = absurd cc
has_greeting number c drawn (suc (suc round)) reads some follows = record {
  known = follows.known;
  read = follows.rest_are.read;
  labels = follows.rest_are.labels;
  reads_are = follows.reads_are ∙ ap (λ (l : List ReadOf). follows.known ∷ l) follows.rest_are.reads_are;
  known_is = follows.key_is;
  read_is = follows.rest_are.key_is;
  first = λ is. absurd (omega (arith, is));
  labels_are = λ later. follows.rest_are.labels_are;
}

module _ (asked : home_asked.Home) (number : ℕ) (is_c : asked.ids.c ≡ Some number) (ask : Ask) (round : ℕ) (reads : List ReadOf) (has : HasCount (FollowsGreeting number ask.index.now ask.draw) round reads) where
  abbrev follows : ℕ → ℕ → List ReadOf → Type 0
  follows = FollowsGreeting number ask.index.now ask.draw

  abbrev drawn : Key
  drawn = drawn_key ask.draw (number_in has.count.row)

  pub asks_both : round ≡ 0 → AreSeen ask.index.now reads → (keys : List Key) → keys ≡ key.Customer number ∷ drawn_key ask.draw (number_in has.count.row) ∷ []
      → AsksFor (HasCount (FollowsGreeting number ask.index.now ask.draw)) (Home asked) ask round reads keys
  asks_both first seen keys are =
      asks_behind follows round reads has (Home asked) ask keys (omega (arith, first))
      (λ more of.
      let none : has.rest ≡ [] = subst (λ r. follows (number_in has.count.row) r has.rest) first has.rest_are in
      subst (λ r. follows (number_in has.count.row) (suc r) (has.rest ++ more)) (sym first)
      (subst (λ (l : List ReadOf). keys_of (l ++ more) ≡ key.Customer number ∷ drawn ∷ []) (sym none) (of ∙ are)))
      (λ opening log were.
      let P : Key → Type 0 = InFootprint opening log (Home asked) ask.draw in
      subst (All P) (sym are) (All-cons P (key.Customer number) (drawn ∷ []) (inl (inr (inl (number, is_c, refl))))
      (All-cons P drawn [] (drawn_may follows (Home asked) ask round reads has seen (λ opening log k is. inl (inr (inr is))) opening log were) (All-nil P))))

  module _ (known : HasGreeting number ask.index.now (drawn_key ask.draw (number_in has.count.row)) round has.rest) where
    pub greeting_reads : reads ≡ has.count ∷ known.known ∷ known.read ∷ known.labels
    greeting_reads = has.reads_are ∙ ap (λ (l : List ReadOf). has.count ∷ l) known.reads_are

    pub asks_related : round ≡ 1 → (keys : List Key) → keys ≡ label_keys ask.index.now (related_in known.read.row)
        → AsksFor (HasCount (FollowsGreeting number ask.index.now ask.draw)) (Home asked) ask round reads keys
    asks_related second keys are =
        asks_behind follows round reads has (Home asked) ask keys (omega (arith, second))
        (λ more of. subst (λ r. follows (number_in has.count.row) (suc r) (has.rest ++ more)) (sym second) (record {
          known = known.known;
          rest = known.read ∷ more;
          reads_are = ap (λ (l : List ReadOf). l ++ more) (known.reads_are ∙ ap (λ (l : List ReadOf). known.known ∷ known.read ∷ l) (known.first second));
          key_is = known.known_is;
          rest_are = record { read = known.read; labels = more; reads_are = refl; key_is = known.read_is; labels_are = of ∙ are };
        }))
        (λ opening log were.
        subst (All (InFootprint opening log (Home asked) ask.draw)) (sym are)
        (related_may ask.index.now opening log (Home asked) ask.draw (number_in has.count.row) known.read known.labels known.read_is
        (were_behind ask.index.now opening log known.known (known.read ∷ known.labels)
        (were_behind ask.index.now opening log has.count (known.known ∷ known.read ∷ known.labels)
        (subst (λ (l : List ReadOf). WereRead ask.index.now opening log (has.count ∷ l)) known.reads_are were)))))

    shown_here : (t : Tables) → Fits ask.index.now t reads → Reads.Shows t (has.count ∷ known.known ∷ known.read ∷ known.labels)
    shown_here t fits = subst (Reads.Shows t) greeting_reads fits.shows

    -- the titles of items related to it are known
    titles_here : (round ≡ 1 → NoneUnread ask.index.now (number_in has.count.row) (related_in known.read.row)) → (names : Names) → names.index.now ≡ ask.index.now → names.labels.now ≡ known.labels
        → (t : Tables) → Fits ask.index.now t reads → HaveTitles t names (related_in known.read.row)
    titles_here none names index_is labels_are t fits =
        let here = shown_here t fits in
        let there = related_read ask.draw has.count known.read has.key_is known.read_is t fits.sound here.0 here.1.1.0 in
        let all : keys_of known.labels ≡ label_keys ask.index.now (related_in known.read.row)
        = ⊎_elim
        (λ (is : round ≡ 1). ap keys_of (known.first is) ∙ sym (none is there))
        (λ (later : round ≡ 1 → ⊥). known.labels_are later)
        (cases_eq round 1) in
        titles_are names t (fits.named ∙ sym index_is) (subst (Reads.Shows t) (sym labels_are) here.1.1.1) (related_in known.read.row)
        (ap keys_of labels_are ∙ all ∙ ap (λ (c : Catalogue). label_keys c (related_in known.read.row)) (sym index_is))

    -- the row of the customer
    known_row : (t : Tables) → Fits ask.index.now t reads → shown row.Customer (row_numbered t.customers number) ≡ known.known.row
    known_row t fits = ap (row_of t) (sym known.known_is) ∙ (shown_here t fits).1.0

    number_shows : (t : Tables) (customer : Option CustomerRow) → row_numbered t.customers number ≡ customer
        → show t (Home asked) ask.draw ≡ refused_or (check_there NoCustomer customer) (Some (home_page t asked.ids ask.draw customer))
    number_shows t customer found =
        ap (λ n. refused_or (check_customer t n) (Some (home_page t asked.ids ask.draw (customer_asked t n)))) is_c
        ∙ ap (λ o. refused_or (check_there NoCustomer o) (Some (home_page t asked.ids ask.draw o))) found

    -- what is done by the row of the customer
    pub greeting_next : AreSeen ask.index.now reads → (round ≡ 1 → NoneUnread ask.index.now (number_in has.count.row) (related_in known.read.row)) → (names : Names) → names.index.now ≡ ask.index.now → names.labels.now ≡ known.labels
        → (items : List ℕ) → items ≡ related_in known.read.row → (customer : Row) → customer ≡ known.known.row → (draft : Draft) (next : Next) → IsGreeting names ask.draw asked.ids customer items draft next
        → (asks : ℕ → List ReadOf → Type 0) (later : ℕ) → IsNext asks (Home asked) ask later reads draft next
    greeting_next seen none names index_is labels_are items are customer customer_is draft next is asks later =
        let first = (subst (AreSeen ask.index.now) greeting_reads seen).1.0 in
        by (row_numbered first.0.customers number) (ap (row_of first.0) (sym known.known_is) ∙ first.1.shows.0)
      where
        by : (o : Option CustomerRow) → shown row.Customer o ≡ known.known.row → IsNext asks (Home asked) ask later reads draft next
        by None absent =
            let greeting = subst (λ r. IsGreeting names ask.draw asked.ids r items draft next) (customer_is ∙ sym absent) is in
            subst (IsNext asks (Home asked) ask later reads draft) (sym greeting.0) (
              refl,
              λ t fits.
                  shows_page t (Home asked) ask.draw draft (page_of NoCustomer)
                  (number_shows t None (row_missing row.Customer (λ (x : CustomerRow) is. absurd cc) (row_numbered t.customers number) (known_row t fits ∙ sym absent))) greeting.1,
            )
        by (Some x) there =
            let greeting = subst (λ r. IsGreeting names ask.draw asked.ids r items draft next) (customer_is ∙ sym there) is in
            subst (IsNext asks (Home asked) ask later reads draft) (sym greeting.0) (
              refl,
              λ t fits.
                  let here = shown_here t fits in
                  shows_page t (Home asked) ask.draw draft (home_in names ask.draw asked.ids (Some x) items)
                  (number_shows t (Some x) (customer_found (row_numbered t.customers number) x (known_row t fits ∙ sym there))
                  ∙ ap Some (home_shown ask.draw has.count known.read has.key_is known.read_is names t asked.ids (Some x) here.0 here.1.1.0 (titles_here none names index_is labels_are t fits)
                  ∙ ap (home_in names ask.draw asked.ids (Some x)) (sym are))) greeting.1,
            )
