-- What a number of items that was read says of the tables, and of the item that a word draws of so many.
use Rattle.std.proofs.Common.{◌≡◌, ℕ, suc, ◌+◌, ◌%◌, ◌≤◌, List, [], ◌∷◌, ◌++◌, length, take, get_or, All, refl, sym, ◌∙◌, ap, subst}
use Rattle.std.proofs.lemmas.List.Elements.{All-nil, All-cons}
use Rattle.shop_model.specs.declared.requests.Request.{Request}
use Rattle.shop_model.specs.declared.tables.Tables.{Tables}
use Rattle.shop_model.specs.lists.Catalogues.{Catalogue}
use Rattle.shop_history.specs.declared.acts.Entry.{Entry}
use Rattle.shop_history.specs.declared.keys.Key.{Key}
use Rattle.shop_history.specs.declared.keys.Key.TheVariants as key
use Rattle.shop_history.specs.declared.keys.Row.TheVariants as row
use Rattle.shop_history.specs.Keys.{row_of}
use Rattle.shop_history.specs.Logs.{history, tables}
use Rattle.shop_attempt.specs.declared.attempts.ReadOf.{ReadOf}
use Rattle.shop_attempt.specs.Reads.{AreTrue}
use Rattle.shop_browse.specs.declared.attempted.Ask.{Ask}
use Rattle.shop_browse.specs.Counting.{IsNumber, number_in, HasCount}
use Rattle.shop_browse.specs.Driver.{keys_of, Fits, AreSeen, WereRead, AsksFor, Begins}
use Rattle.shop_browse.specs.Footprints.{InFootprint, WasShown, IsDrawn}

-- what a key showed that was read

pub was_shown : (opening : Tables) (log : List Entry) (read : ReadOf) (rest : List ReadOf) → AreTrue opening log (read ∷ rest) → WasShown opening log read.key read.row
unfolding history
was_shown opening log read rest are = record { front = read.version; is = are.0.row_is }

module _ (count : ReadOf) (key_is : count.key ≡ key.Count) where
  -- it is the number of items of whichever tables show it
  pub size_read : (t : Tables) → row_of t count.key ≡ count.row → number_in count.row ≡ length t.items
  size_read t shows = sym (ap number_in (ap (row_of t) (sym key_is) ∙ shows))

  number_read : (t : Tables) → row_of t count.key ≡ count.row → count.row ≡ row.Number (number_in count.row)
  number_read t shows = sym (ap (row_of t) (sym key_is) ∙ shows) ∙ ap row.Number (sym (size_read t shows))

  pub number_seen : (c : Catalogue) (rest : List ReadOf) → AreSeen c (count ∷ rest) → IsNumber count.row
  number_seen c rest seen =
      let t : Tables = seen.0.0 in
      record {
        is = number_read t seen.0.1.shows.0;
        six = subst (λ n. 6 ≤ n) (sym (size_read t seen.0.1.shows.0)) seen.0.1.sound.six;
      }

  -- the item that a word draws of so many
  pub drawn_of : (opening : Tables) (log : List Entry) (rest : List ReadOf) (draw : ℕ) → IsNumber count.row → AreTrue opening log (count ∷ rest) → IsDrawn opening log draw (1 + draw % number_in count.row)
  drawn_of opening log rest draw number are =
      let was = was_shown opening log count rest are in
      (number_in count.row, record { front = was.front; is = ap (row_of (tables opening (take was.front log))) (sym key_is) ∙ was.is ∙ number.is }, refl)

-- reads behind the first

pub fits_behind : (c : Catalogue) (t : Tables) (read : ReadOf) (rest : List ReadOf) → Fits c t (read ∷ rest) → Fits c t rest
fits_behind c t read rest fits = record { sound = fits.sound; named = fits.named; shows = fits.shows.1 }

pub were_behind : (c : Catalogue) (opening : Tables) (log : List Entry) (read : ReadOf) (rest : List ReadOf) → WereRead c opening log (read ∷ rest) → WereRead c opening log rest
were_behind c opening log read rest were = record { named = were.named; sound = were.sound; are = were.are.1 }

-- the rounds

-- the number of items is read before them
pub begins_counted : (follows : ℕ → ℕ → List ReadOf → Type 0) (request : Request) (ask : Ask) → ((items : ℕ) → follows items 0 []) → ((opening : Tables) (log : List Entry) → InFootprint opening log request ask.draw key.Count)
    → Begins (key.Count ∷ []) (HasCount follows) request ask
begins_counted follows request ask begins about = record {
  may = λ opening log.
      let P : Key → Type 0 = InFootprint opening log request ask.draw in
      All-cons P key.Count [] (about opening log) (All-nil P);
  goes_on = only;
}
  where
    only : (reads : List ReadOf) → keys_of reads ≡ key.Count ∷ [] → HasCount follows 0 reads
    only [] of = absurd cc
    only (count ∷ []) of = record { count = count; rest = []; reads_are = refl; key_is = cc; rest_are = begins (number_in count.row) }
    only (count ∷ other ∷ reads) of = absurd cc

module _ (follows : ℕ → ℕ → List ReadOf → Type 0) (round : ℕ) (reads : List ReadOf) (has : HasCount follows round reads) where
  -- the next round goes on behind it
  pub asks_behind : (request : Request) (ask : Ask) (keys : List Key) → round ≤ 5
      → ((more : List ReadOf) → keys_of more ≡ keys → follows (number_in has.count.row) (suc round) (has.rest ++ more))
      → ((opening : Tables) (log : List Entry) → WereRead ask.index.now opening log (has.count ∷ has.rest) → All (InFootprint opening log request ask.draw) keys)
      → AsksFor (HasCount follows) request ask round reads keys
  asks_behind request ask keys few goes may = record {
    few = few;
    goes_on = λ more of. record {
      count = has.count;
      rest = has.rest ++ more;
      reads_are = ap (λ (l : List ReadOf). l ++ more) has.reads_are;
      key_is = has.key_is;
      rest_are = goes more of;
    };
    may = λ opening log were. may opening log (subst (WereRead ask.index.now opening log) has.reads_are were);
  }

  -- the number, of the first of the reads
  pub number_first : (c : Catalogue) → AreSeen c reads → IsNumber has.count.row
  number_first c seen = number_seen has.count has.key_is c has.rest (subst (AreSeen c) has.reads_are seen)

  pub count_first : (first : ReadOf) → first ≡ get_or reads 0 first → first ≡ has.count
  count_first first at = at ∙ ap (λ (l : List ReadOf). get_or l 0 first) has.reads_are
