-- Entries that are added one after another.
use Rattle.std.proofs.Common.{◌≡◌, ℕ, ◌+◌, ◌-◌, ◌<◌, ◌≤◌, List, [], ◌∷◌, ◌++◌, length, take, get_or, refl, sym, ◌∙◌, ap, subst, arith}
use Rattle.std.proofs.lemmas.List.{take_more, take_all, length-take}
use Rattle.shop_log.proofs.cited.Legality.{legal_front}
use Rattle.shop_model.specs.declared.tables.Tables.{Tables}
use Rattle.shop_history.specs.declared.acts.Entry.{Entry}
use Rattle.shop_history.specs.Keys.{row_of}
use Rattle.shop_history.specs.Logs.{tables, version_of, Legal, MayFollow}
use Rattle.shop_attempt.specs.Seats.{IsSeat}
use Rattle.shop_book.specs.declared.opening.Opening.{Opening}
use Rattle.shop_book.specs.Books.{BookValue, IsBook}
use Rattle.shop_book.specs.Solos.{SoloValue, seat_of}
use Rattle.shop_book.specs.Summaries.{summary_of}
use Rattle.shop_replay.specs.declared.replaying.Replayed.{Replayed}
use Rattle.shop_replay.specs.declared.replaying.Replayed.TheVariants as replayed
use Rattle.shop_replay.specs.Again.{GivesAgain, ShowSame}
use Rattle.shop_replay.specs.Replays.{AreAdded, IsAdded, IsFirstIllegal, IsLog, ReplayedAs, book_of, last_stamp}
use Rattle.shop_replay.proofs.Stamps.{last_stamp_push}

-- so many entries are the log of the book, whose seat is in order
pub record Replays (opening : Opening) (entries : List Entry) (solo : SoloValue) (latest count : ℕ) : Type 0 where
  pub valid : IsSeat (seat_of solo)
  pub book : solo.book ≡ book_of opening (take count entries)
  pub latest_is : latest ≡ solo.book.latest

pub none_yet : (entries : List Entry) (solo : SoloValue) → IsSeat (seat_of solo) → solo.book ≡ book_of solo.book.opening [] → Replays solo.book.opening entries solo 0 0
none_yet entries solo valid book = record { valid = valid; book = book; latest_is = sym (ap (λ (b : BookValue). b.latest) book) }

module _ (opening : Opening) (entries : List Entry) (old : SoloValue) (latest count : ℕ) (so_far : Replays opening entries old latest count) where
  pub opening_still : old.book.opening ≡ opening
  opening_still = ap (λ (b : BookValue). b.opening) so_far.book

  -- what `add` asks of the book
  pub book_still : old.book ≡ book_of old.book.opening old.book.log
  book_still = so_far.book ∙ sym (ap (λ (b : BookValue). book_of b.opening b.log) so_far.book)

  pub log_still : IsLog opening (take count entries)
  log_still = subst (λ (b : BookValue). IsLog b.opening b.log) so_far.book (record { legal = so_far.valid.legal; short = so_far.valid.short })

  module _ (entry : Entry) (within : count < length entries) (at : entry ≡ get_or entries count entry) where
    one_more : take (count + 1) entries ≡ take count entries ++ entry ∷ []
    one_more = take_more entries count entry within ∙ ap (λ (e : Entry). take count entries ++ e ∷ []) (sym at)

    pub replays_more : (new : SoloValue) → IsAdded old.book new.book entry → IsSeat (seat_of new) → Replays opening entries new entry.stamp (count + 1)
    replays_more new added valid =
        let make : BookValue → BookValue = λ b. record { opening = b.opening; log = b.log ++ entry ∷ []; latest = entry.stamp } in
        let log : List Entry = take count entries ++ entry ∷ [] in
        let stamped : ℕ → BookValue = λ s. record { opening = opening; log = log; latest = s } in
        let book : new.book ≡ stamped entry.stamp = added.book ∙ ap make so_far.book in
        let latest_is : last_stamp log ≡ entry.stamp = last_stamp_push 0 (take count entries) entry in
        record {
          valid = valid;
          book =
              book
              ∙ ap stamped (sym latest_is)
              ∙ ap (book_of opening) (sym one_more);
          latest_is = sym (ap (λ (b : BookValue). b.latest) book);
        }

    pub stops_here : (book : BookValue) → (IsLog old.book.opening (old.book.log ++ entry ∷ []) → ⊥) → AreAdded opening entries book count
    stops_here book illegal = record {
      few = omega (arith, within);
      log = log_still;
      all = λ all. absurd (omega (arith, all, within));
      stops = λ more log.
          illegal
          (subst (λ (b : BookValue). IsLog b.opening (b.log ++ entry ∷ [])) (sym so_far.book) (subst (IsLog opening) one_more log));
    }

  pub all_added : length entries ≤ count → AreAdded opening entries old.book (length entries)
  all_added end = record {
    few = omega arith;
    log = subst (IsLog opening) (take_all count entries end ∙ sym (take_all (length entries) entries (omega arith))) log_still;
    all = λ same. so_far.book ∙ ap (book_of opening) (take_all count entries end);
    stops = λ more. absurd (omega (arith, more));
  }

-- what a replay answers by how many were added
module _ (opening : Opening) (entries : List Entry) (book : BookValue) (count : ℕ) (added : AreAdded opening entries book count) where
  pub first_illegal : count < length entries → IsFirstIllegal opening entries (count + 1)
  first_illegal more = record {
    some = omega arith;
    within = omega (arith, more);
    before = subst (λ n. IsLog opening (take n entries)) (let same : count ≡ count + 1 - 1 = omega arith in same) added.log;
    with_it = added.stops more;
  }

  pub whole_log : length entries ≤ count → IsLog opening entries × (book ≡ book_of opening entries)
  whole_log end =
      (subst (IsLog opening) (take_all count entries end) added.log, added.all (let same : count ≡ length entries = omega (arith, end, added.few) in same))

-- the log of a book is replayed

never_illegal : (b : BookValue) (opening : Opening) (entries : List Entry) (number : ℕ) → IsBook b → b.opening ≡ opening → b.log ≡ entries → IsFirstIllegal opening entries number → ⊥
never_illegal b opening entries number is opening_is log_is illegal =
    let legal : Legal opening.tables entries = subst (λ (o : Opening). Legal o.tables entries) opening_is (subst (Legal b.opening.tables) log_is is.legal) in
    let short : length entries ≤ opening.limit = omega (arith, is.short, ap length log_is, ap (λ (o : Opening). o.limit) opening_is) in
    illegal.with_it (record {
      legal = legal_front (MayFollow opening.tables) entries legal number;
      short = omega (arith, short, length-take number entries);
    })

same_summary : (opening : Opening) (log : List Entry) (one other : ℕ)
    → summary_of (record { opening = opening; log = log; latest = one }) ≡ summary_of (record { opening = opening; log = log; latest = other })
unfolding summary_of
same_summary opening log one other = refl

show_same : (one other : BookValue) → other.opening ≡ one.opening → other.log ≡ one.log → ShowSame one other
show_same one other opening log =
    let tables_are : tables other.opening.tables other.log ≡ tables one.opening.tables one.log
    = ap (λ (o : Opening). tables o.tables other.log) opening ∙ ap (tables one.opening.tables) log in
    let summary : Opening → List Entry → BookValue = λ o l. record { opening = o; log = l; latest = other.latest } in
    record {
      opening = opening;
      log = log;
      rows = λ key. ap (λ (t : Tables). row_of t key) tables_are;
      versions = λ key.
          ap (λ (o : Opening). version_of o.tables other.log key) opening
          ∙ ap (λ (l : List Entry). version_of one.opening.tables l key) log;
      summary =
          ap (λ (o : Opening). summary_of (summary o other.log)) opening
          ∙ ap (λ (l : List Entry). summary_of (summary one.opening l)) log
          ∙ same_summary one.opening one.log other.latest one.latest;
    }

pub given_again : (b : BookValue) (opening : Opening) (entries : List Entry) (result : Replayed) → IsBook b → b.opening ≡ opening → b.log ≡ entries → ReplayedAs opening entries result → GivesAgain b result
given_again b opening entries (replayed.Book book) is opening_is log_is replays =
    show_same b book (ap (λ (a : BookValue). a.opening) replays.1 ∙ sym opening_is) (ap (λ (a : BookValue). a.log) replays.1 ∙ sym log_is)
given_again b opening entries (replayed.Illegal number) is opening_is log_is replays = never_illegal b opening entries number is opening_is log_is replays
given_again b opening entries replayed.Memory is opening_is log_is replays = tt
