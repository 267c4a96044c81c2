-- An accepted settle of the caller who has a book, as its seat sees it; and its marks.
use Rattle.std.proofs.Common.{◌≡◌, ℕ, ◌≤◌, max, List, [], ◌∷◌, ◌++◌, length, drop, Option, Some, None, refl, sym, ◌∙◌, ap, subst, arith, append-nil, length-append}
use Rattle.std.specs.Prelude.{All}
use Rattle.std.proofs.lemmas.Bool.{eq-eqb}
use Rattle.std.proofs.lemmas.List.{drop-append-le}
use Rattle.std.proofs.lemmas.List.Elements.{All-nil, All-cons, All-append}
use Rattle.shop_history.specs.declared.acts.Act.{Act}
use Rattle.shop_history.specs.declared.acts.Drawn.{Drawn}
use Rattle.shop_history.specs.declared.acts.Entry.{Entry}
use Rattle.shop_history.specs.Logs.{entries_of}
use Rattle.shop_attempt.specs.declared.attempts.Attempt.{Attempt}
use Rattle.shop_attempt.specs.declared.attempts.Settle.{Settle}
use Rattle.shop_attempt.specs.declared.attempts.Settle.TheVariants.{Done}
use Rattle.shop_attempt.specs.Marks.{StillMarked}
use Rattle.shop_attempt.specs.Reads.{first_stale}
use Rattle.shop_attempt.specs.Settles as seat
use Rattle.shop_book.specs.Books.{BookValue}
use Rattle.shop_book.specs.Settles.{Taken, IsFresh, made}
use Rattle.shop_book.specs.Solos.{SoloValue, seat_of, IsKeptMark, marks_of}
use Rattle.shop_book.proofs.Callers.{entries_mine}

-- a book with what a settle made behind its log
abbrev taken : BookValue → List Entry → ℕ → BookValue
taken b entries stamp = record { opening = b.opening; log = b.log ++ entries; latest = stamp }

abbrev solo : BookValue → ℕ → ℕ → ℕ → ℕ → SoloValue
solo book caller calls settles greatest = record {
  book = book;
  visitor = record { caller = caller; calls = calls; settles = settles; greatest = greatest };
}

module _ (old : BookValue) (caller calls settles more_calls more_settles greatest number : ℕ) (attempt : Attempt) (drawn : Drawn) (fresh : IsFresh old attempt) where
  abbrev stamp : ℕ
  stamp = max old.latest attempt.moment

  abbrev before : SoloValue
  before = solo old caller calls settles greatest

  abbrev behind : List Entry → SoloValue
  behind entries = solo (taken old entries stamp) caller more_calls more_settles (max greatest attempt.moment)

  accepted : (entries found : List Entry) → found ≡ old.log → drawn.front ≡ length (old.log ++ entries) → drawn.stamp ≡ stamp → seat.Accepted (seat_of before) (seat_of (behind entries)) found attempt drawn
  accepted entries found same front is = record {
    is_found = record { grows = record { rest = []; is = same ∙ sym (append-nil old.log) }; mine = ap (entries_of caller) same; alone = λ _. same };
    fresh = ap (λ (log : List Entry). first_stale old.opening.tables log attempt.reads) same ∙ fresh;
    front = front;
    moment = omega (arith, is);
    told = λ _. ap Some (sym is);
    latest = refl;
    greatest = refl;
  }

  taken_as : (act : Option Act) → Taken old (taken old (made caller number stamp act) stamp) caller number stamp act drawn → seat.DoneAs (seat_of before) (seat_of (behind (made caller number stamp act))) attempt act drawn
  taken_as None is = record { accepted = accepted [] (old.log ++ []) (append-nil old.log) is.front is.stamp_is; own = ap (entries_of caller) (append-nil old.log); ids = is.ids }
  taken_as (Some act) is =
      let entry : Entry = record { caller = caller; number = number; stamp = stamp; act = act } in
      record {
        before = old.log;
        entry = entry;
        accepted = accepted (entry ∷ []) old.log refl is.front is.stamp_is;
        seen = refl;
        own = entries_mine caller old.log entry (eq-eqb caller caller refl);
        room = is.room refl;
        caller = refl;
        does = refl;
        stamp = sym is.stamp_is;
        ids = is.ids;
      }

  solo_done : (new : BookValue) → Taken old new caller number stamp attempt.act drawn
      → seat.DoneAs (seat_of before) (seat_of (solo new caller more_calls more_settles (max greatest attempt.moment))) attempt attempt.act drawn
  solo_done new is =
      subst (λ (b : BookValue). seat.DoneAs (seat_of before) (seat_of (solo b caller more_calls more_settles (max greatest attempt.moment))) attempt attempt.act drawn) (sym is.book)
      (taken_as attempt.act (subst (λ (b : BookValue). Taken old b caller number stamp attempt.act drawn) is.book is))

  pub solo_settled : (new : BookValue) → Taken old new caller number stamp attempt.act drawn → (was : SoloValue) → before ≡ was → (raised : ℕ) → raised ≡ max greatest attempt.moment
      → (answer : Settle) → answer ≡ Done drawn → seat.SettledAs (seat_of was) (seat_of (solo new caller more_calls more_settles raised)) attempt answer
  solo_settled new is was was_is raised raised_is answer answer_is =
      rw (answer_is, ← was_is, raised_is) (solo_done new is)

-- a mark stays one behind a later entry
made_late : (caller number stamp moment : ℕ) (act : Option Act) → moment ≤ stamp → All (λ (e : Entry). moment ≤ e.stamp) (made caller number stamp act)
made_late _ _ _ moment None late = All-nil (λ (e : Entry). moment ≤ e.stamp)
made_late _ _ _ moment (Some act) late = All-cons (λ (e : Entry). moment ≤ e.stamp) _ [] late (All-nil (λ (e : Entry). moment ≤ e.stamp))

mark_taken : (old : BookValue) (caller number stamp : ℕ) (act : Option Act) → old.latest ≤ stamp → (front moment : ℕ) → IsKeptMark old front moment → IsKeptMark (taken old (made caller number stamp act) stamp) front moment
mark_taken old caller number stamp act late front moment mark =
    let early : moment ≤ stamp = omega (arith, mark.moment_is, late) in
    record {
      within = omega (arith, mark.within, length-append old.log (made caller number stamp act));
      moment_is = early;
      behind =
          subst (All (λ (e : Entry). moment ≤ e.stamp)) (sym (drop-append-le front old.log (made caller number stamp act) mark.within))
          (All-append (λ (e : Entry). moment ≤ e.stamp) (drop front old.log) (made caller number stamp act) mark.behind (made_late caller number stamp moment act early));
    }

pub marks_stay : (old new : SoloValue) (number stamp : ℕ) (act : Option Act) (drawn : Drawn) → old.book.latest ≤ stamp → Taken old.book new.book old.visitor.caller number stamp act drawn
    → StillMarked (marks_of old) (marks_of new)
marks_stay old new number stamp act drawn late is = record {
  kept = λ front moment mark. subst (λ (b : BookValue). IsKeptMark b front moment) (sym is.book) (mark_taken old.book old.visitor.caller number stamp act late front moment mark);
}
