-- An entry behind the log of a book.
use Rattle.std.proofs.Common.{◌≡◌, ◌≢◌, ℕ, ◌+◌, ◌-◌, max, Bool, true, false, slice_get, List, [], ◌∷◌, ◌++◌, length, length-append, Option, Some, None, refl, sym, ◌∙◌, ap, subst, arith}
use Rattle.std.specs.Prelude.{Decides, Result, Err}
use Rattle.shop_log.proofs.cited.Legality.{legal_last}
use Rattle.shop_model.specs.declared.tables.Tables.{Tables}
use Rattle.shop_model.specs.pages.Show.{check}
use Rattle.shop_model.specs.rows.Lookups.{row_numbered}
use Rattle.shop_history.specs.declared.acts.Act.{Act}
use Rattle.shop_history.specs.declared.acts.Drawn.{Drawn}
use Rattle.shop_history.specs.declared.acts.Entry.{Entry}
use Rattle.shop_history.specs.Acts.{request_of}
use Rattle.shop_history.specs.Logs.{tables, entries_of, Legal, MayFollow}
use Rattle.shop_history.proofs.cited.Places.{push_here, row_there}
use Rattle.shop_attempt.specs.declared.attempts.Attempt.{Attempt}
use Rattle.shop_attempt.specs.declared.attempts.Conflict.{Conflict}
use Rattle.shop_attempt.specs.declared.attempts.Settle.TheVariants as settle
use Rattle.shop_attempt.specs.Reads.{first_stale}
use Rattle.shop_attempt.specs.Seats.{IsSeat, Follows, Looked}
use Rattle.shop_attempt.specs.Settles.{Accepted, Added, DoneAs, SettledAs}
use Rattle.shop_book.specs.declared.opening.Opening.{Opening}
use Rattle.shop_book.specs.Books.{BookValue}
use Rattle.shop_book.specs.declared.visitor.Visitor.{Visitor}
use Rattle.shop_book.specs.Solos.{SoloValue, seat_of}
use Rattle.shop_replay.specs.declared.stops.Stop.{Stop}
use Rattle.shop_replay.specs.declared.stops.Stop.TheVariants as stop
use Rattle.shop_replay.specs.Replays.{AddsAs, IsInTime, IsAdded, IsLog, book_of}
use Rattle.shop_replay.specs.Tries.{IsTryOf, MaySettle, TriesAs}
use Rattle.shop_replay.proofs.Stamps.{last_stamp_within}

last_row : (log : List Entry) (entry : Entry) → row_numbered (log ++ entry ∷ []) (length (log ++ entry ∷ [])) ≡ Some entry
last_row log entry =
    let long : length (log ++ entry ∷ []) ≡ length log + 1 = length-append log (entry ∷ []) in
    let shorter : length (log ++ entry ∷ []) - 1 ≡ length log = omega (arith, long) in
    row_there (log ++ entry ∷ []) (length (log ++ entry ∷ [])) entry
    (record {
      above = omega (arith, long);
      at = ap (slice_get (log ++ entry ∷ [])) shorter ∙ push_here log entry;
    })

same_some : {A : Type 0} (one other : A) → Some one ≡ Some other → one ≡ other
same_some one other same = cc

same_entry : (one other : Entry) → one.caller ≡ other.caller → one.number ≡ other.number → one.stamp ≡ other.stamp → one.act ≡ other.act → one ≡ other
same_entry one other caller number stamp act =
    let make : ℕ → ℕ → ℕ → Act → Entry = λ c n s a. record { caller = c; number = n; stamp = s; act = a } in
    ap (λ c. make c one.number one.stamp one.act) caller
    ∙ ap (λ n. make other.caller n one.stamp one.act) number
    ∙ ap (λ s. make other.caller other.number s one.act) stamp
    ∙ ap (make other.caller other.number other.stamp) act

same_opening : (one other : Opening) → one.tables ≡ other.tables → one.limit ≡ other.limit → one ≡ other
same_opening one other tables_are limit =
    let make : Tables → ℕ → Opening = λ t l. record { tables = t; limit = l } in
    ap (λ t. make t one.limit) tables_are ∙ ap (make other.tables) limit

same_book : (one other : BookValue) → one.opening ≡ other.opening → one.log ≡ other.log → one.latest ≡ other.latest → one ≡ other
same_book one other opening log latest =
    let make : Opening → List Entry → ℕ → BookValue = λ o l s. record { opening = o; log = l; latest = s } in
    ap (λ o. make o one.log one.latest) opening
    ∙ ap (λ l. make other.opening l one.latest) log
    ∙ ap (make other.opening other.log) latest

-- a caller who only reads leaves the book as it is
pub looked_book : (old new : SoloValue) → Looked (seat_of old) (seat_of new) → new.book ≡ old.book
looked_book old new looked =
    same_book new.book old.book (same_opening new.book.opening old.book.opening looked.follows.opening looked.follows.limit) (looked.alone refl)
    (same_some new.book.latest old.book.latest looked.latest)

-- the last entry of a legal log

last_follows : (opening : Opening) (log : List Entry) (entry : Entry) → IsLog opening (log ++ entry ∷ []) → MayFollow opening.tables log entry
last_follows opening log entry is = legal_last (MayFollow opening.tables) log entry is.legal

pub last_in_time : (b : BookValue) (entry : Entry) → b ≡ book_of b.opening b.log → IsLog b.opening (b.log ++ entry ∷ []) → IsInTime b.latest entry
last_in_time b entry book is =
    let follows = last_follows b.opening b.log entry is in
    record {
      later = omega (arith, ap (λ (c : BookValue). c.latest) book, last_stamp_within 0 entry.stamp b.log (omega arith) follows.stamps);
      bound = follows.bound;
    }

pub last_passes : (opening : Opening) (log : List Entry) (entry : Entry) → check (tables opening.tables log) (request_of entry.act) ≢ None → IsLog opening (log ++ entry ∷ []) → ⊥
last_passes opening log entry refused is = refused (last_follows opening log entry is).passes

pub last_fits : (opening : Opening) (log : List Entry) (entry : Entry) → length log ≡ opening.limit → IsLog opening (log ++ entry ∷ []) → ⊥
last_fits opening log entry full is = omega (arith, full, is.short, length-append log (entry ∷ []))

-- an entry whose caller has taken the seat and attempted it
module _ (old turned now : SoloValue) (visitor : Visitor) (turns : turned ≡ record { book = old.book; visitor = visitor }) (looked : Looked (seat_of turned) (seat_of now)) (entry : Entry) where
  book_same : now.book ≡ old.book
  book_same = looked_book turned now looked ∙ ap (λ (s : SoloValue). s.book) turns

  pub may_settle : (attempt : Attempt) → IsInTime old.book.latest entry → visitor.caller ≡ entry.caller → IsTryOf (seat_of now) entry attempt → MaySettle now entry attempt
  may_settle attempt time caller tries = record {
    time = subst (λ (b : BookValue). IsInTime b.latest entry) (sym book_same) time;
    caller = looked.follows.caller ∙ ap (λ (s : SoloValue). s.visitor.caller) turns ∙ caller;
    tries = tries;
  }

  pub adds_after : (new : BookValue) (result : Result Unit Stop) → AddsAs now.book new entry result → AddsAs old.book new entry result
  adds_after new result adds = subst (λ (b : BookValue). AddsAs b new entry result) book_same adds

  pub stopped : (new : BookValue) (why : Stop) → TriesAs (seat_of now) entry (Err why) → AddsAs old.book new entry (Err why)
  stopped new stop.Illegal refused =
      last_passes old.book.opening old.book.log entry
      (subst (λ (b : BookValue). check (tables b.opening.tables b.log) (request_of entry.act) ≢ None) book_same refused)
  stopped new stop.Memory refused = tt

-- the settle of an attempt at an entry
module _ (old new : SoloValue) (entry : Entry) (attempt : Attempt) (may : MaySettle old entry attempt) (follows : Follows (seat_of old) (seat_of new)) where
  opening_is : new.book.opening ≡ old.book.opening
  opening_is = same_opening new.book.opening old.book.opening follows.opening follows.limit

  latest_is : Some new.book.latest ≡ Some (max old.book.latest attempt.moment) → new.book.latest ≡ entry.stamp
  latest_is same = omega (arith, same_some new.book.latest (max old.book.latest attempt.moment) same, may.tries.at, may.time.later)

  -- the entry that was made ends the log, and is this one if it has its number
  record IsMade (made : Entry) : Type 0 where
    here : row_numbered new.book.log (length new.book.log) ≡ Some made
    log : new.book.log ≡ old.book.log ++ made ∷ []
    next : made.number ≡ length (entries_of entry.caller old.book.log) + 1
    is : made.number ≡ entry.number → made ≡ entry

  done_made : (drawn : Drawn) → IsSeat (seat_of new) → (was : Added (seat_of old) (seat_of new) attempt entry.act drawn) → IsMade was.entry
  done_made drawn seat was =
      let accepted : Accepted (seat_of old) (seat_of new) was.before attempt drawn = was.accepted in
      let before_is : was.before ≡ old.book.log = accepted.is_found.alone refl in
      let made : MayFollow new.book.opening.tables was.before was.entry
      = legal_last (MayFollow new.book.opening.tables) was.before was.entry (subst (Legal new.book.opening.tables) was.seen seat.legal) in
      let caller : was.entry.caller ≡ entry.caller = was.caller ∙ follows.caller ∙ may.caller in
      let stamp : was.entry.stamp ≡ entry.stamp
      = was.stamp
      ∙ sym (same_some new.book.latest drawn.stamp (accepted.told refl))
      ∙ latest_is accepted.latest in
      let log : new.book.log ≡ old.book.log ++ was.entry ∷ [] = was.seen ∙ ap (λ (l : List Entry). l ++ was.entry ∷ []) before_is in
      record {
        here = ap (λ (l : List Entry). row_numbered l (length l)) log ∙ last_row old.book.log was.entry;
        log = log;
        next =
            made.number
            ∙ ap (λ c. length (entries_of c was.before) + 1) caller
            ∙ ap (λ (l : List Entry). length (entries_of entry.caller l) + 1) before_is;
        is = λ number. same_entry was.entry entry caller number stamp was.does;
      }

  module _ (drawn : Drawn) (seat : IsSeat (seat_of new)) (settled : SettledAs (seat_of old) (seat_of new) attempt (settle.Done drawn)) (number : ℕ) (entry_number : entry.number ≡ number) (yes : Bool)
      (decides : (made : Entry) → row_numbered new.book.log drawn.front ≡ Some made → Decides yes (made.number ≡ number)) where
    added : Added (seat_of old) (seat_of new) attempt entry.act drawn
    added = subst (λ (o : Option Act). DoneAs (seat_of old) (seat_of new) attempt o drawn) may.tries.does settled

    decides_made : Decides yes (added.entry.number ≡ number)
    decides_made = decides added.entry (ap (row_numbered new.book.log) added.accepted.front ∙ (done_made drawn seat added).here)

    pub numbered_adds : yes ≡ true → IsAdded old.book new.book entry
    numbered_adds is =
        let made = done_made drawn seat added in
        let same : added.entry ≡ entry = made.is (decides_made.0 is ∙ sym entry_number) in
        let log : new.book.log ≡ old.book.log ++ entry ∷ [] = made.log ∙ ap (λ (e : Entry). old.book.log ++ e ∷ []) same in
        record {
          log =
              subst (IsLog old.book.opening) log
              (subst (λ (o : Opening). IsLog o new.book.log) opening_is (record { legal = seat.legal; short = seat.short }));
          book = same_book new.book (record { opening = old.book.opening; log = old.book.log ++ entry ∷ []; latest = entry.stamp }) opening_is log (latest_is added.accepted.latest);
        }

    pub unnumbered_illegal : yes ≡ false → IsLog old.book.opening (old.book.log ++ entry ∷ []) → ⊥
    unnumbered_illegal other is =
        let made = done_made drawn seat added in
        let follows = last_follows old.book.opening old.book.log entry is in
        let there : added.entry.number ≡ number = made.next ∙ sym follows.number ∙ entry_number in
        absurd (cc (sym other ∙ decides_made.1 there))

  pub full_fits : (size : ℕ) → SettledAs (seat_of old) (seat_of new) attempt (settle.Full size) → IsLog old.book.opening (old.book.log ++ entry ∷ []) → ⊥
  full_fits size settled =
      let same : new.book.log ≡ old.book.log = settled.0.refused.found.alone refl in
      last_fits old.book.opening old.book.log entry (ap length (sym same) ∙ sym settled.1 ∙ settled.2 ∙ follows.limit)

  pub never_stale : (conflict : Conflict) → SettledAs (seat_of old) (seat_of new) attempt (settle.Stale conflict) → ⊥
  never_stale conflict settled =
      let same : new.book.log ≡ old.book.log = settled.0.found.alone refl in
      let fresh : first_stale new.book.opening.tables new.book.log attempt.reads ≡ None
      = ap (λ (t : Tables). first_stale t new.book.log attempt.reads) follows.opening
      ∙ ap (λ (l : List Entry). first_stale old.book.opening.tables l attempt.reads) same
      ∙ may.tries.fresh in
      absurd (cc (sym fresh ∙ settled.1))
