-- What calls that settle nothing leave, what their reads say, and the conflict that a stale one makes.
use Rattle.std.proofs.Common.{◌≡◌, ◌≢◌, ℕ, zero, suc, ◌-◌, ◌<◌, ◌≤◌, eqb, List, [], ◌∷◌, ◌++◌, length, get_or, Some, IsSome, slice_get, refl, sym, ◌∙◌, ap, subst, arith, ⊎_elim}
use Rattle.std.proofs.lemmas.Bool.{eq-eqb, ne_eqb, cond-true, cond-false, cases_eq, cases_lt}
use Rattle.std.proofs.lemmas.List.{append_cancel_left, append-nil}
use Rattle.std.proofs.lemmas.List.Elements.{filter-append}
use Rattle.shop_log.specs.Histories.{Extends}
use Rattle.shop_log.proofs.cited.Extends.{extends_self, extends_trans, extends_length}
use Rattle.shop_log.proofs.cited.Versions.{true_now, true_longer, version_before}
use Rattle.shop_model.specs.declared.tables.Tables.{Tables}
use Rattle.shop_history.specs.declared.acts.Entry.{Entry}
use Rattle.shop_history.specs.declared.keys.Key.{Key}
use Rattle.shop_history.specs.declared.keys.Row.{Row}
use Rattle.shop_history.specs.Keys.{row_of}
use Rattle.shop_history.specs.Logs.{history, version_of, entries_of}
use Rattle.shop_attempt.specs.declared.attempts.Attempt.{Attempt}
use Rattle.shop_attempt.specs.declared.attempts.Conflict.{Conflict}
use Rattle.shop_attempt.specs.declared.attempts.ReadOf.{ReadOf}
use Rattle.shop_attempt.specs.declared.attempts.Settle.TheVariants.{Stale}
use Rattle.shop_attempt.specs.Reads.{IsTrue, AreTrue, Shows, first_stale, IsReadSince, AreReadSince}
use Rattle.shop_attempt.specs.Conflicts.{IsConflict}
use Rattle.shop_attempt.specs.Seats.{Seat, Follows, Looked, IsReadAt}
use Rattle.shop_attempt.specs.Settles.{Found, SettledAs}
use Rattle.shop_attempt.proofs.cited.Settles.{conflict_with, first_stale_some, stale_is}

pub follows_trans : (a b c : Seat) → Follows a b → Follows b c → Follows a c
follows_trans a b c p q = record {
  shop = q.shop ∙ p.shop;
  opening = q.opening ∙ p.opening;
  limit = q.limit ∙ p.limit;
  caller = q.caller ∙ p.caller;
  grows = extends_trans a.seen b.seen c.seen p.grows q.grows;
  calls = omega (arith, p.calls, q.calls);
  valid = λ is. q.valid (p.valid is);
}

pub looked_self : (seat : Seat) → Looked seat seat
looked_self seat = record {
  follows = record { shop = refl; opening = refl; limit = refl; caller = refl; grows = extends_self seat.seen; calls = omega arith; valid = λ is. is };
  mine = refl;
  own = refl;
  settles = refl;
  greatest = refl;
  latest = refl;
  alone = λ told. refl;
}

pub looked_trans : (a b c : Seat) → Looked a b → Looked b c → Looked a c
looked_trans a b c p q = record {
  follows = follows_trans a b c p.follows q.follows;
  mine = q.mine ∙ p.mine;
  own = q.own ∙ p.own;
  settles = q.settles ∙ p.settles;
  greatest = q.greatest ∙ p.greatest;
  latest = q.latest ∙ p.latest;
  alone = λ told. q.alone (subst IsSome (sym p.latest) told) ∙ p.alone told;
}

-- a read that was just made

pub read_true : (seat : Seat) (key : Key) (row : Row) (version : ℕ) → IsReadAt seat key (row, version) → IsTrue seat.opening seat.seen (record { key = key; row = row; version = version })
unfolding history
read_true seat key row version is = true_now history seat.opening seat.seen key row version is.row is.version

pub since_now : (old now : Seat) (key : Key) (row : Row) (version : ℕ) → Looked old now → IsReadAt now key (row, version) → IsReadSince old now (record { key = key; row = row; version = version })
since_now old now key row version looked is = record {
  holds = read_true now key row version is;
  since = λ early. version_before history now.opening key old.seen now.seen looked.follows.grows (omega (arith, is.version, early)) ∙ sym is.version;
}

-- it still says so later
pub since_later : (old now later : Seat) (read : ReadOf) → Looked now later → IsReadSince old now read → IsReadSince old later read
since_later old now later read looked is =
    let held : IsTrue later.opening now.seen read = subst (λ (t : Tables). IsTrue t now.seen read) (sym looked.follows.opening) is.holds in
    record {
      holds = true_longer history later.opening now.seen later.seen read.key read.row read.version looked.follows.grows held;
      since = λ early. ap (λ (t : Tables). version_of t old.seen read.key) looked.follows.opening ∙ is.since early;
    }

pub all_since_later : (old now later : Seat) (reads : List ReadOf) → Looked now later → AreReadSince old now reads → AreReadSince old later reads
all_since_later old now later [] looked are = tt
all_since_later old now later (read ∷ reads) looked are = (since_later old now later read looked are.0, all_since_later old now later reads looked are.1)

-- a read of a later part of a call is one of the call
pub since_earlier : (start middle now : Seat) (read : ReadOf) → Looked start middle → Looked middle now → IsReadSince middle now read → IsReadSince start now read
since_earlier start middle now read first second is = record {
  holds = is.holds;
  since = λ early.
      let at : version_of now.opening middle.seen read.key ≡ read.version = is.since (omega (arith, early, extends_length start.seen middle.seen first.follows.grows)) in
      version_before history now.opening read.key start.seen middle.seen first.follows.grows (omega (arith, at, early)) ∙ at;
}

pub all_since_earlier : (start middle now : Seat) (reads : List ReadOf) → Looked start middle → Looked middle now → AreReadSince middle now reads → AreReadSince start now reads
all_since_earlier start middle now [] first second are = tt
all_since_earlier start middle now (read ∷ reads) first second are =
    (since_earlier start middle now read first second are.0, all_since_earlier start middle now reads first second are.1)

pub are_true : (old now : Seat) (reads : List ReadOf) → AreReadSince old now reads → AreTrue now.opening now.seen reads
are_true old now [] are = tt
are_true old now (read ∷ reads) are = (are.0.holds, are_true old now reads are.1)

-- one read more

pub since_push : (old new : Seat) (reads : List ReadOf) (read : ReadOf) → AreReadSince old new reads → IsReadSince old new read → AreReadSince old new (reads ++ read ∷ [])
since_push old new [] read are is = (is, tt)
since_push old new (first ∷ reads) read are is = (are.0, since_push old new reads read are.1 is)

pub shows_push : (t : Tables) (reads : List ReadOf) (read : ReadOf) → Shows t (reads ++ read ∷ []) → Shows t reads × (row_of t read.key ≡ read.row)
shows_push t [] read shows = (tt, shows.0)
shows_push t (first ∷ reads) read shows =
    let behind = shows_push t reads read shows.1 in ((shows.0, behind.0), behind.1)

-- one read of several
pub shows_at : (t : Tables) (reads : List ReadOf) (i : ℕ) (read : ReadOf) → i < length reads → read ≡ get_or reads i read → Shows t reads → row_of t read.key ≡ read.row
shows_at t [] i read within at shows = absurd (omega (arith, within))
shows_at t (first ∷ reads) zero read within at shows = subst (λ (r : ReadOf). row_of t r.key ≡ r.row) (sym at) shows.0
shows_at t (first ∷ reads) (suc i) read within at shows = let behind : i < length reads = omega (arith, within) in shows_at t reads i read behind at shows.1

-- the entries behind a beginning are not of a caller whose entries all stand in it

get_behind : {A : Type 0} (xs ys : List A) (i : ℕ) (x : A) → length xs ≤ i → slice_get (xs ++ ys) i ≡ Some x → slice_get ys (i - length xs) ≡ Some x
get_behind [] ys i x behind is = ap (slice_get ys) (omega arith) ∙ is
get_behind (y ∷ xs) ys zero x behind is = absurd (omega (arith, behind))
get_behind (y ∷ xs) ys (suc i) x behind is = ap (slice_get ys) (omega arith) ∙ get_behind xs ys i x (omega (arith, behind)) is

same_entry : (one other : Entry) → Some one ≡ Some other → one ≡ other
same_entry one other same = cc

none_first : (caller : ℕ) (first : Entry) (log : List Entry) → entries_of caller (first ∷ log) ≡ [] → (first.caller ≢ caller) × (entries_of caller log ≡ [])
none_first caller first log none =
    let rest : List Entry = entries_of caller log in
    ⊎_elim
    (λ (same : first.caller ≡ caller). absurd (cc (sym (cond-true (eqb first.caller caller) (first ∷ rest) rest (eq-eqb first.caller caller same)) ∙ none)))
    (λ (apart : first.caller ≡ caller → ⊥). (apart, sym (cond-false (eqb first.caller caller) (first ∷ rest) rest (ne_eqb first.caller caller apart)) ∙ none))
    (cases_eq first.caller caller)

none_of : (caller : ℕ) (log : List Entry) (i : ℕ) (entry : Entry) → entries_of caller log ≡ [] → slice_get log i ≡ Some entry → entry.caller ≢ caller
none_of caller [] i entry none is = absurd cc
none_of caller (first ∷ log) zero entry none is = subst (λ (e : Entry). e.caller ≢ caller) (same_entry first entry is) (none_first caller first log none).0
none_of caller (first ∷ log) (suc i) entry none is = none_of caller log i entry (none_first caller first log none).1 is

not_mine : (caller : ℕ) (log longer : List Entry) (i : ℕ) (entry : Entry) → Extends log longer → entries_of caller longer ≡ entries_of caller log → length log ≤ i → slice_get longer i ≡ Some entry → entry.caller ≢ caller
not_mine caller log longer i entry extends mine behind is =
    let rest : List Entry = extends.rest in
    let split : entries_of caller log ++ entries_of caller rest ≡ entries_of caller log ++ []
    = sym (filter-append (λ (e : Entry). eqb e.caller caller) log rest) ∙ ap (entries_of caller) (sym extends.is) ∙ mine ∙ sym (append-nil (entries_of caller log)) in
    none_of caller rest (i - length log) entry (append_cancel_left (entries_of caller log) (entries_of caller rest) [] split)
    (get_behind log rest i entry behind (ap (λ (l : List Entry). slice_get l i) (sym extends.is) ∙ is))

-- a read that has become stale was overtaken by another caller's entry that came after the call began

-- a conflict with another caller's entry, behind the log that the call began with
record IsLater (start new : Seat) (conflict : Conflict) : Type 0 where
  conflicts : IsConflict new.opening new.seen new.caller conflict
  behind : length start.seen < conflict.found

stale_later : (start old new : Seat) (read : ReadOf) → Looked start old → Follows old new → Found old new.seen → IsReadSince start old read
    → version_of new.opening new.seen read.key ≢ read.version → IsLater start new (conflict_with new.opening new.seen read)
stale_later start old new read looked follows found is apart =
    let t : Tables = new.opening in
    let now : ℕ = version_of t new.seen read.key in
    let held : IsTrue t old.seen read = subst (λ (u : Tables). IsTrue u old.seen read) (sym follows.opening) is.holds in
    let holds : IsTrue t new.seen read = true_longer history t old.seen new.seen read.key read.row read.version follows.grows held in
    let grows : Extends start.seen new.seen = extends_trans start.seen old.seen new.seen looked.follows.grows follows.grows in
    let behind : length start.seen < now = ⊎_elim (λ (more : length start.seen < now). more)
    (λ (early : now ≤ length start.seen).
    let at_start : version_of t start.seen read.key ≡ now = version_before history t read.key start.seen new.seen grows early in
    let over = stale_is t new.seen read holds apart in
    let at_read : version_of t start.seen read.key ≡ read.version
    = ap (λ (u : Tables). version_of u start.seen read.key) follows.opening ∙ is.since (omega (arith, early, over.later)) in
    absurd (apart (sym at_start ∙ at_read)))
    (cases_lt (length start.seen) now) in
    let caller : new.caller ≡ start.caller = follows.caller ∙ looked.follows.caller in
    let mine : entries_of new.caller new.seen ≡ entries_of new.caller start.seen
    = ap (λ c. entries_of c new.seen) follows.caller ∙ found.mine ∙ looked.mine ∙ ap (λ c. entries_of c start.seen) (sym caller) in
    record {
      conflicts = record {
        overtaken = stale_is t new.seen read holds apart;
        other = λ entry at. not_mine new.caller start.seen new.seen (now - 1) entry grows mine (omega (arith, behind)) at;
      };
      behind = behind;
    }

later_in : (start old new : Seat) (reads : List ReadOf) (conflict : Conflict) → Looked start old → Follows old new → Found old new.seen → AreReadSince start old reads
    → first_stale new.opening new.seen reads ≡ Some conflict → IsLater start new conflict
later_in start old new [] conflict looked follows found are is = absurd cc
later_in start old new (read ∷ reads) conflict looked follows found are is =
    first_stale_some new.opening new.seen (IsLater start new) read reads conflict (stale_later start old new read looked follows found are.0)
    (later_in start old new reads conflict looked follows found are.1) is

pub conflict_of : (start old new : Seat) (attempt : Attempt) (conflict : Conflict) → Looked start old → Follows old new → AreReadSince start old attempt.reads → SettledAs old new attempt (Stale conflict)
    → IsConflict new.opening new.seen new.caller conflict × (length start.seen < conflict.found)
conflict_of start old new attempt conflict looked follows are settled =
    let later : IsLater start new conflict = later_in start old new attempt.reads conflict looked follows settled.0.found are settled.1 in
    (later.conflicts, later.behind)
