-- What a look tells of the book whose share a seat has, and what a settle over it leaves.
use Rattle.std.proofs.Common.{Ok, Err, ◌≡◌, ℕ, ◌+◌, ◌*◌, ◌≤◌, List, [], ◌∷◌, ◌++◌, length, max, Option, Some, None, true, sym, subst, arith, ◌∙◌, ap, refl, length-append, IfOk, Result}
use Rattle.std.proofs.lemmas.Bool.{true≢false}
use Rattle.std.proofs.lemmas.List.{append-nil}
use Rattle.std.proofs.lemmas.List.Elements.{All-head, All-weaker}
use Rattle.std.proofs.lemmas.Result.{IfOk-weaker}
use Rattle.std.specs.List.{All}
use Rattle.std.specs.Option.{IsSome}
use Rattle.shop_model.specs.rows.Limits.{stamp_limit}
use Rattle.shop_history.specs.declared.acts.Act.{Act}
use Rattle.shop_history.specs.declared.acts.Drawn.{Drawn}
use Rattle.shop_history.specs.declared.acts.Entry.{Entry}
use Rattle.shop_history.specs.declared.keys.Key.{Key}
use Rattle.shop_history.specs.declared.keys.Row.{Row}
use Rattle.shop_history.specs.Drawing.{no_ids}
use Rattle.shop_history.specs.Keys.{row_of}
use Rattle.shop_history.specs.Logs.{version_of, entries_of}
use Rattle.shop_attempt.proofs.cited.Settles.{true_longer_all, overtaken}
use Rattle.shop_attempt.specs.Faithful.{Faithful}
use Rattle.shop_attempt.specs.Reads.{first_stale}
use Rattle.shop_attempt.specs.declared.attempts.Attempt.{Attempt}
use Rattle.shop_attempt.specs.declared.attempts.Conflict.{Conflict}
use Rattle.shop_attempt.specs.declared.attempts.Settle.{Settle}
use Rattle.shop_attempt.specs.declared.attempts.Settle.TheVariants.{Done, Stale, Full, Memory}
use Rattle.shop_book.specs.Books.{BookValue, IsBook, tables_of}
use Rattle.shop_book.specs.Settles.{Taken, SettledAs, made}
use Rattle.shop_book.specs.declared.opening.Opening.{Opening}
use Rattle.shop_turn.specs.declared.rule.View.{View}
use Rattle.shop_turn.specs.Views.{sharing, held_book, looking, knowing, raising, appending, giving, taking}
use Rattle.shop_turn.specs.Marks.{MarkFits}
use Rattle.shop_turn.specs.Plays.{AtTable, PartTold, Told, IsLatest, book_at}
use Rattle.shop_turn.specs.Shared.{IsReadIn, at_stamp}
use Rattle.shop_turn.specs.Seats.{IsReady, IsInside, HasShares, IsCounted, Found, settled_view}

-- a book at a later stamp is one
later_book : (b : BookValue) (latest : ℕ) → IsBook b → b.latest ≤ latest → latest ≤ stamp_limit → IsBook (at_stamp latest b)
later_book b latest k after low_enough = record {
  opens = k.opens;
  legal = k.legal;
  short = k.short;
  stamps = All-weaker (λ (e : Entry). e.stamp ≤ b.latest) (λ (e : Entry). e.stamp ≤ latest) (λ e le. omega arith) b.log k.stamps;
  bound = low_enough;
}

-- an attempt that is faithful to what was seen is faithful to the log found
pub faithful_found : (v : View) (b : BookValue) (a : Attempt) → Told (taking b v) → b.opening ≡ v.origin.opening → Faithful v.origin.opening.tables v.own.seen a → Faithful b.opening.tables b.log a
faithful_found v b a told opening faithful =
    let p : PartTold b.log v.own = All-head (PartTold b.log) v.own v.others told.parts in
    subst (λ (o : Opening). Faithful o.tables b.log a) (sym opening) (record {
      reads_are = true_longer_all v.origin.opening.tables v.own.seen b.log a.reads (record { rest = p.after; is = p.is }) faithful.reads_are;
      makes = faithful.makes;
    })

-- a change that leaves the book was not accepted
not_taken : (b : BookValue) (n number stamp : ℕ) (act : Option Act) (drawn : Drawn) → IsSome act → Taken b b n number stamp act drawn → ⊥
not_taken b n number stamp None drawn some_act taken = true≢false (sym some_act)
not_taken b n number stamp (Some act) drawn some_act taken =
    let longer = ap (λ (z : BookValue). length z.log) taken.book in omega (arith, longer, length-append b.log (made n number stamp (Some act)))

-- a change that left the book was refused at any stamp
refused_at : (latest : ℕ) (b : BookValue) (n number : ℕ) (a : Attempt) (answer : Settle) → IsSome a.act → SettledAs b b n number a answer → SettledAs (at_stamp latest b) (at_stamp latest b) n number a answer
refused_at latest b n number a (Done drawn) changes s = absurd (not_taken b n number _ a.act drawn changes s.taken)
refused_at latest b n number a (Stale conflict) changes s = record { first = s.first; overtaken = s.overtaken; same = refl }
refused_at latest b n number a (Full size) changes s = (record { fresh = s.0.fresh; changes = changes; same = refl }, s.1, s.2)
refused_at latest b n number a Memory changes s = (record { fresh = s.0.fresh; changes = changes; same = refl }, s.1)

-- such an answer is none of acceptance
not_done : (b : BookValue) (n number : ℕ) (a : Attempt) (answer : Settle) → IsSome a.act → SettledAs b b n number a answer → (drawn : Drawn) → answer ≡ Done drawn → ⊥
not_done b n number a answer changes s drawn is = not_taken b n number _ a.act drawn changes (subst (SettledAs b b n number a) is s).taken

-- a refusal leaves the book
pub refused_same : (b after : BookValue) (n number : ℕ) (a : Attempt) (answer : Settle) → ((drawn : Drawn) → answer ≡ Done drawn → ⊥) → SettledAs b after n number a answer → after ≡ b
refused_same b after n number a (Done drawn) refused s = absurd (refused drawn refl)
refused_same b after n number a (Stale conflict) refused s = s.same
refused_same b after n number a (Full size) refused s = s.0.same
refused_same b after n number a Memory refused s = s.0.same

refused_view : (b after : BookValue) (moment : ℕ) (answer : Settle) (v : View) → ((drawn : Drawn) → answer ≡ Done drawn → ⊥) → giving (looking 1 (taking b v)) ≡ settled_view b after moment answer v
refused_view b after moment (Done drawn) v refused = absurd (refused drawn refl)
refused_view b after moment (Stale conflict) v refused = refl
refused_view b after moment (Full size) v refused = refl
refused_view b after moment Memory v refused = refl

-- what a look told, with the marks at a later stamp
retold : (x : View) (latest later : ℕ) → All (MarkFits x.log later) x.marks → Told (taking (book_at latest x) x) → Told (taking (book_at later x) x)
retold x latest later marks t = record { parts = t.parts; marks = marks; long = t.long; entries = t.entries; stamps = t.stamps }

-- a seat that knew as much as the view v looks as x
pub looked_as : (v x : View) → giving x ≡ giving v → (settles latest : ℕ) → giving (looking settles x) ≡ giving (looking settles (taking (book_at latest x) v))
looked_as v x kept settles latest = λ i. giving (looking settles (record (kept i) { log = x.log }))

-- a seat that knew as much as the view v has shares of a book as x
module _ (v x : View) (share : BookValue) (kept : giving x ≡ giving v) (is : share ≡ held_book x) (k : IsBook share) where
  found_at : (latest : ℕ) → x.latest ≤ latest → latest ≤ stamp_limit → Told (taking (book_at latest x) x) → Found (book_at latest x) v
  found_at latest after low_enough told = record {
    book_is = later_book (held_book x) latest (subst IsBook is k) after low_enough;
    told = subst (λ (z : View). Told (record z { log = x.log; latest = latest })) kept told;
    opening = ap (λ (z : View). z.origin.opening) kept;
  }

  pub found_by : (latest : ℕ) → IsLatest x latest → Told (taking (book_at latest x) x) → Found (book_at latest x) v
  found_by latest l = found_at latest l.after l.bound

  pub read_as : {E : Type 0} (key : Key) (result : Result (Row × ℕ) E) (latest : ℕ) → IfOk result (IsReadIn share key) → IfOk result (IsReadIn (book_at latest x) key)
  read_as key result latest read = IfOk-weaker result (IsReadIn (held_book x) key) (IsReadIn (book_at latest x) key) (λ r s. record { row = s.row; version = s.version }) (subst (λ (b : BookValue). IfOk result (IsReadIn b key)) is read)

  pub stale_as : (latest n number : ℕ) (a : Attempt) (conflict : Conflict) → Found (book_at latest x) v → Faithful v.origin.opening.tables v.own.seen a → first_stale share.opening.tables share.log a.reads ≡ Some conflict
      → SettledAs (book_at latest x) (book_at latest x) n number a (Stale conflict)
  stale_as latest n number a conflict found faithful first =
      let b = book_at latest x in
      let now : first_stale b.opening.tables b.log a.reads ≡ Some conflict = subst (λ (z : BookValue). first_stale z.opening.tables z.log a.reads ≡ Some conflict) is first in
      record { first = now; overtaken = overtaken b.opening.tables b.log a.reads conflict (faithful_found v b a found.told found.opening faithful).reads_are now; same = refl }

  -- a change was refused
  module _ (latest n : ℕ) (a : Attempt) (answer : Settle) (changes : IsSome a.act) (refused : SettledAs share share n (length (entries_of n share.log) + 1) a answer) where
    pub refused_as : SettledAs (book_at latest x) (book_at latest x) n (length (entries_of n x.log) + 1) a answer
    refused_as = subst (λ (b : BookValue). SettledAs (at_stamp latest b) (at_stamp latest b) n (length (entries_of n b.log) + 1) a answer) is (refused_at latest share n _ a answer changes refused)

    pub refused_view_as : giving (looking 1 x) ≡ settled_view (book_at latest x) (book_at latest x) a.moment answer v
    refused_view_as = looked_as v x kept 1 latest ∙ refused_view (book_at latest x) (book_at latest x) a.moment answer v (not_done (book_at latest x) n _ a answer changes refused_as)

  -- an attempt that changes nothing was accepted
  module _ (latest later n number : ℕ) (a : Attempt) (drawn : Drawn) (none : a.act ≡ None) (marks : All (MarkFits x.log later) x.marks) (after : x.latest ≤ later) (low_enough : later ≤ stamp_limit) (moment : a.moment ≤ stamp_limit)
      (told : Told (taking (book_at latest x) x)) where
    abbrev pub passed : BookValue
    passed = book_at (max later a.moment) x

    pub pass_found : Found (book_at later x) v
    pass_found = found_at later after low_enough (retold x latest later marks told)

    pub pass_kept : IsBook passed
    pass_kept = later_book (held_book x) (max later a.moment) (subst IsBook is k) (omega arith) (omega arith)

    pub pass_as : first_stale share.opening.tables share.log a.reads ≡ None → drawn.front ≡ length share.log → drawn.stamp ≡ max later a.moment → drawn.ids ≡ no_ids → SettledAs (book_at later x) passed n number a (Done drawn)
    pass_as fresh front stamp ids = record {
      fresh = subst (λ (z : BookValue). first_stale z.opening.tables z.log a.reads ≡ None) is fresh;
      taken = subst (λ (act : Option Act). Taken (book_at later x) passed n number (max later a.moment) act drawn) (sym none) (record {
        room = λ some_act. absurd (true≢false (sym some_act));
        stamp_is = stamp;
        book = λ i. record { opening = x.origin.opening; log = sym (append-nil x.log) i; latest = max later a.moment };
        front = front ∙ ap (λ (z : BookValue). length z.log) is;
        ids = ids;
      });
    }

    pub passed_view : giving (raising a.moment (looking 1 x)) ≡ settled_view (book_at later x) passed a.moment (Done drawn) v
    passed_view = λ i. giving (appending x.log (raising a.moment (looking 1 (record (kept i) { log = x.log }))))

-- inside, after the share was taken
pub inside_keeps : (share : BookValue) (v : View) (m : AtTable) (more : List (ℕ × Option BookValue)) → m ≡ (sharing share v, more) → giving m.0 ≡ giving v
inside_keeps share v m more e = ap (λ (x : AtTable). giving x.0) e

pub inside_book : (share : BookValue) (v : View) (m : AtTable) (more : List (ℕ × Option BookValue)) → m ≡ (sharing share v, more) → share.opening ≡ v.origin.opening → share ≡ held_book m.0
inside_book share v m more e opening = (λ i. record { opening = opening i; log = share.log; latest = share.latest }) ∙ ap (λ (x : AtTable). held_book x.0) (sym e)

pub inside_after : (number callers settles : ℕ) (share : BookValue) (old m now : AtTable) → IsReady number callers old → m ≡ (sharing share old.0, (8 * number, None) ∷ []) → share.opening ≡ old.0.origin.opening → now ≡ (looking settles m.0, m.1) → IsInside number callers share now
inside_after number callers settles share old m now r e opening f =
    subst (IsInside number callers share) (sym (f ∙ ap (λ (x : AtTable). (looking settles x.0, x.1)) e)) (record { live = r.live; stands = refl; number_is = r.number_is; one = r.one; most = r.most; book = λ i. record { opening = opening i; log = share.log; latest = share.latest }; slot = refl })

pub inside_before : (number callers : ℕ) (share : BookValue) (old m : AtTable) → IsReady number callers old → m ≡ (sharing share old.0, (8 * number, None) ∷ []) → share.opening ≡ old.0.origin.opening → IsInside number callers share m
inside_before number callers share old m r e opening =
    subst (IsInside number callers share) (sym e) (record { live = r.live; stands = refl; number_is = r.number_is; one = r.one; most = r.most; book = λ i. record { opening = opening i; log = share.log; latest = share.latest }; slot = refl })

pub inside_raised : (number callers t : ℕ) (share : BookValue) (m now : AtTable) → IsInside number callers share m → now ≡ (raising t m.0, m.1) → IsInside number callers share now
inside_raised number callers t share m now k e = subst (IsInside number callers share) (sym e) (record { live = k.live; stands = k.stands; number_is = k.number_is; one = k.one; most = k.most; book = k.book; slot = k.slot })

-- outside again, without a look
pub ready_again : (number callers : ℕ) (share : BookValue) (old m now : AtTable) (more : List (ℕ × Option BookValue)) → IsReady number callers old → m ≡ (sharing share old.0, more) → now ≡ (giving m.0, []) → IsReady number callers now
ready_again number callers share old m now more r e f = subst (IsReady number callers) (sym (f ∙ ap (λ (x : AtTable). (giving x.0, [])) e)) (record { live = r.live; idle = refl; number_is = r.number_is; one = r.one; most = r.most; empty = refl })

-- with every share
pub shares_looked : (callers settles : ℕ) (share : BookValue) (m now : AtTable) → HasShares callers share m → now ≡ (looking settles m.0, m.1) → HasShares callers share now
shares_looked callers settles share m now k e = subst (HasShares callers share) (sym e) (record { live = k.live; one = k.one; has = k.has; gathered = k.gathered; book = k.book; slots = k.slots })

pub shares_measured : (callers latest : ℕ) (share : BookValue) (m now : AtTable) → HasShares callers share m → now ≡ (knowing latest m.0, m.1) → HasShares callers (at_stamp latest share) now
shares_measured callers latest share m now k e = subst (HasShares callers (at_stamp latest share)) (sym e) (record { live = k.live; one = k.one; has = k.has; gathered = k.gathered; book = ap (at_stamp latest) k.book; slots = k.slots })

pub measured_after : (callers latest : ℕ) (share : BookValue) (m : AtTable) → HasShares callers share m → m.0.latest ≤ latest → share.latest ≤ latest
measured_after callers latest share m k le = let a = ap (λ (b : BookValue). b.latest) k.book in omega arith

-- a change was accepted, and is to be counted
pub counted_from : (callers number k t : ℕ) (b after : BookValue) (act : Option Act) (drawn : Drawn) (m : AtTable) → HasShares callers b m → m.0.knows ≡ true → m.0.others ≡ [] → m.0.own.number ≡ number → IsSome act → IsBook after → t ≤ stamp_limit
    → Taken b after number k (max b.latest t) act drawn → IsCounted callers t after m
counted_from callers number k t b after None drawn m shares knows single named some_act kept low_enough taken = absurd (true≢false (sym some_act))
counted_from callers number k t b after (Some act) drawn m shares knows single named some_act kept low_enough taken =
    let stamp : ℕ = max b.latest t in
    let level : b.latest ≡ m.0.latest = ap (λ (z : BookValue). z.latest) shares.book in
    let entry : Entry = record { caller = number; number = k; stamp = stamp; act = act } in
    record {
      all = record { live = shares.live; one = shares.one; has = shares.has; gathered = shares.gathered; book = refl; slots = shares.slots };
      knows = knows;
      single = single;
      longer = record { entry = entry; is = taken.book ∙ (λ i. record { opening = (shares.book i).opening; log = (shares.book i).log ++ entry ∷ []; latest = max (level i) t }); caller = sym named; stamp = ap (λ (n : ℕ). max n t) level };
      room = let l = ap (λ (z : BookValue). length z.log) taken.book in let s = ap (λ (z : BookValue). length z.log) shares.book in omega (arith, kept.short, kept.opens.bound, l, s, length-append b.log (entry ∷ []));
      bound = low_enough;
    }

pub some_caller : (number callers : ℕ) (m : AtTable) → IsReady number callers m → 1 ≤ callers
some_caller number callers m r = let a = r.one in let b = r.most in omega arith

-- a row and its version are those of a book
pub read_in : {E : Type 0} (b : BookValue) (key : Key) (result : Result (Row × ℕ) E) → IfOk result (λ r. r.0 ≡ row_of (tables_of b) key) → IfOk result (λ r. r.1 ≡ version_of b.opening.tables b.log key) → IfOk result (IsReadIn b key)
read_in b key (Ok r) row version = record { row = row; version = version }
read_in b key (Err e) row version = tt

-- an attempt is faithful to the book whose share a seat has
pub faithful_as : (v x : View) (share : BookValue) (latest : ℕ) (a : Attempt) → giving x ≡ giving v → share ≡ held_book x → Told (taking (book_at latest x) x) → Faithful v.origin.opening.tables v.own.seen a → Faithful share.opening.tables share.log a
faithful_as v x share latest a kept is told faithful =
    subst (λ (b : BookValue). Faithful b.opening.tables b.log a) (sym is)
    (faithful_found v (book_at latest x) a (subst (λ (z : View). Told (record z { log = x.log; latest = latest })) kept told) (ap (λ (z : View). z.origin.opening) kept) faithful)

-- a seat that looked with the turn took the other shares, and measured the latest stamp
module _ (v : View) (settles callers latest : ℕ) (share : BookValue) (first looked all now : AtTable) (one : HasShares 0 share first) (kept : giving first.0 ≡ giving v) (look : looked ≡ (looking settles first.0, first.1))
    (every : HasShares callers share all) (still : giving all.0 ≡ giving looked.0) (measured : now ≡ (knowing latest all.0, all.1)) where
  was_looking : giving all.0 ≡ giving (looking settles first.0)
  was_looking = still ∙ ap (λ (m : AtTable). giving m.0) look

  book_then : at_stamp latest share ≡ book_at latest first.0
  book_then = ap (at_stamp latest) one.book

  pub all_found : (t : ℕ) → IsBook (at_stamp latest share) → All (MarkFits all.0.log latest) all.0.marks → Told (taking (book_at t first.0) first.0) → Found (at_stamp latest share) v
  all_found t book marks told =
      let log : all.0.log ≡ first.0.log = ap (λ (b : BookValue). b.log) (sym every.book ∙ one.book) in
      let fits = subst (λ (l : List Entry). All (MarkFits l latest) first.0.marks) log (subst (All (MarkFits all.0.log latest)) (ap (λ (x : View). x.marks) was_looking) marks) in
      subst (λ (b : BookValue). Found b v) (sym book_then) (record {
        book_is = subst IsBook book_then book;
        told = subst (λ (z : View). Told (record z { log = first.0.log; latest = latest })) kept (retold first.0 t latest fits told);
        opening = ap (λ (z : View). z.origin.opening) kept;
      })

  pub all_shares : HasShares callers (at_stamp latest share) now
  all_shares = shares_measured callers latest share all now every measured

  -- what the seat knows besides its log
  knows_now : giving now.0 ≡ giving (looking settles (taking (at_stamp latest share) v))
  knows_now = ap (λ (m : AtTable). giving m.0) measured ∙ was_looking ∙ looked_as v first.0 kept settles latest ∙ ap (λ (b : BookValue). giving (looking settles (taking b v))) (sym book_then)

  pub all_changed : (log : List Entry) (t : ℕ) → giving (appending log (raising t now.0)) ≡ giving (appending log (raising t (looking settles (taking (at_stamp latest share) v))))
  all_changed log t =
      let is : now.0.log ≡ share.log = ap (λ (m : AtTable). m.0.log) measured ∙ ap (λ (b : BookValue). b.log) (sym every.book) in
      λ i. giving (appending log (raising t (record (knows_now i) { log = is i })))

  pub all_refused : settles ≡ 1 → (after : BookValue) (moment : ℕ) (answer : Settle) → ((drawn : Drawn) → answer ≡ Done drawn → ⊥) → giving now.0 ≡ settled_view (at_stamp latest share) after moment answer v
  all_refused one_look after moment answer refused =
      knows_now ∙ ap (λ n. giving (looking n (taking (at_stamp latest share) v))) one_look ∙ refused_view (at_stamp latest share) after moment answer v refused

  pub all_counted : (number k t : ℕ) (after : BookValue) (act : Option Act) (drawn : Drawn) → v.own.number ≡ number → IsSome act → IsBook after → t ≤ stamp_limit
      → Taken (at_stamp latest share) after number k (max latest t) act drawn → IsCounted callers t after now
  all_counted number k t after act drawn named changes book low_enough taken =
      let is = ap (λ (m : AtTable). giving m.0) measured ∙ was_looking in
      counted_from callers number k t (at_stamp latest share) after act drawn now all_shares (ap (λ (m : AtTable). m.0.knows) measured) (ap (λ (x : View). x.others) is) (ap (λ (x : View). x.own.number) is ∙ ap (λ (x : View). x.own.number) kept ∙ named)
      changes book low_enough taken

-- a book that was raised to a later stamp
pub raised_book : (latest : ℕ) (share old new : BookValue) → old ≡ share → new ≡ record old { latest = max old.latest latest } → share.latest ≤ latest → new ≡ at_stamp latest share
raised_book latest share old new is e after = e ∙ ap (λ (b : BookValue). record b { latest = max b.latest latest }) is ∙ ap (λ n. at_stamp n share) (let same : max share.latest latest ≡ latest = omega arith in same)
