-- What the calls of a seat mean for a desk.
use Rattle.std.proofs.Common.{◌≡◌, ℕ, ◌+◌, ◌≤◌, List, [], ◌∷◌, ◌++◌, length, max, Option, Some, None, eqb, sym, subst, arith, ◌∙◌, ap, refl, ◌≢◌, drop, cond, eq-eqb, ne_eqb, IfOk, Result}
use Rattle.std.proofs.lemmas.Bool.{true≢false}
use Rattle.std.proofs.lemmas.List.{append-nil, drop-append-le}
use Rattle.std.proofs.lemmas.List.Elements.{All-head, All-weaker, All-push, All-nil, All-tail, All-contains, Contains-append_left, Contains-push, filter-append}
use Rattle.std.proofs.lemmas.Result.{IfOk-weaker}
use Rattle.std.specs.List.{All, Contains}
use Rattle.std.specs.Option.{IsNone}
use Rattle.atomic_table.specs.Seated.{TableId}
use Rattle.shop_log.proofs.cited.Extends.{extends_trans}
use Rattle.shop_log.specs.Histories.{Extends}
use Rattle.shop_model.specs.declared.tables.Tables.{Tables}
use Rattle.shop_history.specs.Logs.{entries_of, Legal, IsGood}
use Rattle.shop_history.specs.declared.acts.Act.{Act}
use Rattle.shop_history.specs.declared.acts.Drawn.{Drawn}
use Rattle.shop_history.specs.declared.acts.Entry.{Entry}
use Rattle.shop_history.specs.declared.keys.Key.{Key}
use Rattle.shop_history.specs.declared.keys.Row.{Row}
use Rattle.shop_attempt.specs.Marks.{AreMarks, LeavesMark}
use Rattle.shop_attempt.specs.Seats.{Seat, IsSeat, Follows, IsReadAt}
use Rattle.shop_attempt.specs.Settles as seat
use Rattle.shop_attempt.specs.declared.attempts.Attempt.{Attempt}
use Rattle.shop_attempt.specs.declared.attempts.Settle.{Settle}
use Rattle.shop_attempt.specs.declared.attempts.Settle.TheVariants.{Done, Stale, Full, Memory}
use Rattle.shop_book.specs.Books.{BookValue, IsBook}
use Rattle.shop_book.specs.Settles.{made}
use Rattle.shop_book.specs.Settles as book
use Rattle.shop_turn.specs.declared.rule.Origin.{Origin}
use Rattle.shop_turn.specs.declared.rule.View.{View}
use Rattle.shop_turn.specs.Views.{taking, looking, giving, read_view, copy, together}
use Rattle.shop_turn.specs.Rule.{shelved}
use Rattle.shop_turn.specs.Marks.{MarkFits}
use Rattle.shop_turn.specs.Plays.{AtTable, PartTold}
use Rattle.shop_turn.specs.Desks.{DeskValue, desk_value, greatest_of, own_of, shop_name, seat_of, marks_of, IsOneShop, HasLooked, HasSettled, Meets}
use Rattle.shop_turn.specs.Shared.{IsReadIn}
use Rattle.shop_turn.specs.Seats.{IsReady, Found, settled_view}
use Rattle.shop_turn.proofs.Fits.{drop-all, mark_push}

none_of : (n : ℕ) (xs : List Entry) → All (λ e. e.caller ≢ n) xs → entries_of n xs ≡ []
none_of n [] a = refl
none_of n (x ∷ xs) a = ap (λ b. cond b (x ∷ entries_of n xs) (entries_of n xs)) (ne_eqb x.caller n (All-head (λ e. e.caller ≢ n) x xs a)) ∙ none_of n xs (All-tail (λ e. e.caller ≢ n) x xs a)

-- the own entries, where the log goes on without this caller's
pub own_same : (n start : ℕ) (seen after log : List Entry) → start ≤ length seen → log ≡ seen ++ after → All (λ e. e.caller ≢ n) after → entries_of n (drop start log) ≡ entries_of n (drop start seen)
own_same n start seen after log long is alone =
    ap (λ (l : List Entry). entries_of n (drop start l)) is ∙ ap (entries_of n) (drop-append-le start seen after long) ∙ filter-append (λ (e : Entry). eqb e.caller n) (drop start seen) after ∙ ap (λ (l : List Entry). entries_of n (drop start seen) ++ l) (none_of n after alone) ∙ append-nil (entries_of n (drop start seen))

of_made : (n k stamp : ℕ) (act : Option Act) → entries_of n (made n k stamp act) ≡ made n k stamp act
of_made n k stamp None = refl
of_made n k stamp (Some a) = ap (λ b. cond b (made n k stamp (Some a)) []) (eq-eqb n n refl)

own_more : (n k stamp start : ℕ) (act : Option Act) (log : List Entry) → start ≤ length log → entries_of n (drop start (log ++ made n k stamp act)) ≡ entries_of n (drop start log) ++ made n k stamp act
own_more n k stamp start act log long = ap (entries_of n) (drop-append-le start log (made n k stamp act) long) ∙ filter-append (λ (e : Entry). eqb e.caller n) (drop start log) (made n k stamp act) ∙ ap (λ (l : List Entry). entries_of n (drop start log) ++ l) (of_made n k stamp act)

greatest_push : (ms : List (ℕ × ℕ)) (f t : ℕ) → greatest_of (ms ++ (f, t) ∷ []) ≡ max (greatest_of ms) t
greatest_push [] f t = omega arith
greatest_push (m ∷ ms) f t = let e = greatest_push ms f t in omega (arith, e)

mark_after : (log : List Entry) (n k stamp : ℕ) (act : Option Act) (m : ℕ × ℕ) → MarkFits log stamp m → MarkFits (log ++ made n k stamp act) stamp m
mark_after log n k stamp None m f = subst (λ (l : List Entry). MarkFits l stamp m) (sym (append-nil log)) f
mark_after log n k stamp (Some a) m f = mark_push log stamp (record { caller = n; number = k; stamp = stamp; act = a }) m refl f

-- the marks after an accepted settle
marks_after : (log : List Entry) (latest n k t : ℕ) (act : Option Act) (ms : List (ℕ × ℕ)) → All (MarkFits log latest) ms → All (MarkFits (log ++ made n k (max latest t) act) (max latest t)) (ms ++ (length log, t) ∷ [])
marks_after log latest n k t act ms old =
    let stamp : ℕ = max latest t in
    let longer : (m : ℕ × ℕ) → MarkFits log stamp m → MarkFits (log ++ made n k stamp act) stamp m = mark_after log n k stamp act in
    All-push (MarkFits (log ++ made n k stamp act) stamp) ms (length log, t)
    (All-weaker (MarkFits log latest) (MarkFits (log ++ made n k stamp act) stamp) (λ m f. longer m (record { front = f.front; moment = let a = f.moment in omega arith; above = f.above })) ms old)
    (longer (length log, t) (record { front = omega arith; moment = omega arith; above = subst (All (λ (e : Entry). t ≤ e.stamp)) (sym (drop-all log)) (All-nil (λ (e : Entry). t ≤ e.stamp)) }))

-- and marks that a look tells of are marks of the log
pub marks_told : (log : List Entry) (latest : ℕ) (ms : List (ℕ × ℕ)) → All (MarkFits log latest) ms → AreMarks (λ front moment. Contains ms (front, moment)) log
marks_told log latest ms all = record {
  are = λ front moment h.
      let f : MarkFits log latest (front, moment) = All-contains (MarkFits log latest) ms (front, moment) all h in
      record { within = f.front; behind = f.above };
}

-- the seat of a book's log
pub seat_valid : (s : Seat) (b : BookValue) → IsBook b → b.opening.tables ≡ s.opening → b.opening.limit ≡ s.limit → b.log ≡ s.seen → IsSeat s
seat_valid s b k opening limit log = record {
  good = subst (λ (t : Tables). IsGood t (s.limit + 1)) opening (subst (λ (l : ℕ). IsGood b.opening.tables (l + 1)) limit k.opens.good);
  legal = subst (λ (t : Tables). Legal t s.seen) opening (subst (Legal b.opening.tables) log k.legal);
  short = let l = ap length log in omega (arith, k.short, limit, l);
}

module _ (table table' : TableId) (n callers : ℕ) (m : AtTable) (ready : IsReady n callers m) (long : m.0.origin.size ≤ length m.0.own.seen) (same : table' ≡ table) where
  abbrev origin : Origin
  origin = m.0.origin

  abbrev old : DeskValue
  old = desk_value table n m.0

  abbrev after : View → DeskValue
  after v = desk_value table' n v

  named : shop_name table' origin ≡ shop_name table origin
  named = ap (λ (z : TableId). shop_name z origin) same

  module _ (log : List Entry) (latest : ℕ) (found : Found (shelved origin log latest) m.0) where
    abbrev b : BookValue
    b = shelved origin log latest

    own_told : PartTold log m.0.own
    own_told = All-head (PartTold log) m.0.own m.0.others found.told.parts

    grows : Extends m.0.own.seen log
    grows = record { rest = own_told.after; is = own_told.is }

    alone : All (λ (e : Entry). e.caller ≢ n) own_told.after
    alone = subst (λ k. All (λ (e : Entry). e.caller ≢ k) own_told.after) ready.number_is (own_told.alone (let a = ready.one in let e = ready.number_is in omega arith))

    kept_from : (start : ℕ) → start ≤ length m.0.own.seen → entries_of n (drop start log) ≡ entries_of n (drop start m.0.own.seen)
    kept_from start short = own_same n start m.0.own.seen own_told.after log short own_told.is alone

    mine : entries_of n log ≡ entries_of n m.0.own.seen
    mine = kept_from 0 (omega arith)

    own : entries_of n (drop origin.size log) ≡ own_of old
    own = kept_from origin.size long

    is_found : seat.Found (seat_of old) log
    is_found = record { grows = grows; mine = mine; alone = λ told. absurd (true≢false (sym told)) }

    -- the desk after a call that left the book as it was
    abbrev calm : ℕ → DeskValue
    calm k = after (giving (looking k (taking b m.0)))

    valid_calm : (k : ℕ) → IsSeat (seat_of (calm k))
    valid_calm k = seat_valid (seat_of (calm k)) b found.book_is refl refl refl

    follows_calm : (k : ℕ) → Follows (seat_of old) (seat_of (calm k))
    follows_calm k = record { shop = named; opening = refl; limit = refl; caller = refl; grows = grows; calls = omega arith; valid = λ _. valid_calm k }

    marks_calm : (k : ℕ) → AreMarks (marks_of (calm k)) log
    marks_calm k = marks_told log latest m.0.marks found.told.marks

    look_core : HasLooked old (calm 0)
    look_core = record {
      looked = record {
        follows = follows_calm 0;
        mine = mine;
        own = own;
        settles = omega arith;
        greatest = refl;
        latest = refl;
        alone = λ told. absurd (true≢false (sym told));
      };
      valid = valid_calm 0;
      calls = omega arith;
      still = record { kept = λ front moment h. h };
      marks = marks_calm 0;
    }

    row_core : {E : Type 0} (key : Key) (result : Result (Row × ℕ) E) → IfOk result (IsReadIn b key) → IfOk result (IsReadAt (seat_of (calm 0)) key)
    row_core key result row = IfOk-weaker result (IsReadIn b key) (IsReadAt (seat_of (calm 0)) key) (λ r is. record { row = is.row; version = is.version }) row

    refused : seat.Refused (seat_of old) (seat_of (calm 1))
    refused = record { found = is_found; own = own; greatest = refl; latest = refl }

    means_calm : (a : Attempt) (answer : Settle) → seat.SettledAs (seat_of old) (seat_of (calm 1)) a answer → LeavesMark (marks_of (calm 1)) a answer → HasSettled old (calm 1) a answer
    means_calm a answer settled mark = record {
      follows = follows_calm 1;
      valid = valid_calm 1;
      calls = omega arith;
      settles = record { rose = omega arith; kept = omega arith; once = omega arith };
      settled = settled;
      still = record { kept = λ front moment h. h };
      marks = marks_calm 1;
      mark = mark;
    }

    module _ (a : Attempt) (k : ℕ) (x : Drawn) where
      abbrev stamp : ℕ
      stamp = max latest a.moment

      -- the book with what the settle made
      abbrev left : Option Act → BookValue
      left act = record { opening = origin.opening; log = log ++ made n k stamp act; latest = stamp }

      abbrev done : Option Act → DeskValue
      done act = after (settled_view b (left act) a.moment (Done x) m.0)

      accepted : (act : Option Act) (before : List Entry) → before ≡ log → book.IsFresh b a → book.Taken b (left act) n k stamp act x → seat.Accepted (seat_of old) (seat_of (done act)) before a x
      accepted act before is fresh taken = subst (λ (l : List Entry). seat.Accepted (seat_of old) (seat_of (done act)) l a x) (sym is) (record {
        is_found = is_found;
        fresh = fresh;
        front = taken.front;
        moment = let e = taken.stamp_is in omega (arith, e);
        told = λ told. absurd (true≢false (sym told));
        latest = refl;
        greatest = greatest_push m.0.marks (length log) a.moment;
      })

      own_done : (act : Option Act) → entries_of n (drop origin.size (log ++ made n k stamp act)) ≡ own_of old ++ made n k stamp act
      own_done act = own_more n k stamp origin.size act log found.told.long ∙ ap (λ (l : List Entry). l ++ made n k stamp act) own

      done_as : (act : Option Act) → book.IsFresh b a → book.Taken b (left act) n k stamp act x → seat.DoneAs (seat_of old) (seat_of (done act)) a act x
      done_as None fresh taken = record {
        accepted = accepted None (log ++ []) (append-nil log) fresh taken;
        own = own_done None ∙ append-nil (own_of old);
        ids = taken.ids;
      }
      done_as (Some act) fresh taken = record {
        before = log;
        entry = record { caller = n; number = k; stamp = stamp; act = act };
        accepted = accepted (Some act) log refl fresh taken;
        seen = refl;
        own = own_done (Some act);
        room = taken.room refl;
        caller = refl;
        does = refl;
        stamp = sym taken.stamp_is;
        ids = taken.ids;
      }

      marked_as : (act : Option Act) → x.front ≡ length (log ++ made n k stamp act) → IsNone act → Contains (m.0.marks ++ (length log, a.moment) ∷ []) (x.front, a.moment)
      marked_as None front none = subst (λ f. Contains (m.0.marks ++ (length log, a.moment) ∷ []) (f, a.moment)) (sym (front ∙ ap length (append-nil log))) (Contains-push m.0.marks (length log, a.moment))
      marked_as (Some act) front none = absurd (true≢false none)

      valid_done : (act : Option Act) → IsBook (left act) → IsSeat (seat_of (done act))
      valid_done act kept = seat_valid (seat_of (done act)) (left act) kept refl refl refl

      means_done : (act : Option Act) → a.act ≡ act → IsBook (left act) → book.IsFresh b a → book.Taken b (left act) n k stamp act x → HasSettled old (done act) a (Done x)
      means_done act does kept fresh taken = record {
        follows = record {
          shop = named;
          opening = refl;
          limit = refl;
          caller = refl;
          grows = extends_trans m.0.own.seen log (log ++ made n k stamp act) grows (record { rest = made n k stamp act; is = refl });
          calls = omega arith;
          valid = λ _. valid_done act kept;
        };
        valid = valid_done act kept;
        calls = omega arith;
        settles = record { rose = omega arith; kept = omega arith; once = omega arith };
        settled = subst (λ o. seat.DoneAs (seat_of old) (seat_of (done act)) a o x) (sym does) (done_as act fresh taken);
        still = record { kept = λ front moment h. Contains-append_left m.0.marks ((length log, a.moment) ∷ []) (front, moment) h };
        marks = marks_told (log ++ made n k stamp act) stamp (m.0.marks ++ (length log, a.moment) ∷ []) (marks_after log latest n k a.moment act m.0.marks found.told.marks);
        mark = λ none. marked_as act taken.front (subst IsNone does none);
      }

    settle_core : (a : Attempt) (k : ℕ) (answer : Settle) (b' : BookValue) → IsBook b' → book.SettledAs b b' n k a answer → HasSettled old (after (settled_view b b' a.moment answer m.0)) a answer
    settle_core a k (Done x) b' kept s =
        subst (λ (z : BookValue). HasSettled old (after (settled_view b z a.moment (Done x) m.0)) a (Done x)) (sym s.taken.book)
        (means_done a k x a.act refl (subst IsBook s.taken.book kept) s.fresh (subst (λ (z : BookValue). book.Taken b z n k (max latest a.moment) a.act x) s.taken.book s.taken))
    settle_core a k (Stale conflict) b' kept s = means_calm a (Stale conflict) (refused, s.first) tt
    settle_core a k (Full size) b' kept s = means_calm a (Full size) (record { refused = refused; fresh = s.0.fresh; changes = s.0.changes }, s.1, s.2) tt
    settle_core a k Memory b' kept s = means_calm a Memory (record { refused = refused; fresh = s.0.fresh; changes = s.0.changes }, s.1) tt

  -- the book that was found is that of this view's opening
  opened : (b : BookValue) → Found b m.0 → b ≡ shelved origin b.log b.latest
  opened b f = λ i. record { opening = f.opening i; log = b.log; latest = b.latest }

  pub settle_means : (d : DeskValue) (m' : AtTable) (a : Attempt) (answer : Settle) (b b' : BookValue) → old ≡ d → Found b m.0 → IsBook b' → book.SettledAs b b' n (length (entries_of n b.log) + 1) a answer
      → m' ≡ (settled_view b b' a.moment answer m.0, []) → HasSettled d (after m'.0) a answer
  settle_means d m' a answer b b' view found kept s is =
      let P : BookValue → Type 0 = λ z. Found z m.0 → book.SettledAs z b' n (length (entries_of n b.log) + 1) a answer → HasSettled old (after (settled_view z b' a.moment answer m.0)) a answer in
      subst (λ (z : DeskValue). HasSettled z (after m'.0) a answer) view
      (subst (λ (z : AtTable). HasSettled old (after z.0) a answer) (sym is)
      (subst P (sym (opened b found)) (λ f t. settle_core b.log b.latest f a (length (entries_of n b.log) + 1) answer b' kept t) found s))

  pub look_means : (d : DeskValue) (m' : AtTable) (b : BookValue) → old ≡ d → Found b m.0 → m' ≡ (read_view b m.0, []) → HasLooked d (after m'.0)
  look_means d m' b view found is =
      let P : BookValue → Type 0 = λ z. Found z m.0 → HasLooked old (after (read_view z m.0)) in
      subst (λ (z : DeskValue). HasLooked z (after m'.0)) view
      (subst (λ (z : AtTable). HasLooked old (after z.0)) (sym is)
      (subst P (sym (opened b found)) (λ f. look_core b.log b.latest f) found))

  pub row_means : {E : Type 0} (m' : AtTable) (key : Key) (result : Result (Row × ℕ) E) (b : BookValue) → Found b m.0 → m' ≡ (read_view b m.0, []) → IfOk result (IsReadIn b key) → IfOk result (IsReadAt (seat_of (after m'.0)) key)
  row_means m' key result b found is row =
      let P : BookValue → Type 0 = λ z. Found z m.0 → IfOk result (IsReadIn z key) → IfOk result (IsReadAt (seat_of (after (read_view z m.0))) key) in
      subst (λ (z : AtTable). IfOk result (IsReadAt (seat_of (after z.0)) key)) (sym is)
      (subst P (sym (opened b found)) (λ f r. row_core b.log b.latest f key result r) found row)

-- a desk that joined a copy of another seat
pub joined_copy : (table : TableId) (n : ℕ) (v w : View) → desk_value table n (together v (copy w)) ≡ desk_value table n v
joined_copy table n v w = λ i. record { table = table; origin = v.origin; number = n; seen = v.own.seen; marks = append-nil v.marks i; looks = v.looks; settles = v.settles }

joined_ready : (n callers : ℕ) (m : AtTable) (w : View) → IsReady n callers m → IsReady n callers (together m.0 w, m.1)
joined_ready n callers m w r = record { live = r.live; idle = r.idle; number_is = r.number_is; one = r.one; most = r.most; empty = r.empty }

pub meet_means : (table table' : TableId) (n callers : ℕ) (m m' : AtTable) (w : View) → IsReady n callers m → m.0.origin.size ≤ length m.0.own.seen → table' ≡ table → (b : BookValue) → Found b (together m.0 (copy w)) → m' ≡ (read_view b (together m.0 (copy w)), [])
    → (d e : DeskValue) → desk_value table n m.0 ≡ d → e.seen ≡ w.own.seen → Meets d e (desk_value table' n m'.0)
meet_means table table' n callers m m' w ready long same b f is d e view other =
    let p : PartTold b.log (copy w).own = All-contains (PartTold b.log) (m.0.others ++ (copy w).own ∷ []) (copy w).own (All-tail (PartTold b.log) m.0.own (m.0.others ++ (copy w).own ∷ []) f.told.parts) (Contains-push m.0.others (copy w).own) in
    let seen : m'.0.own.seen ≡ b.log = ap (λ (x : AtTable). x.0.own.seen) is in
    record {
      looks = look_means table table' n callers (together m.0 (copy w), m.1) (joined_ready n callers m (copy w) ready) long same d m' b (joined_copy table n m.0 w ∙ view) f is;
      other_seen = record { rest = p.after; is = seen ∙ p.is ∙ ap (λ (l : List Entry). l ++ p.after) (sym other) };
    }

-- the name of a shop says which table it is
pub same_table : (d e : DeskValue) → IsOneShop d e → e.table ≡ d.table
same_table d e n = λ i. record { words = one i; slots = two i; views_name = three i; atom = four i; block = five i; offset = six i; slot_names = seven i }
  where
    one : e.table.words ≡ d.table.words
    one = cc

    two : e.table.slots ≡ d.table.slots
    two = cc

    three : e.table.views_name ≡ d.table.views_name
    three = cc

    four : e.table.atom ≡ d.table.atom
    four = cc

    five : e.table.block ≡ d.table.block
    five = cc

    six : e.table.offset ≡ d.table.offset
    six = cc

    seven : e.table.slot_names ≡ d.table.slot_names
    seven = cc
