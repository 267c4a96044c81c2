-- What the log of a new shop came to as it closed, by the desks of its callers and one that is nobody's.
use Rattle.std.proofs.Common.{◌≡◌, ⊎_elim, ◌⊎◌, ℕ, zero, suc, ◌+◌, ◌-◌, ◌≤◌, ◌<◌, Bool, true, false, List, [], ◌∷◌, ◌++◌, length, drop, get_or, ◌==◌, refl, sym, ap, ◌∙◌, subst, arith, length-append}
use Rattle.std.specs.List.{All, Contains}
use Rattle.std.proofs.lemmas.Bool.{cases_lt, eq-eqb, false≢true}
use Rattle.std.proofs.lemmas.List.{get_or_append_left, get_or-append_right}
use Rattle.std.proofs.lemmas.List.Elements.{All-cons, All-nil}
use Rattle.shop_text.proofs.cited.Lists.{contains_first}
use Rattle.shop_model.specs.declared.tables.Tables.{Tables}
use Rattle.shop_model.specs.population.Population.{populated}
use Rattle.shop_history.specs.declared.acts.Entry.{Entry}
use Rattle.shop_history.specs.Lawful.{IsLawful}
use Rattle.shop_history.specs.Logs.{entries_of}
use Rattle.shop_attempt.specs.Marks.{AreMarks}
use Rattle.shop_attempt.specs.Seats.{Seat}
use Rattle.shop_book.specs.Books.{BookValue, IsBook}
use Rattle.shop_book.specs.Solos.{seat_of as seat_at, seated}
use Rattle.shop_book.specs.declared.opening.Opening.{Opening}
use Rattle.shop_turn.specs.Views.{opening_view}
use Rattle.shop_turn.specs.Desks.{DeskValue, IsOneShop, moments_of, seat_of, shop_name}
use Rattle.shop_turn.specs.Shops.{Closes, IsAll, Opens, IsMomentOf, Outlasts, new_desk}
use Rattle.shop_turn.proofs.cited.Desks.{moment_within, new_at, new_size}
use Rattle.shop_engine.specs.declared.report.Point.{Point}
use Rattle.shop_engine.specs.Lists.{IsFreshPoint}
use Rattle.shop_engine.specs.Fresh.{IsFreshIn}
use Rattle.shop_engine.proofs.KeptLemmas.{points_fresh}
use Rattle.shop_engine.proofs.Steps.{lawful}
use Rattle.shop_engine.proofs.cited.Fresh.{all_fresh}
use Rattle.shop_words.specs.declared.command.Session.{Session}
use Rattle.shop_app.specs.NewShops.{new_book}
use Rattle.shop_app.proofs.cited.Places.{at_place}

-- a caller who has no entry made none
none_made : (c : ℕ) (log : List Entry) → entries_of c log ≡ [] → All (λ (e : Entry). ¬ (e.caller ≡ c)) log
none_made c [] none = All-nil (λ (e : Entry). ¬ (e.caller ≡ c))
none_made c (e ∷ log) none = by (e.caller == c) refl (none_made c log)
  where
    by : (b : Bool) → (e.caller == c) ≡ b → (entries_of c log ≡ [] → All (λ (x : Entry). ¬ (x.caller ≡ c)) log) → All (λ (x : Entry). ¬ (x.caller ≡ c)) (e ∷ log)
    by true is rest = let some : e ∷ entries_of c log ≡ [] = rw is at none in absurd (omega (arith, ap length some))
    by false is rest = All-cons (λ (x : Entry). ¬ (x.caller ≡ c)) e log (λ same. false≢true (sym is ∙ eq-eqb e.caller c same)) (rest (rw is at none))

-- what was fresh by marks of the log seen is fresh of a log that they are marks of too
pub fresh_later : (seat : Seat) (marked : ℕ → ℕ → Type 0) (log : List Entry) (points : List Point) → AreMarks marked log → All (IsFreshPoint marked seat.seen) points → All (IsFreshIn log) points
fresh_later seat marked log points marks fresh =
    let later : Seat = record seat { seen = log } in
    all_fresh marked log points
    (points_fresh seat later marked marked points (record { still = record { kept = λ front moment is. is }; are = λ _. marks }) fresh)

module _ (session : Session) (workers : ℕ) (desks : List DeskValue) (own : DeskValue) (opens : Opens (new_book session) (workers + 1) (desks ++ own ∷ [])) where
  abbrev callers : ℕ
  callers = workers + 1

  -- the name of the shop
  abbrev pub name : List ℕ
  name = shop_name opens.table (opening_view (new_book session) callers).origin

  pub count : length desks ≡ workers
  count =
      let all : length (desks ++ own ∷ []) ≡ callers = ap length opens.are ∙ new_size opens.table (new_book session) callers callers in
      omega (arith, length-append desks (own ∷ []), all)

  -- the desk at a place is the new one with its number
  pub desk_at : (k : ℕ) (desk : DeskValue) → k < workers → get_or desks k desk ≡ new_desk opens.table (new_book session) callers (k + 1)
  desk_at k desk within =
      sym (get_or_append_left desks (own ∷ []) desk k (omega (arith, within, count)))
      ∙ ap (λ (ds : List DeskValue). get_or ds k desk) opens.are
      ∙ new_at opens.table (new_book session) callers callers k desk (omega (arith, within))

  own_is : own ≡ new_desk opens.table (new_book session) callers callers
  own_is =
      let none : workers - workers ≡ 0 = omega arith in
      let last : get_or (desks ++ own ∷ []) workers own ≡ own = get_or-append_right desks (own ∷ []) workers workers own count (omega arith) ∙ ap (λ i. get_or (own ∷ []) i own) none in
      sym last ∙ ap (λ (ds : List DeskValue). get_or ds workers own) opens.are ∙ new_at opens.table (new_book session) callers callers workers own (omega arith)

  -- a new desk is one of the shop of the desk that is nobody's
  pub one_shop : (desk : DeskValue) (number : ℕ) → desk ≡ new_desk opens.table (new_book session) callers number → IsOneShop own desk
  one_shop desk number is = ap (λ (d : DeskValue). (seat_of d).shop) is ∙ sym (ap (λ (d : DeskValue). (seat_of d).shop) own_is)

  module _ (backs : List DeskValue) (book : BookValue) (closes : Closes own.origin (own ∷ backs) book) (size : length backs ≡ workers)
      (numbers : (k : ℕ) (desk : DeskValue) → k < workers → (get_or backs k desk).number ≡ k + 1) where
    pub outlasts : (k : ℕ) (desk : DeskValue) → k < workers → Outlasts book.log (get_or backs k desk)
    outlasts k desk within = closes.each (suc k) desk (omega (arith, within, size))

    total : own.origin.callers ≡ callers
    total = ap (λ (d : DeskValue). d.origin.callers) own_is

    -- every caller of the shop is here, and the one that is nobody's
    all_here : IsAll own.origin (own ∷ backs)
    all_here number least most =
        ⊎_elim
        (λ (caller : number < callers).
        let k : ℕ = number - 1 in
        let within : k < workers = omega (arith, least, caller) in
        let desk : DeskValue = get_or backs k own in (
          desk,
          (suc k, omega (arith, within, size), at_place backs k desk own (omega (arith, within, size))),
          numbers k own within ∙ omega (arith, least),
        ))
        (λ (last : callers ≤ number).
        let same : callers ≡ number = omega (arith, last, most, total) in
        (own, contains_first own backs, ap (λ (d : DeskValue). d.number) own_is ∙ same))
        (cases_lt number callers)

    -- the log of a new shop is empty
    opening_empty : own.origin.size ≡ 0
    unfolding new_book
    opening_empty = ap (λ (d : DeskValue). d.origin.size) own_is

    opening_is : own.origin.opening.tables ≡ populated session.seed session.scale
    unfolding new_book
    opening_is = ap (λ (d : DeskValue). d.origin.opening.tables) own_is

    latest_none : own.origin.latest ≡ 0
    unfolding new_book
    latest_none = ap (λ (d : DeskValue). d.origin.latest) own_is

    seen_none : own.seen ≡ []
    unfolding new_book
    seen_none = ap (λ (d : DeskValue). d.seen) own_is

    marks_none : own.marks ≡ []
    marks_none = ap (λ (d : DeskValue). d.marks) own_is

    whole_log : (P : Entry → Type 0) → All P (drop own.origin.size book.log) → All P book.log
    whole_log P all = subst (λ n. All P (drop n book.log)) opening_empty all

    -- the desk that is nobody's made no entry
    none_by_own : All (λ (e : Entry). ¬ (e.caller ≡ callers)) book.log
    none_by_own =
        let own_outlasts : Outlasts book.log own = closes.each 0 own (omega arith) in
        let number : own.number ≡ callers = ap (λ (d : DeskValue). d.number) own_is in
        none_made callers book.log (ap (λ n. entries_of n book.log) (sym number) ∙ own_outlasts.mine ∙ ap (entries_of own.number) seen_none)

    pub by_callers : All (λ e. (1 ≤ e.caller) × (e.caller ≤ workers)) book.log
    by_callers k e within =
        let some = whole_log (λ (e : Entry). (1 ≤ e.caller) × (e.caller ≤ own.origin.callers)) closes.callers k e within in (
          some.0,
          ⊎_elim
              (λ (caller : (get_or book.log k e).caller < callers). omega (arith, caller))
              (λ (last : callers ≤ (get_or book.log k e).caller). absurd (none_by_own k e within (omega (arith, last, some.1, total))))
              (cases_lt (get_or book.log k e).caller callers),
        )

    -- no later than a moment at the desk at a place
    abbrev pub IsWithinPlace : ℕ → Type 0
    IsWithinPlace moment = (k : ℕ) × (k < workers) × ((desk : DeskValue) → moment ≤ (seat_of (get_or backs k desk)).greatest)

    -- a moment of a settle at a desk of the shop is one of some caller's
    moment_of : (moment : ℕ) → IsMomentOf (own ∷ backs) moment → IsWithinPlace moment
    moment_of moment (desk, (zero, within, is), has) =
        let none : Contains [] moment = subst (λ (ms : List (ℕ × ℕ)). Contains (moments_of ms) moment) (ap (λ (d : DeskValue). d.marks) (sym is) ∙ marks_none) has in
        absurd (omega (arith, none.1))
    moment_of moment (desk, (suc k, within, is), has) =
        let inside : k < length backs = omega (arith, within) in
        let most : moment ≤ (seat_of desk).greatest = moment_within (desk ∷ []) (seat_of desk).greatest moment
        (All-cons (λ (d : DeskValue). (seat_of d).greatest ≤ (seat_of desk).greatest) desk [] (omega arith) (All-nil (λ (d : DeskValue). (seat_of d).greatest ≤ (seat_of desk).greatest)))
        (desk, contains_first desk [], has) in (
          k,
          omega (arith, inside, size),
          λ other. omega (arith, most, ap (λ (d : DeskValue). (seat_of d).greatest) (at_place backs k other desk inside ∙ is)),
        )

    pub stamps_by : All (λ e. IsWithinPlace e.stamp) book.log
    stamps_by k e within =
        let entry : Entry = get_or book.log k e in
        let caller = by_callers k e within in
        ⊎_elim
        (λ (first : entry.stamp ≡ own.origin.latest). (entry.caller - 1, omega (arith, caller.0, caller.1), λ desk. omega (arith, first, latest_none)))
        (λ (moment : IsMomentOf (own ∷ backs) entry.stamp). moment_of entry.stamp moment)
        (whole_log (λ (e : Entry). (e.stamp ≡ own.origin.latest) ⊎ IsMomentOf (own ∷ backs) e.stamp) (closes.stamps all_here) k e within)

    pub opened : book.opening.tables ≡ populated session.seed session.scale
    opened = ap (λ (o : Opening). o.tables) closes.opening ∙ opening_is

    pub is_lawful : IsLawful (populated session.seed session.scale) book.log
    is_lawful =
        let is : IsBook book = closes.book_is in
        subst (λ (t : Tables). IsLawful t book.log) opened (lawful (seat_at (seated book 1)) (record { good = is.opens.good; legal = is.legal; short = is.short }))
