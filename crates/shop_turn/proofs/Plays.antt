-- Each kind of step keeps the rule, and tells what it should.
use Rattle.std.proofs.Common.{◌≡◌, ℕ, ◌+◌, ◌*◌, ◌%◌, ◌^◌, ◌≤◌, ◌<◌, List, [], ◌∷◌, ◌++◌, length, max, Option, Some, true, false, eqb, sym, subst, arith, ◌∙◌, ap, refl, ◌≢◌, inl, inr, ⊎_elim, ◌⊎◌, zero, suc, set, drop}
use Rattle.std.proofs.Math.Nat.{mod-eq_of_lt}
use Rattle.std.proofs.lemmas.Bool.{true≢false}
use Rattle.std.proofs.lemmas.List.{append-nil}
use Rattle.std.proofs.lemmas.List.Elements.{All-head, All-weaker, All-nil, All-cons, All-contains, Contains-append_left, Contains-append_right, All-append}
use Rattle.std.specs.List.{All, Contains}
use Rattle.std.specs.Prelude.{slice_index}
use mathlib.Core.Option.{none, some, some-ne-none, some-injective}
use lib.ListN.{get_elem?}
use prog.Atomic.{either}
use Rattle.atomic_table.proofs.Lists.{at_set, at_snoc, at_map, set_again, exchanged}
use Rattle.atomic_table.specs.Table.{Allows, step, Act, State, keeps, takes, gives, Valid, stepped, carried_after, Splits, Joins, opening}
use Rattle.shop_model.specs.rows.Limits.{stamp_limit}
use Rattle.shop_history.specs.declared.acts.Entry.{Entry}
use Rattle.shop_book.specs.Books.{BookValue}
use Rattle.shop_turn.specs.declared.rule.Origin.{Origin}
use Rattle.shop_turn.specs.declared.rule.Part.{Part}
use Rattle.shop_turn.specs.declared.rule.View.{View}
use Rattle.shop_turn.specs.Views.{opening_view, named_as, sharing, turning, gathering, held_book, looking, knowing, raising, appending, filling, giving, taking, copy, together}
use Rattle.shop_turn.specs.SpentViews.{spent_view}
use Rattle.shop_turn.specs.Rule.{PartFits, Now, HasShare, Stands, Fits, IsMarked, IsSourced, EntryFits, shelved, Holds}
use Rattle.shop_turn.specs.Laid.{AreWords, AreShares}
use Rattle.shop_turn.specs.Marks.{MarkFits}
use Rattle.shop_turn.specs.Plays.{PartTold, StampTold, IsWhole, Told, book_at, Names, Enters, Looks, Leaves, Takes, Gathers, Measures, Raises, Lifts, Appends, Fills, Gives}
use Rattle.shop_turn.proofs.Fits.{each_set, drop-all, parts_under}
use Rattle.shop_turn.proofs.Holds.{mine, number_in, held_is, stays, read_word, entered_holds, share_at_home, left_holds, looked_holds, taken_holds, given_holds, gathered_holds, filled_holds, named_holds, measured_holds, appended_holds, raised_holds, lifted_holds}
use Rattle.shop_turn.proofs.Sources.{moved, moved-from, moved-else, source_push, source_join, entries_weaker}

-- what a look tells of a book, where the view has the origin of the rule
tells : (owner : ℕ → ℕ) (named id : ℕ) (v : View) (b : BookValue) (views : List View) → get_elem? views id ≡ some v → All (PartFits b.log owner named id) (v.own ∷ v.others) → All (MarkFits b.log b.latest) v.marks → named ≤ v.origin.callers → v.origin.size ≤ length b.log
    → All (EntryFits v.origin owner named views) (drop v.origin.size b.log) → Told (taking b v)
tells owner named id v b views at parts marks few long entries = record {
  parts = All-weaker (PartFits b.log owner named id) (PartTold b.log) (λ p t. record { after = t.after; is = t.is; alone = t.alone }) (v.own ∷ v.others) parts;
  marks = marks;
  long = long;
  entries = All-weaker (EntryFits v.origin owner named views) (λ e. (1 ≤ e.caller) × (e.caller ≤ v.origin.callers)) (λ e t. (t.0, let a = t.1 in omega arith)) (drop v.origin.size b.log) entries;
  stamps = λ whole. All-weaker (EntryFits v.origin owner named views) (λ e. StampTold (taking b v) e.stamp) (λ e t. ⊎_elim (λ first. inl first) (λ m. inr (from_mark whole e m)) t.2) (drop v.origin.size b.log) entries;
}
  where
    from_mark : IsWhole (taking b v) → (e : Entry) → IsMarked owner named views e.stamp → (front : ℕ) × Contains v.marks (front, e.stamp)
    from_mark whole e m =
        let p = whole m.caller m.one (let a = m.most in omega arith) in
        let t : PartFits b.log owner named id p.0 = All-contains (PartFits b.log owner named id) (v.own ∷ v.others) p.0 parts p.1 in
        let o : owner m.caller ≡ id = ap owner (sym p.2) ∙ (t.owned (let a = m.one in let b = p.2 in omega arith)).1 in
        let is : m.view ≡ v = some-injective m.view v (sym m.there ∙ ap (get_elem? views) o ∙ at) in
        (m.front, subst (λ (u : View). Contains u.marks (m.front, e.stamp)) is m.mark)

told_by : (origin : Origin) (s : State (Option BookValue) View) (h : Holds origin s) (id : ℕ) (v : View) (at : get_elem? s.views id ≡ some v) → v.live ≡ true → v.log ≡ h.now.log → Told (taking (book_at h.now.latest v) v)
told_by origin s h id v at live log =
    let f = mine origin s h id v at in
    let K : Origin → List Entry → Type 0 = λ b l. All (PartFits l h.now.owner h.now.named id) (v.own ∷ v.others) × All (MarkFits l h.now.latest) v.marks × (h.now.named ≤ b.callers) × (b.size ≤ length l) × All (EntryFits b h.now.owner h.now.named s.views) (drop b.size l) in
    let k : K origin h.now.log = (f.parts, f.marks, h.few, h.long, h.entries) in
    let k1 : K v.origin h.now.log = subst (λ (b : Origin). K b h.now.log) (sym (f.same_origin live)) k in
    let k2 : K v.origin v.log = subst (λ (l : List Entry). K v.origin l) (sym log) k1 in
    tells h.now.owner h.now.named id v (book_at h.now.latest v) s.views at k2.0 k2.1 k2.2 k2.3 k2.4

module _ (origin : Origin) (slots id : ℕ) (v : View) (more : List (ℕ × Option BookValue)) where
  opens_as : (s : State (Option BookValue) View) (h : Holds origin s) → get_elem? s.views id ≡ some v → v.live ≡ true → origin.opening ≡ v.origin.opening
  opens_as s h at live = sym (ap (λ (x : Origin). x.opening) ((mine origin s h id v at).same_origin live))

  pub names : (old new : ℕ) → v.stage ≡ 0 → origin.size ≤ length v.own.seen → new ≡ old + 1 → new ≤ origin.callers
      → Allows (Holds origin) slots id (v, more) 3 (λ n. either (eqb n old) new n) (Names (step slots 3 old new none) (v, more))
  names old new out long next few s h wide at small =
      exchanged (slice_index s.words 3) old new (λ x. (w : View) × (a : Act (Option BookValue)) × Valid s.homes more a × Holds origin (stepped s 3 x id more w a) × Names (step slots 3 old new none) (v, more) (slice_index s.words 3) (w, carried_after more a))
      (λ hit. (named_as new v, keeps, tt, named_holds origin s h id v at new out long (let a = h.named in omega arith) few, ((λ _. refl), (λ miss. absurd (miss hit)))))
      (λ miss. (v, keeps, tt, stays origin s h id v at 3, ((λ hit. absurd (miss hit)), (λ _. refl))))

  pub enters : 1 ≤ v.own.number → v.live ≡ true → v.stage ≡ 0 → Allows (Holds origin) slots id (v, more) (16 * v.own.number) (λ n. either (eqb n 0) 1 n) (Enters (step slots (16 * v.own.number) 0 1 none) (v, more))
  enters one live out s h deep at small =
      let word : ℕ = 16 * v.own.number in let b = shelved origin h.now.log h.now.shelf in
      exchanged (slice_index s.words word) 0 1 (λ x. (w : View) × (a : Act (Option BookValue)) × Valid s.homes more a × Holds origin (stepped s word x id more w a) × Enters (step slots word 0 1 none) (v, more) (slice_index s.words word) (w, carried_after more a))
      (λ hit. (sharing b v, takes (8 * v.own.number) (Some b), (share_at_home origin s h id v at v.own.number one (number_in origin s h id v at one) hit).2, entered_holds origin s h id v at one out hit, ((λ _. (b, opens_as s h at live, refl)), (λ miss. absurd (miss hit)))))
      (λ miss. (v, keeps, tt, stays origin s h id v at word, ((λ hit. absurd (miss hit)), (λ _. refl))))

  pub looks : (settles : ℕ) → 1 ≤ v.own.number → v.live ≡ true → (v.stage ≡ 1) ⊎ (v.stage ≡ 2) → Allows (Holds origin) slots id (v, more) 1 (λ n. n) (Looks settles (step slots 1 0 0 none) (v, more))
  looks settles one live within s h deep at small =
      let m = mine origin s h id v at in
      let share : HasShare h.now v = ⊎_elim (λ (e : v.stage ≡ 1). m.place.shares e) (λ (e : v.stage ≡ 2). (m.place.turns e).2) within in (
        looking settles v,
        keeps,
        tt,
        read_word origin s h id v at 1 s.homes (looking settles v) (looked_holds origin s h id v at settles one share.0),
        (h.count ∙ ap length (sym share.0), (h.now.latest, record { after = let a = h.shelf in let b = share.1 in omega arith; bound = h.bound; known = λ e. sym (m.place.knows e).2 }, told_by origin s h id v at live share.0), refl),
      )

  pub takes_turn : 1 ≤ v.own.number → v.live ≡ true → v.stage ≡ 0 → Allows (Holds origin) slots id (v, more) 0 (λ n. either (eqb n 0) v.own.number n) (Takes (step slots 0 0 v.own.number none) (v, more))
  takes_turn one live out s h deep at small =
      let b = shelved origin h.now.log h.now.shelf in
      exchanged (slice_index s.words 0) 0 v.own.number (λ x. (w : View) × (a : Act (Option BookValue)) × Valid s.homes more a × Holds origin (stepped s 0 x id more w a) × Takes (step slots 0 0 v.own.number none) (v, more) (slice_index s.words 0) (w, carried_after more a))
      (λ hit. let nobody : h.now.turn ≡ 0 = sym h.turn ∙ hit in (turning b v, takes 0 (Some b), h.spare nobody, taken_holds origin s h id v at one out nobody, ((λ _. (b, opens_as s h at live, refl)), (λ miss. absurd (miss hit)))))
      (λ miss. (v, keeps, tt, stays origin s h id v at 0, ((λ hit. absurd (miss hit)), (λ _. refl))))

  pub gathers : 1 ≤ v.own.number → v.live ≡ true → v.stage ≡ 2 → v.gathered < origin.callers → Allows (Holds origin) slots id (v, more) (16 * (v.gathered + 1)) (λ n. either (eqb n 0) 2 n) (Gathers (step slots (16 * (v.gathered + 1)) 0 2 none) (v, more))
  gathers one live has some_left s h deep at small =
      let word : ℕ = 16 * (v.gathered + 1) in let b = shelved origin h.now.log h.now.shelf in
      exchanged (slice_index s.words word) 0 2 (λ x. (w : View) × (a : Act (Option BookValue)) × Valid s.homes more a × Holds origin (stepped s word x id more w a) × Gathers (step slots word 0 2 none) (v, more) (slice_index s.words word) (w, carried_after more a))
      (λ hit. (
        gathering v,
        takes (8 * (v.gathered + 1)) (Some b),
        (share_at_home origin s h id v at (v.gathered + 1) (omega arith) (omega arith) hit).2,
        gathered_holds origin s h id v at one has some_left hit,
        ((λ _. ap (λ (x : BookValue). (gathering v, (8 * (v.gathered + 1), Some x) ∷ more)) (sym (held_is origin s h id v at live ((mine origin s h id v at).place.turns has).2))), (λ miss. absurd (miss hit))),
      ))
      (λ miss. (v, keeps, tt, stays origin s h id v at word, ((λ hit. absurd (miss hit)), (λ _. refl))))

  pub gives_up : (b : BookValue) → slots ≡ 8 * origin.callers + 8 → 1 ≤ v.own.number → v.live ≡ true → v.stage ≡ 2 → v.gathered ≡ 0 → b ≡ held_book v → Allows (Holds origin) slots id (v, (0, Some b) ∷ more) 0 (λ _. 0) (λ _. Gives (step slots 0 0 0 none) (v, (0, Some b) ∷ more) 0)
  gives_up b size one live has back is s h deep at small = (giving v, gives, tt, given_holds origin s h id v at b one has back live is (deep ∙ size), refl)

  pub leaves : (b : BookValue) → slots ≡ 8 * origin.callers + 8 → 1 ≤ v.own.number → v.live ≡ true → v.stage ≡ 1 → b ≡ held_book v
      → Allows (Holds origin) slots id (v, (8 * v.own.number, Some b) ∷ more) (16 * v.own.number) (λ _. 0) (λ _. Leaves (step slots (16 * v.own.number) 0 0 none) (v, (8 * v.own.number, Some b) ∷ more) 0)
  leaves b size one live inside is s h deep at small = (giving v, gives, tt, left_holds origin s h id v at b one inside live is (deep ∙ size), refl)

  pub fills : (b : BookValue) → slots ≡ 8 * origin.callers + 8 → 1 ≤ v.own.number → v.live ≡ true → v.stage ≡ 2 → 0 < v.gathered → b ≡ held_book v
      → Allows (Holds origin) slots id (v, (8 * v.gathered, Some b) ∷ more) (16 * v.gathered) (λ _. 0) (λ _. Fills (step slots (16 * v.gathered) 0 0 none) (v, (8 * v.gathered, Some b) ∷ more) 0)
  fills b size one live has some_share is s h deep at small = (filling v, gives, tt, filled_holds origin s h id v at b one has some_share live is (deep ∙ size), refl)

  pub appends : (b : BookValue) (e : Entry) (k : ℕ) → 1 ≤ v.own.number → v.knows ≡ true → v.others ≡ [] → b.log ≡ v.log ++ e ∷ [] → e.caller ≡ v.own.number → e.stamp ≡ v.latest → length v.log + 1 < 2 ^ 64
      → Allows (Holds origin) slots id (v, (k, Some b) ∷ more) 1 (λ n. (n + 1) % 2 ^ 64) (Appends (step slots 1 1 0 none) (v, (k, Some b) ∷ more))
  appends b e k one whole single is caller stamp room s h deep at small =
      let m = mine origin s h id v at in
      let log : v.log ≡ h.now.log = (m.place.turns (m.place.knows whole).0).2.0 in
      let count : slice_index s.words 1 ≡ length h.now.log = h.count in
      let less : slice_index s.words 1 + 1 < 2 ^ 64 = let a = ap length log in omega arith in
      (appending b.log v, keeps, tt, appended_holds origin s h id v at e b.log ((slice_index s.words 1 + 1) % 2 ^ 64) one whole single is caller stamp (mod-eq_of_lt less ∙ ap (λ n. n + 1) count), refl)

  pub measures : 1 ≤ v.own.number → v.stage ≡ 2 → v.gathered ≡ origin.callers → Allows (Holds origin) slots id (v, more) 2 (λ m. m) (Measures (step slots 2 0 0 none) (v, more))
  measures one has all s h deep at small =
      let same : h.now.latest ≡ slice_index s.words 2 = sym h.latest in
      let m = mine origin s h id v at in let share = (m.place.turns has).2 in
      let marks : All (MarkFits v.log (slice_index s.words 2)) v.marks = subst (λ (l : List Entry). All (MarkFits l (slice_index s.words 2)) v.marks) (sym share.0) (subst (λ (k : ℕ). All (MarkFits h.now.log k) v.marks) (sym h.latest) m.marks) in (
        knowing (slice_index s.words 2) v,
        keeps,
        tt,
        read_word origin s h id v at 2 s.homes (knowing (slice_index s.words 2) v) (subst (λ (k : ℕ). Holds origin record { words = s.words; homes = s.homes; views = set s.views id (knowing k v) }) same (measured_holds origin s h id v at one has all)),
        (let a = h.shelf in let b = share.1 in omega arith, let a = h.bound in omega arith, refl, marks),
      )

  pub raises : (t : ℕ) → t ≤ stamp_limit → 1 ≤ v.own.number → v.stage ≡ 1 → Allows (Holds origin) slots id (v, more) 2 (λ n. max n t) (Raises (step slots 2 t 0 none) (v, more))
  raises t low_enough one inside s h deep at small =
      let m = mine origin s h id v at in let share = m.place.shares inside in
      let marks : All (MarkFits v.log (slice_index s.words 2)) v.marks = subst (λ (l : List Entry). All (MarkFits l (slice_index s.words 2)) v.marks) (sym share.0) (subst (λ (k : ℕ). All (MarkFits h.now.log k) v.marks) (sym h.latest) m.marks) in
      (raising t v, keeps, tt, raised_holds origin s h id v at t low_enough one inside, (marks, let a = h.shelf in let b = share.1 in let c = h.latest in omega arith, let a = h.bound in let c = h.latest in omega arith, refl))

  pub lifts : (t : ℕ) → t ≤ stamp_limit → 1 ≤ v.own.number → v.knows ≡ true → Allows (Holds origin) slots id (v, more) 2 (λ n. max n t) (Lifts (step slots 2 t 0 none) (v, more))
  lifts t low_enough one whole s h deep at small =
      (knowing (max v.latest t) (raising t v), keeps, tt, lifted_holds origin s h id v at t low_enough one whole, refl)

-- a seat without a number is not in the shop
out_of_shop : (origin : Origin) (now : Now) (v : View) → v.own.number ≡ 0 → v.stage ≡ 0 → v.knows ≡ false → Stands origin now v
out_of_shop origin now v unnamed out blind = record {
  idle = λ _. out;
  stands = λ z. absurd (omega arith);
  stays_out = λ z. absurd (omega arith);
  shares = λ e. absurd (omega arith);
  turns = λ e. absurd (omega arith);
  knows = λ e. absurd (true≢false (sym e ∙ blind));
}

-- a seat stands as before, where other seats own the numbers
owned_else : (origin : Origin) (now : Now) (owner : ℕ → ℕ) (v : View) (others : List Part) (marks : List (ℕ × ℕ)) → Stands origin now v → Stands origin (record now { owner = owner }) (record v { others = others; marks = marks })
owned_else origin now owner v others marks p = record { idle = p.idle; stands = p.stands; stays_out = p.stays_out; shares = p.shares; turns = p.turns; knows = p.knows }

module _ (origin : Origin) where
  -- a new seat that knows what this one has seen
  pub splits : (id : ℕ) (v : View) → Splits (Holds origin) id v v (copy v)
  splits id v s h at =
      let views : List View = s.views in
      let one : All (PartFits h.now.log h.now.owner h.now.named id) (v.own ∷ v.others) = (h.fits id v at).parts in
      let own : PartFits h.now.log h.now.owner h.now.named id v.own = All-head (PartFits h.now.log h.now.owner h.now.named id) v.own v.others one in
      subst (λ vs. Holds origin record { words = s.words; homes = s.homes; views = vs ++ copy v ∷ [] }) (sym (set_again views id v at)) (record {
        now = h.now;
        wide = h.wide;
        turn = h.turn;
        count = h.count;
        latest = h.latest;
        named = h.named;
        free = h.free;
        spare = h.spare;
        most = h.most;
        unnamed = h.unnamed;
        callers = h.callers;
        shelf = h.shelf;
        bound = h.bound;
        fits = λ by u e. ⊎_elim (λ (was : get_elem? views by ≡ some u). h.fits by u was)
            (λ (same : copy v ≡ u). subst (Fits origin h.now by) same (record {
              same_origin = (h.fits id v at).same_origin;
              parts = All-cons (PartFits h.now.log h.now.owner h.now.named by) (copy v).own [] (record { after = own.after; is = own.is; alone = λ c. absurd (omega arith); owned = λ c. absurd (omega arith) }) (All-nil (PartFits h.now.log h.now.owner h.now.named by));
              marks = All-nil (MarkFits h.now.log h.now.latest);
              place = out_of_shop origin h.now (copy v) refl refl refl;
            }))
            (at_snoc views (copy v) u by e);
        few = h.few;
        long = h.long;
        entries = entries_weaker origin h.now.owner h.now.owner h.now.named h.now.named views (views ++ copy v ∷ []) (drop origin.size h.now.log) (omega arith) (source_push origin h.now.owner h.now.named views (copy v)) h.entries;
        source = source_push origin h.now.owner h.now.named views (copy v) h.now.latest h.source;
      })

  -- this seat has what the other had
  pub joins : (id : ℕ) (v : View) (other : ℕ) (w : View) → Joins (Holds origin) id v other w (together v w) spent_view
  joins id v other w s h at apart there' =
      let views : List View = s.views in
      let both : View = together v w in
      let back : id ≢ other = λ e. apart (sym e) in
      let there : get_elem? views other ≡ some w = ⊎_elim (λ (t : (other ≡ id) × (both ≡ w)). absurd (apart t.0)) (λ (t : (other ≢ id) × (get_elem? views other ≡ some w)). t.1) (at_set views id other both w there') in
      let owner : ℕ → ℕ = moved h.now.owner other id in
      let f : Fits origin h.now id v = h.fits id v at in
      let g : Fits origin h.now other w = h.fits other w there in
      let level : h.now.named ≤ h.now.named = omega arith in
      let go : (m : ℕ) → IsSourced origin h.now.owner h.now.named views m → IsSourced origin owner h.now.named (set (set views id both) other spent_view) m =
      source_join origin h.now.owner h.now.named views id other v w both spent_view at there back (λ x c. Contains-append_left v.marks w.marks x c) (λ x c. Contains-append_right v.marks w.marks x c) in
      let left : All (PartFits h.now.log owner h.now.named id) (v.own ∷ v.others) = parts_under h.now.log h.now.owner owner h.now.named h.now.named id id (v.own ∷ v.others) level (λ c one most is. moved-else h.now.owner other id c (λ e. back (sym is ∙ e)) ∙ is) f.parts in
      let right : All (PartFits h.now.log owner h.now.named id) (w.own ∷ w.others) = parts_under h.now.log h.now.owner owner h.now.named h.now.named other id (w.own ∷ w.others) level (λ c one most is. moved-from h.now.owner other id c is) g.parts in
      let now : Now = record h.now { owner = owner } in
      record {
        now = now;
        wide = h.wide;
        turn = h.turn;
        count = h.count;
        latest = h.latest;
        named = h.named;
        free = h.free;
        spare = h.spare;
        most = h.most;
        unnamed = h.unnamed;
        callers = λ c low high. let k = h.callers c low high in record { home = k.home; inside = k.inside; taken = k.taken };
        shelf = h.shelf;
        bound = h.bound;
        fits = each_set (λ by u. by ≢ other → Fits origin now by u) (Fits origin now) (set views id both) other spent_view
            (each_set (Fits origin h.now) (λ by u. by ≢ other → Fits origin now by u) views id both h.fits
            (λ by u no_id t no_other. record { same_origin = t.same_origin; parts = parts_under h.now.log h.now.owner owner h.now.named h.now.named by by (u.own ∷ u.others) level (λ c one most is. moved-else h.now.owner other id c (λ e. no_other (sym is ∙ e)) ∙ is) t.parts; marks = t.marks; place = owned_else origin h.now owner u u.others u.marks t.place })
            (λ _. record { same_origin = f.same_origin; parts = All-append (PartFits h.now.log owner h.now.named id) (v.own ∷ v.others) (w.own ∷ w.others) left right; marks = All-append (MarkFits h.now.log h.now.latest) v.marks w.marks f.marks g.marks; place = owned_else origin h.now owner v both.others both.marks f.place }))
            (λ by u no_other t. t no_other)
            (record {
              same_origin = λ live. absurd (true≢false (sym live));
              parts = All-cons (PartFits h.now.log owner h.now.named other) spent_view.own [] (record { after = h.now.log; is = refl; alone = λ c. absurd (omega arith); owned = λ c. absurd (omega arith) }) (All-nil (PartFits h.now.log owner h.now.named other));
              marks = All-nil (MarkFits h.now.log h.now.latest);
              place = out_of_shop origin now spent_view refl refl refl;
            });
        few = h.few;
        long = h.long;
        entries = entries_weaker origin h.now.owner owner h.now.named h.now.named views (set (set views id both) other spent_view) (drop origin.size h.now.log) level go h.entries;
        source = go h.now.latest h.source;
      }

-- the table at the start, which has a share for each caller
pub begins : (b : BookValue) (callers : ℕ) (words : List ℕ) (slots : List (Option BookValue)) → b.latest ≤ stamp_limit → AreWords b callers words → AreShares b callers slots → Holds (opening_view b callers).origin (opening words slots (opening_view b callers))
begins b callers words slots low_enough k shares =
    let v : View = opening_view b callers in
    let now : Now = record { log = b.log; owner = λ c. 0; turn = 0; latest = b.latest; named = 0; gathered = 0; stage = λ c. 0; shelf = b.latest } in
    record {
      now = now;
      wide = k.wide;
      turn = k.turn;
      count = k.count;
      latest = k.latest;
      named = k.named;
      free = λ _. refl;
      spare = λ _. at_map some slots 0 (Some b) (shares.share 0 (omega arith));
      most = omega arith;
      unnamed = λ c late. refl;
      callers = λ c low high. record { home = λ _ late. (k.outside c low high, at_map some slots (8 * c) (Some b) (shares.share c high)); inside = λ z. absurd (omega arith); taken = λ le. absurd (omega arith) };
      shelf = omega arith;
      bound = low_enough;
      fits = λ by u e. ⊎_elim (λ (t : get_elem? [] by ≡ some u). absurd (some-ne-none u (sym (sym (nothing_at by u) ∙ t))))
          (λ (same : v ≡ u). subst (Fits v.origin now by) same (record {
            same_origin = λ _. refl;
            parts = All-cons (PartFits b.log (λ c. 0) 0 by) v.own [] (record { after = []; is = sym (append-nil b.log); alone = λ c. absurd (omega arith); owned = λ c. absurd (omega arith) }) (All-nil (PartFits b.log (λ c. 0) 0 by));
            marks = All-nil (MarkFits b.log b.latest);
            place = out_of_shop v.origin now v refl refl refl;
          }))
          (at_snoc [] v u by e);
      few = omega arith;
      long = omega arith;
      entries = subst (All (EntryFits v.origin (λ c. 0) 0 (v ∷ []))) (sym (drop-all b.log)) (All-nil (EntryFits v.origin (λ c. 0) 0 (v ∷ [])));
      source = inl refl;
    }
  where
    nothing_at : (by : ℕ) (u : View) → get_elem? {A = View} [] by ≡ none
    nothing_at zero u = refl
    nothing_at (suc by) u = refl

pub begins_as : (b b' share : BookValue) (callers callers' : ℕ) (words words' : List ℕ) (slots : List (Option BookValue)) → b' ≡ b → callers' ≡ callers → words' ≡ words → share ≡ b → b.latest ≤ stamp_limit → AreWords b callers words → AreShares share callers slots
    → Holds (opening_view b' callers').origin (opening words' slots (opening_view b' callers'))
begins_as b b' share callers callers' words words' slots eb ec ew es low_enough k shares =
    subst (λ (x : BookValue). Holds (opening_view x callers').origin (opening words' slots (opening_view x callers'))) (sym eb)
    (subst (λ n. Holds (opening_view b n).origin (opening words' slots (opening_view b n))) (sym ec)
    (subst (λ (ws : List ℕ). Holds (opening_view b callers).origin (opening ws slots (opening_view b callers))) (sym ew) (begins b callers words slots low_enough k (subst (λ (x : BookValue). AreShares x callers slots) es shares))))
