-- The rule holds after each change.
use Rattle.std.proofs.Common.{◌≡◌, ◌≢◌, ℕ, ◌+◌, ◌-◌, ◌*◌, ◌≤◌, ◌<◌, List, [], ◌∷◌, ◌++◌, length, max, Option, Some, true, sym, subst, arith, ◌∙◌, ap, refl, inr, zero, suc, set, drop, get_or, length-set, length-append, get_or-set_other, get_or-set_same}
use Rattle.std.proofs.lemmas.Bool.{true≢false}
use Rattle.std.proofs.lemmas.List.{append-nil, drop-append-le, set-get_or}
use Rattle.std.proofs.lemmas.List.Elements.{All-weaker, All-push, All-nil, All-cons, All-tail, Contains-append_left, Contains-push}
use Rattle.std.specs.List.{All, Contains}
use mathlib.Core.Logic.{dite}
use mathlib.Core.Option.{none, some}
use mathlib.Core.Option as maybe
use native.Mathlib.Decide.{dec_le, ℕ_discrete}
use lib.ListN.{get_elem?}
use Rattle.atomic_table.proofs.Lists.{set_again, set_here, set_else}
use Rattle.atomic_table.specs.Table.{State}
use Rattle.shop_model.specs.rows.Limits.{stamp_limit}
use Rattle.shop_history.specs.declared.acts.Entry.{Entry}
use Rattle.shop_book.specs.Books.{BookValue}
use Rattle.shop_turn.specs.declared.rule.Origin.{Origin}
use Rattle.shop_turn.specs.declared.rule.View.{View}
use Rattle.shop_turn.specs.Views.{named_as, sharing, turning, gathering, held_book, looking, knowing, raising, appending, filling, giving}
use Rattle.shop_turn.specs.Rule.{PartFits, Now, Homes, CallerFits, HasShare, Stands, Fits, IsSourced, EntryFits, shelved, a_share, Holds}
use Rattle.shop_turn.specs.Marks.{MarkFits}
use Rattle.shop_turn.proofs.Fits.{each_set, drop-all, own_of, not_one, part_push, mark_push, parts_under, same_caller}
use Rattle.shop_turn.proofs.Sources.{at_here, given, given-at, given-else, source_set, entries_weaker}

all_after : {X : Type 0} (P : X → Type 0) (n : ℕ) (xs ys : List X) → n ≤ length xs → All P (drop n (xs ++ ys)) → All P ys
all_after P zero [] ys h a = a
all_after P zero (x ∷ xs) ys h a = all_after P zero xs ys (omega arith) (All-tail P x (xs ++ ys) a)
all_after P (suc n) [] ys h a = absurd (omega arith)
all_after P (suc n) (x ∷ xs) ys h a = all_after P n xs ys (omega arith) a

larger : (P : ℕ → Type 0) (a b : ℕ) → P a → P b → P (max a b)
larger P a b p q = dite (dec_le a b) (λ le. subst P (let e : b ≡ max a b = omega arith in e) q) (λ ne. subst P (let e : a ≡ max a b = omega arith in e) p)

module _ (origin : Origin) (s : State (Option BookValue) View) (h : Holds origin s) (id : ℕ) (v : View) (at : get_elem? s.views id ≡ some v) where
  pub mine : Fits origin h.now id v
  mine = h.fits id v at

  own_part : PartFits h.now.log h.now.owner h.now.named id v.own
  own_part = own_of origin h.now id v mine

  other_parts : All (PartFits h.now.log h.now.owner h.now.named id) v.others
  other_parts = All-tail (PartFits h.now.log h.now.owner h.now.named id) v.own v.others mine.parts

  pub number_in : 1 ≤ v.own.number → v.own.number ≤ origin.callers
  number_in one = let a = (own_part.owned one).0 in let b = h.few in omega arith

  my_caller : 1 ≤ v.own.number → CallerFits origin h.now s.words s.homes v.own.number
  my_caller one = h.callers v.own.number one (number_in one)

  -- another seat's number is another
  apart : (by : ℕ) (u : View) → by ≢ id → Fits origin h.now by u → 1 ≤ u.own.number → 1 ≤ v.own.number → u.own.number ≢ v.own.number
  apart by u other f = not_one origin h.now by id u v f mine other

  -- no other seat has the turn, where nobody has it, or this one
  none_else : h.now.turn ≡ 0 → (by : ℕ) (u : View) → by ≢ id → Fits origin h.now by u → u.stage ≡ 2 → ⊥
  none_else nobody by u other f e = let a = (f.place.turns e).0 in let b : u.own.number ≡ 0 = omega arith in let c = f.place.idle b in omega arith

  alone : 1 ≤ v.own.number → v.stage ≡ 2 → (by : ℕ) (u : View) → by ≢ id → Fits origin h.now by u → u.stage ≡ 2 → ⊥
  alone one has by u other f e =
      let a = (f.place.turns e).0 in let b = (mine.place.turns has).0 in
      let same : u.own.number ≡ v.own.number = sym a ∙ b in
      apart by u other f (omega arith) one same

  -- no other seat is inside, where this one has every share
  none_inside : origin.callers ≤ h.now.gathered → (by : ℕ) (u : View) → Fits origin h.now by u → u.stage ≡ 1 → ⊥
  none_inside all by u f e =
      let one : 1 ≤ u.own.number = dite (ℕ_discrete u.own.number 0) (λ (z : u.own.number ≡ 0). let a = f.place.idle z in absurd (omega arith)) (λ (nz : u.own.number ≢ 0). omega arith) in
      let o = ((own_of origin h.now by u f).owned one).0 in let few = h.few in
      let b = f.place.stands one (omega arith) in let late = ((h.callers u.own.number one (omega arith)).inside (omega arith)).1 in
      omega arith

  -- the shares of this seat are of the book that is shared
  pub held_is : v.live ≡ true → HasShare h.now v → held_book v ≡ shelved origin h.now.log h.now.shelf
  held_is live share = λ i. record { opening = (mine.same_origin live i).opening; log = share.0 i; latest = share.1 i }

  -- a step that changes nothing
  pub stays : (i : ℕ) → Holds origin record { words = set s.words i (get_or s.words i 0); homes = s.homes; views = set s.views id v }
  stays i = subst (λ ws. Holds origin record { words = ws; homes = s.homes; views = set s.views id v }) (sym (set-get_or s.words i 0)) (subst (λ vs. Holds origin record { words = s.words; homes = s.homes; views = vs }) (sym (set_again s.views id v at)) h)

  pub read_word : (i : ℕ) (homes' : Homes) (w : View) → Holds origin record { words = s.words; homes = homes'; views = set s.views id w } → Holds origin record { words = set s.words i (get_or s.words i 0); homes = homes'; views = set s.views id w }
  read_word i homes' w = subst (λ ws. Holds origin record { words = ws; homes = homes'; views = set s.views id w }) (sym (set-get_or s.words i 0))

  -- the entries and the latest stamp have their sources, where the view w has all marks of v
  module _ (w : View) (more : (x : ℕ × ℕ) → Contains v.marks x → Contains w.marks x) (owner : ℕ → ℕ) (named : ℕ) (le : h.now.named ≤ named) (same : (c : ℕ) → c ≤ h.now.named → owner c ≡ h.now.owner c) where
    source_as : (m : ℕ) → IsSourced origin h.now.owner h.now.named s.views m → IsSourced origin owner named (set s.views id w) m
    source_as = source_set origin h.now.owner owner h.now.named named s.views id v w at more le same

    entries_as : All (EntryFits origin owner named (set s.views id w)) (drop origin.size h.now.log)
    entries_as = entries_weaker origin h.now.owner owner h.now.named named s.views (set s.views id w) (drop origin.size h.now.log) le source_as h.entries

  same_owner : (c : ℕ) → c ≤ h.now.named → h.now.owner c ≡ h.now.owner c
  same_owner c le = refl

  level : h.now.named ≤ h.now.named
  level = omega arith

  abbrev standing : ℕ → ℕ → (ℕ → ℕ) → Now
  standing turn gathered stage = record h.now { turn = turn; gathered = gathered; stage = stage }

  -- who has the turn changes, how many shares that one has, or how a caller stands
  stood_holds : (turn gathered : ℕ) (stage : ℕ → ℕ) (words' : List ℕ) (homes' : Homes) (w : View) → ((x : ℕ × ℕ) → Contains v.marks x → Contains w.marks x) → length words' ≡ length s.words
      → get_or words' 0 0 ≡ turn → ((j : ℕ) → 1 ≤ j → j < 4 → get_or words' j 0 ≡ get_or s.words j 0) → (turn ≡ 0 → gathered ≡ 0) → (turn ≡ 0 → get_elem? homes' 0 ≡ some (a_share origin h.now)) → gathered ≤ origin.callers → ((c : ℕ) → h.now.named < c → stage c ≡ 0)
      → ((c : ℕ) → 1 ≤ c → c ≤ origin.callers → CallerFits origin (standing turn gathered stage) words' homes' c)
      → ((by : ℕ) (u : View) → by ≢ id → Fits origin h.now by u → Stands origin (standing turn gathered stage) u) → Fits origin (standing turn gathered stage) id w → Holds origin record { words = words'; homes = homes'; views = set s.views id w }
  stood_holds turn gathered stage words' homes' w more len first word free spare most unnamed each others fit = record {
    now = standing turn gathered stage;
    wide = len ∙ h.wide;
    turn = first;
    count = word 1 (omega arith) (omega arith) ∙ h.count;
    latest = word 2 (omega arith) (omega arith) ∙ h.latest;
    named = word 3 (omega arith) (omega arith) ∙ h.named;
    free = free;
    spare = spare;
    most = most;
    unnamed = unnamed;
    callers = each;
    shelf = h.shelf;
    bound = h.bound;
    fits = each_set (Fits origin h.now) (Fits origin (standing turn gathered stage)) s.views id w h.fits (λ by u other f. record { same_origin = f.same_origin; parts = f.parts; marks = f.marks; place = others by u other f }) fit;
    few = h.few;
    long = h.long;
    entries = entries_as w more h.now.owner h.now.named level same_owner;
    source = source_as w more h.now.owner h.now.named level same_owner h.now.latest h.source;
  }

  abbrev at_stage : ℕ → Now
  at_stage t = standing h.now.turn h.now.gathered (given h.now.stage v.own.number t)

  -- the stage of this seat's caller becomes t
  moved_holds : (t : ℕ) (words' : List ℕ) (homes' : Homes) (w : View) → ((x : ℕ × ℕ) → Contains v.marks x → Contains w.marks x) → 1 ≤ v.own.number → length words' ≡ length s.words
      → ((j : ℕ) → j ≢ 16 * v.own.number → get_or words' j 0 ≡ get_or s.words j 0) → ((j : ℕ) → j ≢ 8 * v.own.number → get_elem? homes' j ≡ get_elem? s.homes j)
      → CallerFits origin (at_stage t) words' homes' v.own.number → Fits origin (at_stage t) id w → Holds origin record { words = words'; homes = homes'; views = set s.views id w }
  moved_holds t words' homes' w more one len word slot own =
      stood_holds h.now.turn h.now.gathered (given h.now.stage v.own.number t) words' homes' w more len (word 0 (λ e. omega arith) ∙ h.turn) (λ j some_j few. word j (λ e. omega arith)) h.free (λ z. slot 0 (λ e. omega arith) ∙ h.spare z) h.most
      (λ c late. given-else h.now.stage v.own.number t c (λ e. let a = (own_part.owned one).0 in omega arith) ∙ h.unnamed c late)
      (λ c low high. dite (ℕ_discrete c v.own.number)
      (λ (e : c ≡ v.own.number). subst (CallerFits origin (at_stage t) words' homes') (sym e) own)
      (λ (ne : c ≢ v.own.number). same_caller origin h.now (at_stage t) s.words words' s.homes homes' c refl refl (given-else h.now.stage v.own.number t c ne) refl (word (16 * c) (λ e. ne (omega arith))) (slot (8 * c) (λ e. ne (omega arith))) (h.callers c low high)))
      (λ by u other f. record {
        idle = f.place.idle;
        stands = λ some_number low. given-else h.now.stage v.own.number t u.own.number (apart by u other f some_number one) ∙ f.place.stands some_number low;
        stays_out = λ some_number e. given-else h.now.stage v.own.number t u.own.number (apart by u other f some_number one) ∙ f.place.stays_out some_number e;
        shares = f.place.shares;
        turns = f.place.turns;
        knows = f.place.knows;
      })

  -- a caller whose word says that nobody has its share
  pub share_at_home : (c : ℕ) → 1 ≤ c → c ≤ origin.callers → get_or s.words (16 * c) 0 ≡ 0 → (h.now.stage c ≡ 0) × (h.now.gathered < c) × (get_elem? s.homes (8 * c) ≡ some (a_share origin h.now))
  share_at_home c one high word =
      let k = h.callers c one high in
      let out : h.now.stage c ≡ 0 = dite (ℕ_discrete (h.now.stage c) 0) (λ (z : h.now.stage c ≡ 0). z) (λ (nz : h.now.stage c ≢ 0). let i = (k.inside (omega arith)).0 in absurd (omega arith)) in
      let late : h.now.gathered < c = dite (dec_le c h.now.gathered) (λ (le : c ≤ h.now.gathered). let t = k.taken le in absurd (omega arith)) (λ ne. omega arith) in
      (out, late, (k.home out late).1)

  -- inside, with the share
  pub entered_holds : 1 ≤ v.own.number → v.stage ≡ 0 → get_or s.words (16 * v.own.number) 0 ≡ 0
      → Holds origin record { words = set s.words (16 * v.own.number) 1; homes = set s.homes (8 * v.own.number) none; views = set s.views id (sharing (shelved origin h.now.log h.now.shelf) v) }
  entered_holds one out word =
      let m = mine in let here = given-at h.now.stage v.own.number 1 in let high = number_in one in let wide = h.wide in
      let there = share_at_home v.own.number one high word in let late = there.1 in
      moved_holds 1 (set s.words (16 * v.own.number) 1) (set s.homes (8 * v.own.number) none) (sharing (shelved origin h.now.log h.now.shelf) v) (λ x c. c) one (length-set s.words (16 * v.own.number) 1) (λ j ne. get_or-set_other s.words (16 * v.own.number) j 1 0 ne) (λ j ne. set_else s.homes (8 * v.own.number) j none ne)
      (record {
        home = λ z. absurd (omega arith);
        inside = λ z. (get_or-set_same s.words (16 * v.own.number) 1 0 (omega arith), late);
        taken = λ le. absurd (omega arith);
      })
      (record {
        same_origin = m.same_origin;
        parts = m.parts;
        marks = m.marks;
        place = record {
          idle = λ z. absurd (omega arith);
          stands = λ z low. here;
          stays_out = λ z e. absurd (omega arith);
          shares = λ e. (refl, refl);
          turns = λ e. absurd (omega arith);
          knows = λ e. let a = (m.place.knows e).0 in absurd (omega arith);
        };
      })

  -- out again, with the share back
  pub left_holds : (b : BookValue) → 1 ≤ v.own.number → v.stage ≡ 1 → v.live ≡ true → b ≡ held_book v → length s.homes ≡ 8 * origin.callers + 8
      → Holds origin record { words = set s.words (16 * v.own.number) 0; homes = set s.homes (8 * v.own.number) (some (Some b)); views = set s.views id (giving v) }
  left_holds b one inside live is deep =
      let k = my_caller one in let m = mine in let here = given-at h.now.stage v.own.number 0 in let high = number_in one in let wide = h.wide in
      let was : h.now.stage v.own.number ≡ 1 = m.place.stands one (omega arith) ∙ inside in
      let same : b ≡ shelved origin h.now.log h.now.shelf = is ∙ held_is live (m.place.shares inside) in
      moved_holds 0 (set s.words (16 * v.own.number) 0) (set s.homes (8 * v.own.number) (some (Some b))) (giving v) (λ x c. c) one (length-set s.words (16 * v.own.number) 0) (λ j ne. get_or-set_other s.words (16 * v.own.number) j 0 0 ne) (λ j ne. set_else s.homes (8 * v.own.number) j (some (Some b)) ne)
      (record {
        home = λ z late. (get_or-set_same s.words (16 * v.own.number) 0 0 (omega arith), set_here s.homes (8 * v.own.number) (some (Some b)) (omega arith) ∙ ap (λ (x : BookValue). some (some (Some x))) same);
        inside = λ z. absurd (omega arith);
        taken = λ le. let late = (k.inside (omega arith)).1 in absurd (omega arith);
      })
      (record {
        same_origin = m.same_origin;
        parts = m.parts;
        marks = m.marks;
        place = record {
          idle = λ z. refl;
          stands = λ z low. here;
          stays_out = λ z e. absurd (omega arith);
          shares = λ e. absurd (omega arith);
          turns = λ e. absurd (omega arith);
          knows = λ e. absurd (true≢false (sym e));
        };
      })

  -- all of the log is seen
  pub looked_holds : (n : ℕ) → 1 ≤ v.own.number → v.log ≡ h.now.log → Holds origin record { words = s.words; homes = s.homes; views = set s.views id (looking n v) }
  looked_holds n one whole =
      let w = looking n v in let m = mine in
      record {
        now = h.now;
        wide = h.wide;
        turn = h.turn;
        count = h.count;
        latest = h.latest;
        named = h.named;
        free = h.free;
        spare = h.spare;
        most = h.most;
        unnamed = h.unnamed;
        callers = h.callers;
        shelf = h.shelf;
        bound = h.bound;
        fits = each_set (Fits origin h.now) (Fits origin h.now) s.views id w h.fits (λ by u _ f. f)
            (record {
              same_origin = m.same_origin;
              parts = All-cons (PartFits h.now.log h.now.owner h.now.named id) w.own [] (record { after = []; is = sym whole ∙ sym (append-nil v.log); alone = λ _. All-nil (λ e. e.caller ≢ v.own.number); owned = own_part.owned }) (All-nil (PartFits h.now.log h.now.owner h.now.named id));
              marks = m.marks;
              place = record { idle = m.place.idle; stands = m.place.stands; stays_out = m.place.stays_out; shares = m.place.shares; turns = m.place.turns; knows = m.place.knows };
            });
        few = h.few;
        long = h.long;
        entries = entries_as w (λ x c. c) h.now.owner h.now.named level same_owner;
        source = source_as w (λ x c. c) h.now.owner h.now.named level same_owner h.now.latest h.source;
      }

  abbrev with_turn : ℕ → ℕ → Now
  with_turn turn gathered = standing turn gathered h.now.stage

  -- who has the turn changes, or how many shares that one has
  turned_holds : (turn gathered : ℕ) (words' : List ℕ) (homes' : Homes) (w : View) → ((x : ℕ × ℕ) → Contains v.marks x → Contains w.marks x) → ((by : ℕ) (u : View) → by ≢ id → Fits origin h.now by u → u.stage ≡ 2 → ⊥)
      → length words' ≡ length s.words → get_or words' 0 0 ≡ turn → ((j : ℕ) → 1 ≤ j → j < 4 → get_or words' j 0 ≡ get_or s.words j 0) → (turn ≡ 0 → gathered ≡ 0) → (turn ≡ 0 → get_elem? homes' 0 ≡ some (a_share origin h.now)) → gathered ≤ origin.callers
      → ((c : ℕ) → 1 ≤ c → c ≤ origin.callers → CallerFits origin (with_turn turn gathered) words' homes' c) → Fits origin (with_turn turn gathered) id w → Holds origin record { words = words'; homes = homes'; views = set s.views id w }
  turned_holds turn gathered words' homes' w more nobody len first word free spare most each =
      stood_holds turn gathered h.now.stage words' homes' w more len first word free spare most h.unnamed each
      (λ by u other f. record {
        idle = f.place.idle;
        stands = f.place.stands;
        stays_out = f.place.stays_out;
        shares = f.place.shares;
        turns = λ e. absurd (nobody by u other f e);
        knows = λ e. absurd (nobody by u other f (f.place.knows e).0);
      })

  -- the word of the turn changes, and its slot
  passed_holds : (turn : ℕ) (home : maybe.Option (Option BookValue)) (w : View) → ((x : ℕ × ℕ) → Contains v.marks x → Contains w.marks x) → ((by : ℕ) (u : View) → by ≢ id → Fits origin h.now by u → u.stage ≡ 2 → ⊥)
      → h.now.gathered ≡ 0 → (turn ≡ 0 → get_elem? (set s.homes 0 home) 0 ≡ some (a_share origin h.now)) → Fits origin (with_turn turn h.now.gathered) id w → Holds origin record { words = set s.words 0 turn; homes = set s.homes 0 home; views = set s.views id w }
  passed_holds turn home w more nobody none_yet spare fit =
      let wide = h.wide in
      turned_holds turn h.now.gathered (set s.words 0 turn) (set s.homes 0 home) w more nobody (length-set s.words 0 turn) (get_or-set_same s.words 0 turn 0 (omega arith)) (λ j some_j few. get_or-set_other s.words 0 j turn 0 (λ e. omega arith)) (λ z. none_yet) spare h.most
      (λ c low high. same_caller origin h.now (with_turn turn h.now.gathered) s.words (set s.words 0 turn) s.homes (set s.homes 0 home) c refl refl refl refl (get_or-set_other s.words 0 (16 * c) turn 0 (λ e. omega arith)) (set_else s.homes 0 (8 * c) home (λ e. omega arith)) (h.callers c low high))
      fit

  pub taken_holds : 1 ≤ v.own.number → v.stage ≡ 0 → h.now.turn ≡ 0
      → Holds origin record { words = set s.words 0 v.own.number; homes = set s.homes 0 none; views = set s.views id (turning (shelved origin h.now.log h.now.shelf) v) }
  taken_holds one out nobody =
      let m = mine in let none_yet = h.free nobody in
      passed_holds v.own.number none (turning (shelved origin h.now.log h.now.shelf) v) (λ x c. c) (none_else nobody) none_yet (λ z. absurd (omega arith))
      (record {
        same_origin = m.same_origin;
        parts = m.parts;
        marks = m.marks;
        place = record {
          idle = λ z. absurd (omega arith);
          stands = λ z low. absurd (omega arith);
          stays_out = λ z e. m.place.stands one (omega arith) ∙ out;
          shares = λ e. absurd (omega arith);
          turns = λ e. (refl, none_yet, (refl, refl));
          knows = λ e. absurd (true≢false (sym e));
        };
      })

  pub given_holds : (b : BookValue) → 1 ≤ v.own.number → v.stage ≡ 2 → v.gathered ≡ 0 → v.live ≡ true → b ≡ held_book v → length s.homes ≡ 8 * origin.callers + 8
      → Holds origin record { words = set s.words 0 0; homes = set s.homes 0 (some (Some b)); views = set s.views id (giving v) }
  given_holds b one has back live is deep =
      let m = mine in let t = m.place.turns has in
      let full : b ≡ shelved origin h.now.log h.now.shelf = is ∙ held_is live t.2 in
      passed_holds 0 (some (Some b)) (giving v) (λ x c. c) (alone one has) (t.1 ∙ back) (λ z. set_here s.homes 0 (some (Some b)) (omega arith) ∙ ap (λ (x : BookValue). some (some (Some x))) full)
      (record {
        same_origin = m.same_origin;
        parts = m.parts;
        marks = m.marks;
        place = record {
          idle = λ z. refl;
          stands = λ z low. m.place.stays_out one has;
          stays_out = λ z e. absurd (omega arith);
          shares = λ e. absurd (omega arith);
          turns = λ e. absurd (omega arith);
          knows = λ e. absurd (true≢false (sym e));
        };
      })

  -- another caller stands as before, when the one with the turn takes the share of the caller c, or gives it back
  other_caller : (gathered c word : ℕ) (home : maybe.Option (Option BookValue)) (o : ℕ) → o ≢ c → 1 ≤ o → o ≤ origin.callers → (gathered < o → h.now.gathered < o) → (h.now.gathered < o → gathered < o)
      → CallerFits origin (with_turn h.now.turn gathered) (set s.words (16 * c) word) (set s.homes (8 * c) home) o
  other_caller gathered c word home o ne low high more less =
      let k = h.callers o low high in
      let same_word : get_or (set s.words (16 * c) word) (16 * o) 0 ≡ get_or s.words (16 * o) 0 = get_or-set_other s.words (16 * c) (16 * o) word 0 (λ e. ne (omega arith)) in record {
        home = λ out late. let old = k.home out (more late) in (same_word ∙ old.0, set_else s.homes (8 * c) (8 * o) home (λ e. ne (omega arith)) ∙ old.1);
        inside = λ some_stage. let old = k.inside some_stage in (same_word ∙ old.0, less old.1);
        taken = λ le. same_word ∙ k.taken (dite (dec_le o h.now.gathered) (λ (a : o ≤ h.now.gathered). a) (λ no. let l = less (omega arith) in absurd (omega arith)));
      }

  -- the share of the next caller is taken, who is outside
  pub gathered_holds : 1 ≤ v.own.number → v.stage ≡ 2 → v.gathered < origin.callers → get_or s.words (16 * (v.gathered + 1)) 0 ≡ 0
      → Holds origin record { words = set s.words (16 * (v.gathered + 1)) 2; homes = set s.homes (8 * (v.gathered + 1)) none; views = set s.views id (gathering v) }
  gathered_holds one has more word =
      let m = mine in let t = m.place.turns has in let turn = t.0 in let same = t.1 in let wide = h.wide in let next : ℕ = v.gathered + 1 in
      let there = share_at_home next (omega arith) (omega arith) word in let out = there.0 in
      turned_holds h.now.turn next (set s.words (16 * next) 2) (set s.homes (8 * next) none) (gathering v) (λ x c. c) (alone one has) (length-set s.words (16 * next) 2) (get_or-set_other s.words (16 * next) 0 2 0 (λ e. omega arith) ∙ h.turn) (λ j some_j few. get_or-set_other s.words (16 * next) j 2 0 (λ e. omega arith))
      (λ z. absurd (omega arith)) (λ z. absurd (omega arith)) (omega arith)
      (λ c low high. dite (ℕ_discrete c next)
      (λ (e : c ≡ next). subst (CallerFits origin (with_turn h.now.turn next) (set s.words (16 * next) 2) (set s.homes (8 * next) none)) (sym e) (record { home = λ z late. absurd (omega arith); inside = λ some_stage. absurd (omega arith); taken = λ le. get_or-set_same s.words (16 * next) 2 0 (omega arith) }))
      (λ (ne : c ≢ next). other_caller next next 2 none c ne low high (λ late. omega arith) (λ late. omega arith)))
      (record {
        same_origin = m.same_origin;
        parts = m.parts;
        marks = m.marks;
        place = record {
          idle = λ z. absurd (omega arith);
          stands = λ z low. absurd (omega arith);
          stays_out = λ z e. m.place.stays_out one has;
          shares = λ e. absurd (omega arith);
          turns = λ e. (t.0, refl, t.2);
          knows = λ e. absurd (true≢false (sym e));
        };
      })

  -- a share goes back
  pub filled_holds : (b : BookValue) → 1 ≤ v.own.number → v.stage ≡ 2 → 0 < v.gathered → v.live ≡ true → b ≡ held_book v → length s.homes ≡ 8 * origin.callers + 8
      → Holds origin record { words = set s.words (16 * v.gathered) 0; homes = set s.homes (8 * v.gathered) (some (Some b)); views = set s.views id (filling v) }
  filled_holds b one has some_share live is deep =
      let m = mine in let t = m.place.turns has in let turn = t.0 in let same = t.1 in let most = h.most in let wide = h.wide in let last : ℕ = v.gathered in
      let full : b ≡ shelved origin h.now.log h.now.shelf = is ∙ held_is live t.2 in
      turned_holds h.now.turn (last - 1) (set s.words (16 * last) 0) (set s.homes (8 * last) (some (Some b))) (filling v) (λ x c. c) (alone one has) (length-set s.words (16 * last) 0) (get_or-set_other s.words (16 * last) 0 0 0 (λ e. omega arith) ∙ h.turn) (λ j some_j few. get_or-set_other s.words (16 * last) j 0 0 (λ e. omega arith))
      (λ z. absurd (omega arith)) (λ z. absurd (omega arith)) (omega arith)
      (λ c low high. dite (ℕ_discrete c last)
      (λ (e : c ≡ last). subst (CallerFits origin (with_turn h.now.turn (last - 1)) (set s.words (16 * last) 0) (set s.homes (8 * last) (some (Some b)))) (sym e) (record {
        home = λ z late. (get_or-set_same s.words (16 * last) 0 0 (omega arith), set_here s.homes (8 * last) (some (Some b)) (omega arith) ∙ ap (λ (x : BookValue). some (some (Some x))) full);
        inside = λ some_stage. let late = ((h.callers last (omega arith) (omega arith)).inside some_stage).1 in absurd (omega arith);
        taken = λ le. absurd (omega arith);
      }))
      (λ (ne : c ≢ last). other_caller (last - 1) last 0 (some (Some b)) c ne low high (λ late. omega arith) (λ late. omega arith)))
      (record {
        same_origin = m.same_origin;
        parts = m.parts;
        marks = m.marks;
        place = record {
          idle = λ z. absurd (omega arith);
          stands = λ z low. absurd (omega arith);
          stays_out = λ z e. m.place.stays_out one has;
          shares = λ e. absurd (omega arith);
          turns = λ e. (t.0, refl, t.2);
          knows = λ e. absurd (true≢false (sym e));
        };
      })

  pub named_holds : (new : ℕ) → v.stage ≡ 0 → origin.size ≤ length v.own.seen → new ≡ h.now.named + 1 → new ≤ origin.callers → Holds origin record { words = set s.words 3 new; homes = s.homes; views = set s.views id (named_as new v) }
  named_holds new out long next few =
      let m = mine in let wide = h.wide in
      let owner : ℕ → ℕ = given h.now.owner new id in
      let other_owner : (c : ℕ) → c ≤ h.now.named → owner c ≡ h.now.owner c = λ c le. given-else h.now.owner new id c (λ e. omega arith) in
      let le : h.now.named ≤ new = omega arith in
      let after : List Entry = own_part.after in
      let unnamed : All (λ e. e.caller ≢ new) after = All-weaker (EntryFits origin h.now.owner h.now.named s.views) (λ e. e.caller ≢ new) (λ e t same. let a = t.1 in omega arith) after (all_after (EntryFits origin h.now.owner h.now.named s.views) origin.size v.own.seen after long (subst (λ l. All (EntryFits origin h.now.owner h.now.named s.views) (drop origin.size l)) own_part.is h.entries)) in
      let now : Now = record h.now { owner = owner; named = new } in
      record {
        now = now;
        wide = length-set s.words 3 new ∙ h.wide;
        turn = get_or-set_other s.words 3 0 new 0 (λ e. omega arith) ∙ h.turn;
        count = get_or-set_other s.words 3 1 new 0 (λ e. omega arith) ∙ h.count;
        latest = get_or-set_other s.words 3 2 new 0 (λ e. omega arith) ∙ h.latest;
        named = get_or-set_same s.words 3 new 0 (omega arith);
        free = h.free;
        spare = h.spare;
        most = h.most;
        unnamed = λ c late. h.unnamed c (omega arith);
        callers = λ c low high. same_caller origin h.now now s.words (set s.words 3 new) s.homes s.homes c refl refl refl refl (get_or-set_other s.words 3 (16 * c) new 0 (λ e. omega arith)) refl (h.callers c low high);
        shelf = h.shelf;
        bound = h.bound;
        fits = each_set (Fits origin h.now) (Fits origin now) s.views id (named_as new v) h.fits
            (λ by u _ f. record {
              same_origin = f.same_origin;
              parts = parts_under h.now.log h.now.owner owner h.now.named new by by (u.own ∷ u.others) le (λ c one most is. other_owner c most ∙ is) f.parts;
              marks = f.marks;
              place = record { idle = f.place.idle; stands = f.place.stands; stays_out = f.place.stays_out; shares = f.place.shares; turns = f.place.turns; knows = f.place.knows };
            })
            (record {
              same_origin = m.same_origin;
              parts = All-cons (PartFits h.now.log owner new id) (named_as new v).own v.others (record { after = after; is = own_part.is; alone = λ _. unnamed; owned = λ _. (omega arith, given-at h.now.owner new id) }) (parts_under h.now.log h.now.owner owner h.now.named new id id v.others le (λ c one most is. other_owner c most ∙ is) other_parts);
              marks = m.marks;
              place = record {
                idle = λ z. out;
                stands = λ z low. h.unnamed new (omega arith) ∙ sym out;
                stays_out = λ z e. absurd (omega arith);
                shares = λ e. absurd (omega arith);
                turns = λ e. absurd (omega arith);
                knows = λ e. let a = (m.place.knows e).0 in absurd (omega arith);
              };
            });
        few = few;
        long = h.long;
        entries = entries_as (named_as new v) (λ x c. c) owner new le other_owner;
        source = source_as (named_as new v) (λ x c. c) owner new le other_owner h.now.latest h.source;
      }

  -- another seat stands as before, where this one has every share
  none_other : (now' : Now) → 1 ≤ v.own.number → v.stage ≡ 2 → origin.callers ≤ h.now.gathered → ((c : ℕ) → now'.stage c ≡ h.now.stage c) → (by : ℕ) (u : View) → by ≢ id → Fits origin h.now by u → Stands origin now' u
  none_other now' one has every same by u other f = record {
    idle = f.place.idle;
    stands = λ some_number low. same u.own.number ∙ f.place.stands some_number low;
    stays_out = λ some_number e. same u.own.number ∙ f.place.stays_out some_number e;
    shares = λ e. absurd (none_inside every by u f e);
    turns = λ e. absurd (alone one has by u other f e);
    knows = λ e. absurd (alone one has by u other f (f.place.knows e).0);
  }

  -- the latest stamp is known, with every share
  pub measured_holds : 1 ≤ v.own.number → v.stage ≡ 2 → v.gathered ≡ origin.callers → Holds origin record { words = s.words; homes = s.homes; views = set s.views id (knowing h.now.latest v) }
  measured_holds one has all =
      let m = mine in let t = m.place.turns has in let same = t.1 in let every : origin.callers ≤ h.now.gathered = omega arith in
      let now : Now = record h.now { shelf = h.now.latest } in let w = knowing h.now.latest v in
      record {
        now = now;
        wide = h.wide;
        turn = h.turn;
        count = h.count;
        latest = h.latest;
        named = h.named;
        free = h.free;
        spare = λ z. let turn = t.0 in absurd (omega arith);
        most = h.most;
        unnamed = h.unnamed;
        callers = λ c low high. let k = h.callers c low high in record { home = λ out late. absurd (omega arith); inside = k.inside; taken = k.taken };
        shelf = omega arith;
        bound = h.bound;
        fits = each_set (Fits origin h.now) (Fits origin now) s.views id w h.fits
            (λ by u other f. record { same_origin = f.same_origin; parts = f.parts; marks = f.marks; place = none_other now one has every (λ c. refl) by u other f })
            (record {
              same_origin = m.same_origin;
              parts = m.parts;
              marks = m.marks;
              place = record { idle = m.place.idle; stands = m.place.stands; stays_out = m.place.stays_out; shares = λ e. absurd (omega arith); turns = λ e. (t.0, t.1, (t.2.0, refl)); knows = λ e. (has, every, refl) };
            });
        few = h.few;
        long = h.long;
        entries = entries_as w (λ x c. c) h.now.owner h.now.named level same_owner;
        source = source_as w (λ x c. c) h.now.owner h.now.named level same_owner h.now.latest h.source;
      }

  pub appended_holds : (e : Entry) (log : List Entry) (next : ℕ) → 1 ≤ v.own.number → v.knows ≡ true → v.others ≡ [] → log ≡ v.log ++ e ∷ [] → e.caller ≡ v.own.number → e.stamp ≡ v.latest → next ≡ length h.now.log + 1
      → Holds origin record { words = set s.words 1 next; homes = s.homes; views = set s.views id (appending log v) }
  appended_holds e log next one whole single is caller stamp count =
      let m = mine in let w = appending log v in let wide = h.wide in
      let k = m.place.knows whole in let has = k.0 in let every = k.1 in let t = m.place.turns has in
      let full : log ≡ h.now.log ++ e ∷ [] = is ∙ ap (λ l. l ++ e ∷ []) t.2.0 in
      let owned : (v.own.number ≤ h.now.named) × (h.now.owner v.own.number ≡ id) = own_part.owned one in
      let owner_is : h.now.owner e.caller ≡ id = ap h.now.owner caller ∙ owned.1 in
      let stamp_is : e.stamp ≡ h.now.latest = stamp ∙ k.2 in
      let marks_kept : (u : View) → All (MarkFits h.now.log h.now.latest) u.marks → All (MarkFits (h.now.log ++ e ∷ []) h.now.latest) u.marks = λ u. All-weaker (MarkFits h.now.log h.now.latest) (MarkFits (h.now.log ++ e ∷ []) h.now.latest) (λ m. mark_push h.now.log h.now.latest e m stamp_is) u.marks in
      let now : Now = record h.now { log = h.now.log ++ e ∷ [] } in
      record {
        now = now;
        wide = length-set s.words 1 next ∙ h.wide;
        turn = get_or-set_other s.words 1 0 next 0 (λ z. omega arith) ∙ h.turn;
        count = get_or-set_same s.words 1 next 0 (omega arith) ∙ count ∙ sym (length-append h.now.log (e ∷ []));
        latest = get_or-set_other s.words 1 2 next 0 (λ z. omega arith) ∙ h.latest;
        named = get_or-set_other s.words 1 3 next 0 (λ z. omega arith) ∙ h.named;
        free = h.free;
        spare = λ z. let turn = t.0 in absurd (omega arith);
        most = h.most;
        unnamed = h.unnamed;
        callers = λ c low high. let b = h.callers c low high in let word = get_or-set_other s.words 1 (16 * c) next 0 (λ z. omega arith) in record {
          home = λ out late. absurd (omega arith);
          inside = λ some_stage. let old = b.inside some_stage in (word ∙ old.0, old.1);
          taken = λ le. word ∙ b.taken le;
        };
        shelf = h.shelf;
        bound = h.bound;
        fits = each_set (Fits origin h.now) (Fits origin now) s.views id w h.fits
            (λ by u other f. record {
              same_origin = f.same_origin;
              parts = All-weaker (PartFits h.now.log h.now.owner h.now.named by) (PartFits (h.now.log ++ e ∷ []) h.now.owner h.now.named by) (λ p. part_push h.now.log h.now.owner h.now.named by id e p owner_is other) (u.own ∷ u.others) f.parts;
              marks = marks_kept u f.marks;
              place = none_other now one has every (λ c. refl) by u other f;
            })
            (record {
              same_origin = m.same_origin;
              parts = subst (λ ps. All (PartFits (h.now.log ++ e ∷ []) h.now.owner h.now.named id) (w.own ∷ ps)) (sym single) (All-cons (PartFits (h.now.log ++ e ∷ []) h.now.owner h.now.named id) w.own [] (record { after = []; is = sym full ∙ sym (append-nil log); alone = λ _. All-nil (λ x. x.caller ≢ v.own.number); owned = own_part.owned }) (All-nil (PartFits (h.now.log ++ e ∷ []) h.now.owner h.now.named id)));
              marks = marks_kept v m.marks;
              place = record {
                idle = m.place.idle;
                stands = m.place.stands;
                stays_out = m.place.stays_out;
                shares = λ z. absurd (omega arith);
                turns = λ z. (t.0, t.1, (full, t.2.1));
                knows = m.place.knows;
              };
            });
        few = h.few;
        long = let a = h.long in omega (arith, length-append h.now.log (e ∷ []));
        entries = rw (drop-append-le origin.size h.now.log (e ∷ []) h.long) (All-push (EntryFits origin h.now.owner h.now.named (set s.views id w)) (drop origin.size h.now.log) e (entries_as w (λ x c. c) h.now.owner h.now.named level same_owner)
            (omega (arith, caller, one), let a = owned.0 in omega (arith, caller, a), subst (IsSourced origin h.now.owner h.now.named (set s.views id w)) (sym stamp_is) (source_as w (λ x c. c) h.now.owner h.now.named level same_owner h.now.latest h.source)));
        source = source_as w (λ x c. c) h.now.owner h.now.named level same_owner h.now.latest h.source;
      }

  -- the latest stamp is raised to a moment, of which this seat keeps a mark
  higher_holds : (t shelf : ℕ) (w : View) → t ≤ stamp_limit → 1 ≤ v.own.number → v.log ≡ h.now.log → shelf ≤ max h.now.latest t → w.marks ≡ v.marks ++ (length v.log, t) ∷ [] → (w.live ≡ true → w.origin ≡ origin) → All (PartFits h.now.log h.now.owner h.now.named id) (w.own ∷ w.others)
      → ((c : ℕ) → 1 ≤ c → c ≤ origin.callers → h.now.gathered < c → shelf ≡ h.now.shelf) → (h.now.turn ≡ 0 → shelf ≡ h.now.shelf)
      → ((by : ℕ) (u : View) → by ≢ id → Fits origin h.now by u → Stands origin (record h.now { latest = max h.now.latest t; shelf = shelf }) u) → Stands origin (record h.now { latest = max h.now.latest t; shelf = shelf }) w
      → Holds origin record { words = set s.words 2 (max (get_or s.words 2 0) t); homes = s.homes; views = set s.views id w }
  higher_holds t shelf w low_enough one log shelf_low marks same_origin parts kept free_kept others place =
      let m = mine in let wide = h.wide in
      let next : ℕ = max (get_or s.words 2 0) t in
      let latest : ℕ = max h.now.latest t in
      let now : Now = record h.now { latest = latest; shelf = shelf } in
      let keep : (x : ℕ × ℕ) → Contains v.marks x → Contains w.marks x = λ x c. subst (λ ms. Contains ms x) (sym marks) (Contains-append_left v.marks ((length v.log, t) ∷ []) x c) in
      let higher : (u : View) → All (MarkFits h.now.log h.now.latest) u.marks → All (MarkFits h.now.log latest) u.marks = λ u. All-weaker (MarkFits h.now.log h.now.latest) (MarkFits h.now.log latest) (λ k f. record { front = f.front; moment = let a = f.moment in omega arith; above = f.above }) u.marks in
      record {
        now = now;
        wide = length-set s.words 2 next ∙ h.wide;
        turn = get_or-set_other s.words 2 0 next 0 (λ z. omega arith) ∙ h.turn;
        count = get_or-set_other s.words 2 1 next 0 (λ z. omega arith) ∙ h.count;
        latest = get_or-set_same s.words 2 next 0 (omega arith) ∙ ap (λ (k : ℕ). max k t) h.latest;
        named = get_or-set_other s.words 2 3 next 0 (λ z. omega arith) ∙ h.named;
        free = h.free;
        spare = λ z. h.spare z ∙ ap (λ (k : ℕ). some (some (Some (shelved origin h.now.log k)))) (sym (free_kept z));
        most = h.most;
        unnamed = h.unnamed;
        callers = λ c low high. let b = h.callers c low high in let word = get_or-set_other s.words 2 (16 * c) next 0 (λ z. omega arith) in record {
          home = λ out late. let old = b.home out late in (word ∙ old.0, old.1 ∙ ap (λ (k : ℕ). some (some (Some (shelved origin h.now.log k)))) (sym (kept c low high late)));
          inside = λ some_stage. let old = b.inside some_stage in (word ∙ old.0, old.1);
          taken = λ le. word ∙ b.taken le;
        };
        shelf = shelf_low;
        bound = let a = h.bound in omega arith;
        fits = each_set (Fits origin h.now) (Fits origin now) s.views id w h.fits
            (λ by u other f. record { same_origin = f.same_origin; parts = f.parts; marks = higher u f.marks; place = others by u other f })
            (record {
              same_origin = same_origin;
              parts = parts;
              marks = subst (All (MarkFits h.now.log latest)) (sym marks) (All-push (MarkFits h.now.log latest) v.marks (length v.log, t) (higher v m.marks)
                  (record { front = let a = ap length log in omega arith; moment = omega arith; above = subst (λ l. All (λ e. t ≤ e.stamp) (drop (length l) h.now.log)) (sym log) (subst (All (λ e. t ≤ e.stamp)) (sym (drop-all h.now.log)) (All-nil (λ e. t ≤ e.stamp))) }));
              place = place;
            });
        few = h.few;
        long = h.long;
        entries = entries_as w keep h.now.owner h.now.named level same_owner;
        source = larger (λ m. IsSourced origin h.now.owner h.now.named (set s.views id w) m) h.now.latest t (source_as w keep h.now.owner h.now.named level same_owner h.now.latest h.source)
            (inr (record { caller = v.own.number; one = one; most = (own_part.owned one).0; view = w; there = subst (λ j. get_elem? (set s.views id w) j ≡ some w) (sym (own_part.owned one).1) (at_here s.views id v w at); front = length v.log; mark = subst (λ ms. Contains ms (length v.log, t)) (sym marks) (Contains-push v.marks (length v.log, t)) }));
      }

  pub raised_holds : (t : ℕ) → t ≤ stamp_limit → 1 ≤ v.own.number → v.stage ≡ 1 → Holds origin record { words = set s.words 2 (max (get_or s.words 2 0) t); homes = s.homes; views = set s.views id (raising t v) }
  raised_holds t low_enough one inside =
      let m = mine in
      let none_knows : (by : ℕ) (u : View) → Fits origin h.now by u → u.knows ≡ true → ⊥ = λ by u f e. let a = (f.place.knows e).1 in let c = number_in one in let b = m.place.stands one (omega arith) in let k = ((my_caller one).inside (omega arith)).1 in omega arith in
      higher_holds t h.now.shelf (raising t v) low_enough one (m.place.shares inside).0 (let a = h.shelf in omega arith) refl m.same_origin m.parts (λ c low high late. refl) (λ z. refl)
      (λ by u other f. record { idle = f.place.idle; stands = f.place.stands; stays_out = f.place.stays_out; shares = f.place.shares; turns = f.place.turns; knows = λ e. absurd (none_knows by u f e) })
      (record { idle = m.place.idle; stands = m.place.stands; stays_out = m.place.stays_out; shares = m.place.shares; turns = m.place.turns; knows = λ e. absurd (none_knows id v m e) })

  -- the same, with every share
  pub lifted_holds : (t : ℕ) → t ≤ stamp_limit → 1 ≤ v.own.number → v.knows ≡ true
      → Holds origin record { words = set s.words 2 (max (get_or s.words 2 0) t); homes = s.homes; views = set s.views id (knowing (max v.latest t) (raising t v)) }
  lifted_holds t low_enough one whole =
      let m = mine in let k = m.place.knows whole in let has = k.0 in let every = k.1 in let tu = m.place.turns has in
      let latest : ℕ = max h.now.latest t in
      let same : max v.latest t ≡ latest = ap (λ (j : ℕ). max j t) k.2 in
      higher_holds t latest (knowing (max v.latest t) (raising t v)) low_enough one tu.2.0 (omega arith) refl m.same_origin m.parts (λ c low high late. absurd (omega arith)) (λ z. let turn = tu.0 in absurd (omega arith))
      (none_other (record h.now { latest = latest; shelf = latest }) one has every (λ c. refl))
      (record { idle = m.place.idle; stands = m.place.stands; stays_out = m.place.stays_out; shares = λ e. absurd (omega arith); turns = λ e. (tu.0, tu.1, (tu.2.0, same)); knows = λ e. (has, every, same) })
