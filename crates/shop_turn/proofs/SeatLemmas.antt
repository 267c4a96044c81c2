-- The steps of a seat whose view and slots are known by an equation, and what they leave.
use Rattle.std.proofs.Common.{◌≡◌, ℕ, ◌+◌, ◌*◌, ◌%◌, ◌^◌, ◌≤◌, ◌<◌, List, ◌∷◌, length, max, Option, Some, true, eqb, sym, subst, arith, ◌∙◌, ap, refl, inl, inr}
use mathlib.Core.Option.{none}
use prog.Atomic.{either}
use Rattle.atomic_table.specs.Table.{Allows, step, rest}
use Rattle.shop_model.specs.rows.Limits.{stamp_limit}
use Rattle.shop_book.specs.Books.{BookValue}
use Rattle.shop_turn.specs.declared.rule.Origin.{Origin}
use Rattle.shop_turn.specs.declared.rule.View.{View}
use Rattle.shop_turn.specs.Views.{sharing, gathering, held_book, knowing, raising}
use Rattle.shop_turn.specs.Rule.{Holds}
use Rattle.shop_turn.specs.Plays.{AtTable, Names, Enters, Looks, Leaves, Takes, Gathers, Measures, Raises, Lifts, Appends, Fills, Gives}
use Rattle.shop_turn.specs.Seats.{IsReady, IsInside, HasTurn, HasShares, IsCounted}
use Rattle.shop_turn.proofs.Plays.{names, enters, looks, takes_turn, gathers, gives_up, leaves, fills, appends, measures, raises, lifts}

pub top_slot : (l : List (ℕ × Option BookValue)) (x : ℕ × Option BookValue) (xs : List (ℕ × Option BookValue)) → l ≡ x ∷ xs → l ≡ x ∷ rest l
top_slot l x xs e = e ∙ sym (ap (λ k. x ∷ rest k) e)

module _ (origin : Origin) (slots id : ℕ) (m : AtTable) where
  pub names_as : (old new : ℕ) → m.0.stage ≡ 0 → origin.size ≤ length m.0.own.seen → new ≡ old + 1 → new ≤ origin.callers
      → Allows (Holds origin) slots id m 3 (λ n. either (eqb n old) new n) (Names (step slots 3 old new none) m)
  names_as old new = names origin slots id m.0 m.1 old new

  module _ (number : ℕ) (r : IsReady number origin.callers m) where
    pub enters_as : Allows (Holds origin) slots id m (16 * number) (λ n. either (eqb n 0) 1 n) (Enters (step slots (16 * number) 0 1 none) m)
    enters_as = subst (λ j. Allows (Holds origin) slots id m (16 * j) (λ n. either (eqb n 0) 1 n) (Enters (step slots (16 * j) 0 1 none) m)) r.number_is (enters origin slots id m.0 m.1 (let a = r.one in let b = r.number_is in omega arith) r.live r.idle)

    pub takes_as : Allows (Holds origin) slots id m 0 (λ n. either (eqb n 0) number n) (Takes (step slots 0 0 number none) m)
    takes_as = subst (λ j. Allows (Holds origin) slots id m 0 (λ n. either (eqb n 0) j n) (Takes (step slots 0 0 j none) m)) r.number_is (takes_turn origin slots id m.0 m.1 (let a = r.one in let b = r.number_is in omega arith) r.live r.idle)

  -- with the share back in the slot
  pub leaves_as : (number : ℕ) (share : BookValue) (old : AtTable) → IsInside number origin.callers share old → m ≡ (old.0, (8 * number, Some share) ∷ rest old.1) → slots ≡ 8 * origin.callers + 8
      → Allows (Holds origin) slots id m (16 * number) (λ _. 0) (λ _. Leaves (step slots (16 * number) 0 0 none) m 0)
  leaves_as number share old k is size =
      subst (λ (x : AtTable). Allows (Holds origin) slots id x (16 * number) (λ _. 0) (λ _. Leaves (step slots (16 * number) 0 0 none) x 0)) (sym is)
      (subst (λ j. Allows (Holds origin) slots id (old.0, (8 * j, Some share) ∷ rest old.1) (16 * j) (λ _. 0) (λ _. Leaves (step slots (16 * j) 0 0 none) (old.0, (8 * j, Some share) ∷ rest old.1) 0)) k.number_is
      (leaves origin slots id old.0 (rest old.1) share size (let a = k.one in let b = k.number_is in omega arith) k.live k.stands k.book))

  pub looks_inside : (settles number : ℕ) (share : BookValue) (old : View) (more : List (ℕ × Option BookValue)) → m ≡ (sharing share old, more) → old.live ≡ true → old.own.number ≡ number → 1 ≤ number → Allows (Holds origin) slots id m 1 (λ n. n) (Looks settles (step slots 1 0 0 none) m)
  looks_inside settles number share old more is live named one = subst (λ (x : AtTable). Allows (Holds origin) slots id x 1 (λ n. n) (Looks settles (step slots 1 0 0 none) x)) (sym is) (looks origin slots id (sharing share old) more settles (let b = named in omega arith) live (inl refl))

  pub raises_inside : (t number : ℕ) (share : BookValue) → t ≤ stamp_limit → IsInside number origin.callers share m → Allows (Holds origin) slots id m 2 (λ n. max n t) (Raises (step slots 2 t 0 none) m)
  raises_inside t number share low_enough k = raises origin slots id m.0 m.1 t low_enough (let a = k.one in let b = k.number_is in omega arith) k.stands

  -- with the turn
  pub looks_alone : (settles k : ℕ) (share : BookValue) → HasShares k share m → Allows (Holds origin) slots id m 1 (λ n. n) (Looks settles (step slots 1 0 0 none) m)
  looks_alone settles k share has = looks origin slots id m.0 m.1 settles has.one has.live (inr has.has)

  pub gathers_as : (next : ℕ) → HasTurn next origin.callers m → Allows (Holds origin) slots id m (16 * next) (λ n. either (eqb n 0) 2 n) (Gathers (step slots (16 * next) 0 2 none) m)
  gathers_as next k = subst (λ j. Allows (Holds origin) slots id m (16 * j) (λ n. either (eqb n 0) 2 n) (Gathers (step slots (16 * j) 0 2 none) m)) k.gathered (gathers origin slots id m.0 m.1 k.one k.live k.has (let a = k.gathered in let b = k.most in omega arith))

  pub measures_as : (callers : ℕ) (share : BookValue) → callers ≡ origin.callers → HasShares callers share m → Allows (Holds origin) slots id m 2 (λ n. n) (Measures (step slots 2 0 0 none) m)
  measures_as callers share all k = measures origin slots id m.0 m.1 k.one k.has (k.gathered ∙ all)

  pub lifts_as : (t callers : ℕ) (share : BookValue) → IsCounted callers t share m → Allows (Holds origin) slots id m 2 (λ n. max n t) (Lifts (step slots 2 t 0 none) m)
  lifts_as t callers share k = lifts origin slots id m.0 m.1 t k.bound k.all.one k.knows

  -- after the mark, with the longer book in the slot taken last
  pub appends_as : (t callers : ℕ) (share : BookValue) (old lifted : AtTable) → IsCounted callers t share old → lifted ≡ (knowing (max old.0.latest t) (raising t old.0), old.1) → m ≡ (lifted.0, (8 * callers, Some share) ∷ rest lifted.1)
      → Allows (Holds origin) slots id m 1 (λ n. (n + 1) % 2 ^ 64) (Appends (step slots 1 1 0 none) m)
  appends_as t callers share old lifted k e f =
      subst (λ (x : AtTable). Allows (Holds origin) slots id x 1 (λ n. (n + 1) % 2 ^ 64) (Appends (step slots 1 1 0 none) x)) (sym (f ∙ ap (λ (x : AtTable). (x.0, (8 * callers, Some share) ∷ rest x.1)) e))
      (appends origin slots id (knowing (max old.0.latest t) (raising t old.0)) (rest old.1) share k.longer.entry (8 * callers) k.all.one refl k.single (ap (λ (x : BookValue). x.log) k.longer.is) k.longer.caller k.longer.stamp k.room)

  pub fills_as : (left : ℕ) (share : BookValue) (old : AtTable) → HasShares left share old → m ≡ (old.0, (8 * left, Some share) ∷ rest old.1) → 0 < left → slots ≡ 8 * origin.callers + 8 → Allows (Holds origin) slots id m (16 * left) (λ _. 0) (λ _. Fills (step slots (16 * left) 0 0 none) m 0)
  fills_as left share old k is some_left size =
      subst (λ (x : AtTable). Allows (Holds origin) slots id x (16 * left) (λ _. 0) (λ _. Fills (step slots (16 * left) 0 0 none) x 0)) (sym is)
      (subst (λ j. Allows (Holds origin) slots id (old.0, (8 * j, Some share) ∷ rest old.1) (16 * j) (λ _. 0) (λ _. Fills (step slots (16 * j) 0 0 none) (old.0, (8 * j, Some share) ∷ rest old.1) 0)) k.gathered
      (fills origin slots id old.0 (rest old.1) share size k.one k.live k.has (let a = k.gathered in omega arith) k.book))

  -- with the share of the turn back in its slot
  pub gives_as : (share : BookValue) (old : AtTable) → HasShares 0 share old → m ≡ (old.0, (0, Some share) ∷ rest old.1) → slots ≡ 8 * origin.callers + 8 → Allows (Holds origin) slots id m 0 (λ _. 0) (λ _. Gives (step slots 0 0 0 none) m 0)
  gives_as share old k is size =
      subst (λ (x : AtTable). Allows (Holds origin) slots id x 0 (λ _. 0) (λ _. Gives (step slots 0 0 0 none) x 0)) (sym is)
      (gives_up origin slots id old.0 (rest old.1) share size k.one k.live k.has k.gathered k.book)

-- what was laid into the slot that was taken last
pub laid_as : (slot : ℕ) (b share : BookValue) (m now : AtTable) → b ≡ share → now ≡ (m.0, (slot, Some b) ∷ rest m.1) → now ≡ (m.0, (slot, Some share) ∷ rest m.1)
laid_as slot b share m now is e = e ∙ ap (λ (x : BookValue). (m.0, (slot, Some x) ∷ rest m.1)) is

pub entered_slot : (now m : AtTable) (number : ℕ) (share : BookValue) → m.0.own.number ≡ number → now ≡ (sharing share m.0, (8 * m.0.own.number, Some share) ∷ m.1) → now ≡ (sharing share m.0, (8 * number, Some share) ∷ m.1)
entered_slot now m number share is e = e ∙ ap (λ j. (sharing share m.0, (8 * j, Some share) ∷ m.1)) is

pub gathered_slot : (now m : AtTable) (next : ℕ) → m.0.gathered + 1 ≡ next → now ≡ (gathering m.0, (8 * (m.0.gathered + 1), Some (held_book m.0)) ∷ m.1) → now ≡ (gathering m.0, (8 * next, Some (held_book m.0)) ∷ m.1)
gathered_slot now m next is e = e ∙ ap (λ j. (gathering m.0, (8 * j, Some (held_book m.0)) ∷ m.1)) is
