-- A test of the rule: where nobody has the turn, two callers who are outside may both take their shares, neither having
-- given its own back, and both are of one log.
use Rattle.std.proofs.Common.{◌≡◌, ◌≢◌, ℕ, ◌*◌, ◌≤◌, Option, refl, sym, arith, ◌∙◌, set, get_or, get_or-set_other}
use mathlib.Core.Option.{none, some}
use lib.ListN.{get_elem?}
use Rattle.atomic_table.proofs.Lists.{set_else}
use Rattle.atomic_table.specs.Table.{State}
use Rattle.shop_book.specs.Books.{BookValue}
use Rattle.shop_turn.specs.declared.rule.Origin.{Origin}
use Rattle.shop_turn.specs.declared.rule.View.{View}
use Rattle.shop_turn.specs.Rule.{Holds, shelved}
use Rattle.shop_turn.specs.Views.{sharing}
use Rattle.shop_turn.proofs.Fits.{not_one}
use Rattle.shop_turn.proofs.Holds.{entered_holds, number_in}
use Rattle.shop_turn.proofs.Sources.{at_here}

-- the word of a caller who is outside says that its share is in its slot
word_free : (origin : Origin) (s : State (Option BookValue) View) (h : Holds origin s) (id : ℕ) (v : View) → get_elem? s.views id ≡ some v → h.now.turn ≡ 0 → 1 ≤ v.own.number → v.stage ≡ 0 → get_or s.words (16 * v.own.number) 0 ≡ 0
word_free origin s h id v at nobody one out =
    let none_yet = h.free nobody in
    ((h.callers v.own.number one (number_in origin s h id v at one)).home ((h.fits id v at).place.stands one (omega arith) ∙ out) (omega arith)).0

-- a seat takes its share
abbrev entered : State (Option BookValue) View → ℕ → View → View → State (Option BookValue) View
entered s id v inside = record { words = set s.words (16 * v.own.number) 1; homes = set s.homes (8 * v.own.number) none; views = set s.views id inside }

module _ (origin : Origin) (s : State (Option BookValue) View) (h : Holds origin s) (id other : ℕ) (apart : other ≢ id) (v w : View) (at : get_elem? s.views id ≡ some v) (there : get_elem? s.views other ≡ some w) (nobody : h.now.turn ≡ 0)
    (v_one : 1 ≤ v.own.number) (v_out : v.stage ≡ 0) (w_one : 1 ≤ w.own.number) (w_out : w.stage ≡ 0) where
  abbrev one_inside : View
  one_inside = sharing (shelved origin h.now.log h.now.shelf) v

  one_holds : Holds origin (entered s id v one_inside)
  one_holds = entered_holds origin s h id v at v_one v_out (word_free origin s h id v at nobody v_one v_out)

  abbrev other_inside : View
  other_inside = sharing (shelved origin one_holds.now.log one_holds.now.shelf) w

  both_hold : Holds origin (entered (entered s id v one_inside) other w other_inside)
  both_hold =
      let two = not_one origin h.now other id w v (h.fits other w there) (h.fits id v at) apart w_one v_one in
      entered_holds origin (entered s id v one_inside) one_holds other w (set_else s.views id other one_inside apart ∙ there) w_one w_out
      (get_or-set_other s.words (16 * v.own.number) (16 * w.own.number) 1 0 (λ e. two (omega arith)) ∙ word_free origin s h other w there nobody w_one w_out)

  pub both_inside : (after : State (Option BookValue) View) × Holds origin after × (one : View) × (two : View) × (get_elem? after.views id ≡ some one) × (get_elem? after.views other ≡ some two) × (one.stage ≡ 1) × (two.stage ≡ 1) × (one.log ≡ two.log)
  both_inside =
      let one_there = set_else (set s.views id one_inside) other id other_inside (λ e. apart (sym e)) ∙ at_here s.views id v one_inside at in
      let two_there = at_here (set s.views id one_inside) other w other_inside (set_else s.views id other one_inside apart ∙ there) in
      (entered (entered s id v one_inside) other w other_inside, both_hold, one_inside, other_inside, one_there, two_there, refl, refl, ((both_hold.fits id one_inside one_there).place.shares refl).0 ∙ sym ((both_hold.fits other other_inside two_there).place.shares refl).0)
