use Rattle.std.proofs.Common.{ℕ, ◌-◌, ◌∙◌, ap, sym, refl, arith, drop, get_or}
use Rattle.std.proofs.lemmas.List.Sums.{sum_by-take-drop, sum_by-cons}
use Rattle.std.proofs.Math.Seq.{drop-length}
use Rattle.shop_text.proofs.cited.Lists.{drop_before}
use Rattle.shop_window.specs.Totals.{add_all, add_to, units_of}
use Rattle.shop_window.proofs.Summing.{units_add_all}
use Rattle.shop_window.proofs.totals.add_all.Goals as goal

pub loop-place-init : goal.loop-place-init
unfolding add_all
loop-place-init c = rw (drop-length c.args.lines.now) refl

pub add_to-requires : goal.add_to-requires
add_to-requires c =
    let lines = c.args.lines.now in
    let i = c.loop-place.place in
    let line = get_or lines (i - 1) (0, 0) in
    let before = drop_before lines i (0, 0) (omega arith) (omega arith) in
    let some = ap units_of before ∙ sum_by-cons (λ (l : ℕ × ℕ). l.1) line (drop i lines) in
    let all = sum_by-take-drop (λ (l : ℕ × ℕ). l.1) lines (i - 1) in
    let added = ap units_of c.loop-place.invariant ∙ units_add_all (drop i lines) c.args.totals.now.items in
    omega (arith, some, all, added)

pub loop-place-preserved : goal.loop-place-preserved
unfolding add_all
loop-place-preserved c =
    let lines = c.args.lines.now in
    let i = c.loop-place.place in
    c.in_ok-add_to.ensures ∙ ap (add_to (get_or lines (i - 1) (0, 0))) c.loop-place.invariant
    ∙ sym (ap (λ ls. add_all ls c.args.totals.now.items) (drop_before lines i (0, 0) (omega arith) (omega arith)))
