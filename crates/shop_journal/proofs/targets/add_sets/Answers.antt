use Rattle.std.proofs.Common.{◌≡◌, ◌++◌, ◌∷◌, [], List, ℕ, take, map, get_or, ◌+◌, ap, sym, subst, ◌∙◌}
use Rattle.std.proofs.lemmas.List.{take_more, map-append}
use Rattle.shop_http.specs.Forms.{Pair}
use Rattle.shop_journal.specs.Pairs.{Adds}
use Rattle.shop_journal.specs.Targets.{set_pair}
use Rattle.shop_journal.proofs.Marks.{adds_both}
use Rattle.shop_journal.proofs.targets.add_sets.Goals as goal

pub loop-set-preserved : goal.loop-set-preserved
loop-set-preserved c =
    let sets = c.args.sets.now in
    let at = c.loop-set.set-index in
    let d : ℕ × ℕ = (0, 0) in
    let more : map set_pair (take (at + 1) sets) ≡ map set_pair (take at sets) ++ set_pair (get_or sets at d) ∷ [] =
    ap (map set_pair) (take_more sets at d c.loop-set-test.true) ∙ map-append set_pair (take at sets) (get_or sets at d ∷ []) in
    subst (λ (l : List Pair). Adds l c.args.target.now c.add_set.new.target) (sym more) (adds_both _ _ _ _ _ c.loop-set.invariant c.in_ok-add_set.ensures)
