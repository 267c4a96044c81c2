use Rattle.std.proofs.Common.{◌≡◌, ℕ, suc, ◌+◌, take, get_or, All, sym, subst, arith, rules}
use Rattle.std.proofs.Math.Seq.{take-suc}
use Rattle.std.proofs.lemmas.List.{take_all}
use Rattle.std.proofs.lemmas.List.Elements.{All-push}
use Rattle.shop_model.specs.rows.Sound.{Has}
use Rattle.shop_order.proofs.related.are_all_among.Goals as goal

pub loop-pair-preserved : goal.loop-pair-preserved
loop-pair-preserved c =
    let P : ℕ × ℕ → Type 0 = λ p. Has c.args.items p.0 in
    let totals = c.args.totals.now in
    let place : ℕ = c.loop-pair.pair-index in
    let pair : ℕ × ℕ = get_or totals place (0, 0) in
    let next : suc place ≡ place + 1 = omega arith in
    subst (λ n. All P (take n totals)) next
    (subst (All P) (sym (take-suc totals place (0, 0) (search rules)))
    (All-push P (take place totals) pair c.loop-pair.invariant (c.is_among.ensures.0 (search rules))))

pub returns : goal.returns
returns c = (
  λ is. subst (All (λ (p : ℕ × ℕ). Has c.args.items p.0)) (take_all c.loop-pair.pair-index c.args.totals.now (search rules)) c.loop-pair.invariant,
  λ all. search rules,
)
