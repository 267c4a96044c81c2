use Rattle.std.proofs.Common.{◌≡◌, ℕ, suc, ◌+◌, ◌<◌, List, length, take, get_or, All, IsTrue, sym, ◌∙◌, ap, subst, arith, rules}
use Rattle.std.proofs.Math.ListN.{get_or-map}
use Rattle.std.proofs.Math.Seq.{take-suc}
use Rattle.std.proofs.lemmas.List.{length-map, take_all}
use Rattle.std.proofs.lemmas.List.Elements.{All-push, All-map}
use Rattle.shop_model.specs.rows.Sound.{Has}
use Rattle.shop_attempt.specs.declared.attempts.ReadOf.{ReadOf}
use Rattle.shop_order.specs.AdminConfirm.{totals_in}
use Rattle.shop_order.proofs.related.are_among.Goals as goal

pub returns-then-not-are_all_among : goal.returns-then-not-are_all_among
returns-then-not-are_all_among c = (
  λ is. absurd (search rules),
  λ among.
      let Within : List (ℕ × ℕ) → Type 0 = All (λ p. Has c.args.items p.0) in
      let bought = c.args.bought.now in
      let place : ℕ = c.loop-read.read-index in
      let read = c.read-item.result in
      let short : place < length bought = search rules in
      let here = among.named place (totals_in read.row) (omega (arith, short, length-map bought (λ (r : ReadOf). totals_in r.row))) in
      let same = get_or-map (λ (r : ReadOf). totals_in r.row) bought place read ∙ ap (λ (r : ReadOf). totals_in r.row) (sym c.read-item.is) ∙ sym c.totals_in.ensures in
      subst IsTrue c.if-not-are_all_among.true (c.are_all_among.ensures.1 (subst Within same here)),
)

pub loop-read-preserved : goal.loop-read-preserved
loop-read-preserved c =
    let Within : List (ℕ × ℕ) → Type 0 = All (λ p. Has c.args.items p.0) in
    let P : ReadOf → Type 0 = λ r. Within (totals_in r.row) in
    let bought = c.args.bought.now in
    let place : ℕ = c.loop-read.read-index in
    let read = c.read-item.result in
    let next : suc place ≡ place + 1 = omega arith in
    let here : Within (totals_in read.row) = subst Within c.totals_in.ensures (c.are_all_among.ensures.0 (search rules)) in
    subst (λ n. All P (take n bought)) next
    (subst (All P) (sym (take-suc bought place read (search rules))) (All-push P (take place bought) (get_or bought place read) c.loop-read.invariant (subst P c.read-item.is here)))

pub returns : goal.returns
returns c =
    let Within : List (ℕ × ℕ) → Type 0 = All (λ p. Has c.args.items p.0) in
    let P : ReadOf → Type 0 = λ r. Within (totals_in r.row) in
    let bought = c.args.bought.now in
    let all : All P bought = subst (All P) (take_all c.loop-read.read-index bought (search rules)) c.loop-read.invariant in (
      λ is. record { there = c.is_among.ensures.0 is; named = All-map Within (λ (r : ReadOf). totals_in r.row) bought all },
      λ among. c.is_among.ensures.1 among.there,
    )
