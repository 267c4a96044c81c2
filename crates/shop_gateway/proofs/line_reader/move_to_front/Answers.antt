use Rattle.std.specs.List.{copy_within}
use Rattle.std.proofs.Common.{ℕ, List, ◌≡◌, ◌+◌, ◌-◌, ◌≤◌, arith, ap, ◌∙◌, sym, take, drop, length}
use Rattle.std.proofs.lemmas.List.{length-drop, drop-take}
use Rattle.std.proofs.lemmas.List.Edits.{take-paste}
use Rattle.shop_gateway.proofs.line_reader.move_to_front.Goals as goal

moved : (bytes after : List ℕ) (start end : ℕ) → start ≤ end → end ≤ length bytes → after ≡ copy_within bytes start end 0 → take (end - start) after ≡ drop start (take end bytes)
moved bytes after start end order within is =
    let size : 0 + (end - start) ≡ end - start = omega arith in
    let all : start + (end - start) ≡ end = omega (arith, order) in
    ap (take (end - start)) is
    ∙ ap (λ n. take n (copy_within bytes start end 0)) (sym size)
    ∙ take-paste bytes 0 (drop start bytes) (end - start) (omega arith) (omega (arith, length-drop start bytes, within))
    ∙ sym (drop-take start (end - start) bytes)
    ∙ ap (λ n. drop start (take n bytes)) all

pub returns : goal.returns
returns c = moved _ _ _ _ c.requires.order c.requires.within c.copy_within.ensures.after
