use Rattle.std.proofs.Common.{◌≡◌, ap, ◌∙◌, sym, arith, get_or, subst}
use Rattle.shop_window.proofs.Placing.{below, below_within, put_present, put_absent}
use Rattle.shop_window.proofs.rising.put_once.Goals as goal
use Rattle.shop_window.proofs.rising.put_once.Goals.{else-place-len-via-then-place-len+else-index-number, else-place-len-via-else-place-len}

pub returns-then-index-number : goal.returns-then-index-number
returns-then-index-number c =
    let x = c.args.number in let xs = c.args.numbers.now.items in let d = c.index.result.now in
    let at : c.count_below-place.result ≡ below x xs = c.count_below-place.ensures ∙ ap (below x) c.deref.ensures.value in
    let here : get_or xs (below x xs) d ≡ x =
    subst (λ k. get_or xs k d ≡ x) at (sym c.index.ensures ∙ c.if-index-number.true) in
    sym (put_present x d xs (omega (arith, at)) here)

pub insert-requires : goal.insert-requires
insert-requires c =
    let at : c.count_below-place.result ≡ below c.args.number c.args.numbers.now.items =
    c.count_below-place.ensures ∙ ap (below c.args.number) c.deref.ensures.value in
    let low = below_within c.args.number c.args.numbers.now.items in
    omega (arith, at, low)

pub returns : goal.returns
returns c =
    let x = c.args.number in let xs = c.args.numbers.now.items in
    let at : c.count_below-place.result ≡ below x xs = c.count_below-place.ensures ∙ ap (below x) c.deref.ensures.value in
    c.in_ok-insert.ensures.items ∙ rw at (elim c.else-place-len.branch [
      | else-place-len-via-then-place-len+else-index-number w ↦
          sym (put_absent x w.index.result.now xs (λ low e. w.if-index-number.false (w.index.ensures ∙ rw at e)))
      | else-place-len-via-else-place-len w ↦ sym (put_absent x 0 xs (λ low. absurd (omega (arith, at, w.if-place-len.false))))
    ])
