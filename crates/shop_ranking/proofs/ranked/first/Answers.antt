use Rattle.std.proofs.Common.{◌≡◌, min, take, length, ap, ◌∙◌, arith}
use Rattle.std.proofs.lemmas.List.{take_min}
use Rattle.shop_ranking.proofs.ranked.first.Goals as goal

pub returns-clause-first : goal.returns-clause-first
returns-clause-first g c =
    let xs = c.args.elements.now in
    let least : c.min.result ≡ min 50 (length xs) = omega (arith, c.min.ensures) in
    ap (λ n. take n xs) least ∙ take_min 50 xs
