use Rattle.std.proofs.Common.{◌≡◌, List, ℕ, Bor, map, take, ap, ◌∙◌, arith}
use Rattle.shop_model.specs.lists.Rankings.{Sale, better, in_order}
use Rattle.shop_model.specs.lists.Related.{five_of, filled, cycle, besides}
use Rattle.shop_window.specs.Gathered.{besides_from}
use Rattle.shop_window.proofs.Gathering.{names_gathered, all_gathered, besides_are}
use Rattle.shop_window.proofs.related.five_related.Goals as goal

pub most_bought-requires-clause-names : goal.most_bought-requires-clause-names
most_bought-requires-clause-names c =
    let buyers : List (List (ℕ × ℕ)) = map (λ (b : Bor (List (ℕ × ℕ))). b.now) c.args.buyers.now in
    rw c.deref.ensures.value (names_gathered c.args.items buyers c.in_ok-pairs.pairs.items c.requires.pairs c.in_ok-pairs.ensures)

pub most_bought-requires-clause-fits : goal.most_bought-requires-clause-fits
most_bought-requires-clause-fits c =
    let buyers : List (List (ℕ × ℕ)) = map (λ (b : Bor (List (ℕ × ℕ))). b.now) c.args.buyers.now in
    rw c.deref.ensures.value (omega (arith, all_gathered buyers c.in_ok-pairs.pairs.items c.in_ok-pairs.ensures, c.requires.fits))

pub returns : goal.returns
unfolding five_of
returns c =
    let buyers : List (List (ℕ × ℕ)) = map (λ (b : Bor (List (ℕ × ℕ))). b.now) c.args.buyers.now in
    let same : besides_from 1 c.deref.result.now c.args.item c.args.items ≡ besides buyers c.args.item c.args.items =
    ap (λ (pairs : List (ℕ × ℕ)). besides_from 1 pairs c.args.item c.args.items) c.deref.ensures.value
    ∙ besides_are buyers c.in_ok-pairs.pairs.items c.args.item c.args.items c.in_ok-pairs.ensures in
    c.filled.ensures ∙ ap (λ (most : List ℕ). filled most (cycle c.args.item c.args.items))
    (c.deref-3.ensures.value ∙ c.in_ok-most.ensures ∙ ap (map (λ (s : Sale). s.id))
    (c.deref-2.ensures.value ∙ c.in_ok-top.ensures ∙ ap (λ (sales : List Sale). take 5 (in_order better sales)) same))
