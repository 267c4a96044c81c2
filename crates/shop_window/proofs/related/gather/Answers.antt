use Rattle.std.proofs.Common.{◌≡◌, List, ℕ, Bor, IsPermutation, flat_map, map, ap, ◌∙◌, subst, arith, rules}
use Rattle.std.proofs.lemmas.List.{take_all}
use Rattle.std.proofs.lemmas.List.Sorted.{IsNonDecreasingBy-from_sort_by_key}
use Rattle.shop_window.proofs.Gathering.{lent_joined}
use Rattle.shop_window.proofs.related.gather.Goals as goal

pub returns : goal.returns
returns c =
    let lists = c.args.lists.now in
    let all : c.loop-list.pairs.items ≡ flat_map (λ (ps : List (ℕ × ℕ)). ps) (map (λ (l : Bor (List (ℕ × ℕ))). l.now) lists) =
    c.loop-list.invariant ∙ ap (flat_map (λ (l : Bor (List (ℕ × ℕ))). l.now)) (take_all c.loop-list.list-index lists (omega arith)) ∙ lent_joined lists in
    record {
      same = subst (λ ps. IsPermutation ps c.sort_unstable_by_key.new.self.items) all c.sort_unstable_by_key.ensures.permutation;
      rising = IsNonDecreasingBy-from_sort_by_key (λ p. p.0) _ c.sort_unstable_by_key.ensures.sorted (λ a r q k. search rules);
    }
