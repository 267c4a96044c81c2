use Rattle.std.proofs.Common.{◌≡◌, ◌==◌, ℕ, List, length}
use Rattle.std.specs.List.{before_first}
use Rattle.shop_text.specs.Escape.{escape}
use Rattle.shop_browsers.specs.Scanned.{Begins, split, with_pairs}
use Rattle.shop_browsers.specs.Shown.{pairs_in}
use Rattle.shop_browsers.proofs.shown.with_target.Given as goal

abbrev pub invariant-loop-after : goal.invariant-loop-after
invariant-loop-after l =
    (t : List ℕ) → before_first (λ b. b == 34) l.text ≡ escape t
    → (tail q : List ℕ) × Begins l.rest q tail × (with_pairs l.ids (split q) ≡ with_pairs l.fn.ids (pairs_in t))

abbrev pub decreases-loop-after : goal.decreases-loop-after
decreases-loop-after l = length l.rest
