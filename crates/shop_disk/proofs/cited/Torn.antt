-- Files that a write tore.
use Rattle.std.proofs.Common.{ℕ, ◌≤◌, List, refl, arith}
use Rattle.shop_disk.specs.Images.{Torn}

-- a write of nothing
pub torn_same : (at count : ℕ) (file : List ℕ) → Torn at count file file
torn_same at count file = record { no_shorter = omega arith; no_longer = omega arith; below = λ i _ _. refl; above = λ i _ _. refl }

-- a longer range
pub torn_wider : (at less more : ℕ) (old new : List ℕ) → less ≤ more → Torn at less old new → Torn at more old new
torn_wider at less more old new longer torn =
    record {
      no_shorter = torn.no_shorter;
      no_longer = omega (arith, longer, torn.no_longer);
      below = torn.below;
      above = λ i within behind. torn.above i within (omega (arith, longer, behind));
    }
