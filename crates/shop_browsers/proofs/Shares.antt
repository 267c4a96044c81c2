-- Shares, one after another.
use Rattle.std.proofs.Common.{◌≡◌, suc, ℕ, ◌-◌, ◌≤◌, List, [], ◌∷◌, length, get_or, take, drop, true, false, arith, refl}
use Rattle.std.specs.Prelude.{nat_lt}
use Rattle.std.proofs.lemmas.List.{take_all}
use Rattle.shop_model.specs.declared.requests.Interaction.{Interaction}
use Rattle.shop_model.specs.declared.requests.Interaction.TheVariants.{Home}
use Rattle.shop_browsers.specs.Mixes.{share_at}

-- none is left
pub share_none : (shares : List (Interaction × ℕ)) (number : ℕ) → length shares ≡ 0 → share_at shares number ≡ Home
unfolding share_at
share_none [] number none = refl
share_none (share ∷ shares) number none = absurd (omega (arith, none))

-- a number falls in the first share
pub share_here : (d : Interaction × ℕ) (shares : List (Interaction × ℕ)) (number : ℕ)
    → 1 ≤ length shares → nat_lt number (get_or shares 0 d).1 ≡ true → share_at shares number ≡ (get_or shares 0 d).0
unfolding share_at
share_here d [] number some lt = absurd (omega arith)
share_here d (share ∷ shares) number some lt = rw lt refl

-- or behind it
pub share_later : (d : Interaction × ℕ) (shares : List (Interaction × ℕ)) (number : ℕ)
    → 1 ≤ length shares → nat_lt number (get_or shares 0 d).1 ≡ false
    → share_at shares number ≡ share_at (take (length shares - 1) (drop 1 shares)) (number - (get_or shares 0 d).1)
unfolding share_at
share_later d [] number some ge = absurd (omega arith)
share_later d (share ∷ shares) number some ge =
    let less : suc (length shares) - 1 ≡ length shares = omega arith in
    rw (ge, less, take_all (length shares) shares (omega arith)) refl
