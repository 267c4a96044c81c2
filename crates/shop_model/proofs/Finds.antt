-- A search through a list, an element at a time.
use Rattle.std.proofs.Common.{◌≡◌, suc, ◌-◌, ◌≤◌, List, [], ◌∷◌, length, get_or, take, drop, Bool, false, arith, refl}
use Rattle.std.specs.List.{find}
use Rattle.std.proofs.lemmas.List.{take_all}

-- where the first element fails the test, the search goes on behind it
pub find_behind : {X : Type 0} (test : X → Bool) (d : X) (rest : List X)
    → 1 ≤ length rest → test (get_or rest 0 d) ≡ false
    → find test rest ≡ find test (take (length rest - 1) (drop 1 rest))
find_behind test d [] some fails = absurd (omega arith)
find_behind test d (x ∷ xs) some fails =
    let less : suc (length xs) - 1 ≡ length xs = omega arith in
    rw (fails, less, take_all (length xs) xs (omega arith)) refl
