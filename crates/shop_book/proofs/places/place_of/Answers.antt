use Rattle.std.proofs.Common.{◌≡◌, ℕ, ◌+◌, Some, sym, ◌∙◌, ap, arith}
use Rattle.shop_book.specs.Places.{place_of, subject_id}
use Rattle.shop_book.proofs.SubjectIds.{subject_at_place}
use Rattle.shop_book.proofs.places.place_of.Goals as goal

pub returns-in-NewIn : goal.returns-in-NewIn
returns-in-NewIn c =
    let id : c.from.result + 1 ≡ subject_id c.in-NewIn.subject = omega (arith, c.from.ensures, subject_at_place c.number.result c.in-NewIn.subject c.number.ensures) in
    ap (λ (n : ℕ). Some (let p : ℕ × ℕ = (4, n) in p)) id ∙ sym (ap place_of c.in-NewIn.is)

pub returns-in-BestIn : goal.returns-in-BestIn
returns-in-BestIn c =
    let id : c.from-in-BestIn.result + 1 ≡ subject_id c.in-BestIn.subject = omega (arith, c.from-in-BestIn.ensures, subject_at_place c.number-in-BestIn.result c.in-BestIn.subject c.number-in-BestIn.ensures) in
    ap (λ (n : ℕ). Some (let p : ℕ × ℕ = (5, n) in p)) id ∙ sym (ap place_of c.in-BestIn.is)
