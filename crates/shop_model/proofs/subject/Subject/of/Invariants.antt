use Rattle.std.proofs.Common.{◌≡◌, length}
use Rattle.std.specs.List.{find}
use Rattle.std.specs.Str.{bytes_eq}
use Rattle.shop_model.specs.rows.Subjects.{subject_of, subject_name}
use Rattle.shop_model.proofs.subject.Subject.of.Given as goal

abbrev pub invariant-loop-rest : goal.invariant-loop-rest
invariant-loop-rest l = subject_of l.name ≡ find (λ s. bytes_eq (subject_name s) l.name) l.rest

abbrev pub decreases-loop-rest : goal.decreases-loop-rest
decreases-loop-rest l = length l.rest
