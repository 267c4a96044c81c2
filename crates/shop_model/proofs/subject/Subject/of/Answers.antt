use Rattle.std.proofs.Common.{◌∙◌, sym, rules}
use Rattle.std.specs.Str.{bytes_eq}
use Rattle.shop_model.specs.rows.Subjects.{subject_name}
use Rattle.shop_model.proofs.Finds.{find_behind}
use Rattle.shop_model.proofs.subject.Subject.of.Goals as goal

pub loop-rest-preserved : goal.loop-rest-preserved
loop-rest-preserved c =
    let fails = rw c.name.ensures.name at (sym c.eq.ensures ∙ c.if-eq.false) in
    c.loop-rest.invariant
    ∙ find_behind (λ s. bytes_eq (subject_name s) c.args.name.now) _ c.loop-rest.rest.now c.in-len1-up.len_at_least fails

pub returns-then-eq : goal.returns-then-eq
returns-then-eq c = search rules
