use Rattle.std.proofs.Common.{◌≡◌, Some, sym, ◌∙◌, subst}
use Rattle.std.proofs.lemmas.Slice.Eq.{bytes_eq-Decides}
use Rattle.shop_model.specs.rows.Subjects.{subject_of}
use Rattle.shop_http.specs.Forms.{decoded_text}
use Rattle.shop_http.proofs.SubjectLemmas.{by_encoded}
use Rattle.shop_http.proofs.requests.subjects.subject_in.Goals as goal

pub returns-then-eq : goal.returns-then-eq
returns-then-eq c =
    let same : c.name.result.now ≡ c.args.encoded.now = (bytes_eq-Decides _ _).0 (sym c.eq.ensures ∙ c.if-eq.true) in
    subst (λ text. Some c.likely-subject.result ≡ subject_of (decoded_text text)) (sym c.name.ensures.name ∙ same) (by_encoded c.likely-subject.result)
