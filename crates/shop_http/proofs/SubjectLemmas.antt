-- Subjects by their own names, which stand for themselves.
use Rattle.std.proofs.Common.{◌≡◌, true, Some, refl, sym, ap, ◌∙◌}
use Rattle.std.specs.List.{list_all}
use Rattle.shop_model.specs.declared.subject.Subject.{Subject}
use Rattle.shop_model.specs.declared.subject.Subject.TheVariants.{Arts, Biographies, Business, Children, Computers, Cooking, Health, History, Home, Humor, Literature, Mystery, NonFiction, Parenting, Politics, Reference, Religion, Romance, SelfHelp, ScienceNature, ScienceFiction, Sports, Youth, Travel}
use Rattle.shop_model.specs.rows.Subjects.{subjects, subject_name, subject_of}
use Rattle.shop_http.specs.Forms.{decoded_text, is_plain}
use Rattle.shop_http.proofs.DecodedLemmas.{decoded_text-plain}

plain_name : (subject : Subject) → list_all is_plain (subject_name subject) ≡ true
unfolding subject_name
plain_name Arts = refl
plain_name Biographies = refl
plain_name Business = refl
plain_name Children = refl
plain_name Computers = refl
plain_name Cooking = refl
plain_name Health = refl
plain_name History = refl
plain_name Home = refl
plain_name Humor = refl
plain_name Literature = refl
plain_name Mystery = refl
plain_name NonFiction = refl
plain_name Parenting = refl
plain_name Politics = refl
plain_name Reference = refl
plain_name Religion = refl
plain_name Romance = refl
plain_name SelfHelp = refl
plain_name ScienceNature = refl
plain_name ScienceFiction = refl
plain_name Sports = refl
plain_name Youth = refl
plain_name Travel = refl

by_own : (subject : Subject) → Some subject ≡ subject_of (subject_name subject)
unfolding subject_of subjects subject_name
by_own Arts = refl
by_own Biographies = refl
by_own Business = refl
by_own Children = refl
by_own Computers = refl
by_own Cooking = refl
by_own Health = refl
by_own History = refl
by_own Home = refl
by_own Humor = refl
by_own Literature = refl
by_own Mystery = refl
by_own NonFiction = refl
by_own Parenting = refl
by_own Politics = refl
by_own Reference = refl
by_own Religion = refl
by_own Romance = refl
by_own SelfHelp = refl
by_own ScienceNature = refl
by_own ScienceFiction = refl
by_own Sports = refl
by_own Youth = refl
by_own Travel = refl

pub by_encoded : (subject : Subject) → Some subject ≡ subject_of (decoded_text (subject_name subject))
by_encoded subject = by_own subject ∙ ap subject_of (sym (decoded_text-plain (subject_name subject) (plain_name subject)))
