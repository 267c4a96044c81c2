use Rattle.std.proofs.Common.{◌∙◌, ap, None, drop, length, List, ℕ}
use Rattle.std.proofs.Math.Seq.{drop-append_seam}
use Rattle.std.proofs.lemmas.Bool.Decides.{Decides-eqb}
use Rattle.std.proofs.lemmas.Slice.Eq.{strip_prefix_is}
use Rattle.shop_pages.proofs.reading.texts.behind.Goals as goal

pub returns-in-Some-clause-read : goal.returns-in-Some-clause-read
returns-in-Some-clause-read c = λ rest is.
    c.in-Some.ensures.cases.1 ∙ ap (λ (l : List ℕ). drop (length c.args.front.now) l) is ∙ drop-append_seam c.args.front.now rest

pub returns-in-None-clause-read : goal.returns-in-None-clause-read
returns-in-None-clause-read c = λ rest is.
    absurd (strip_prefix_is Decides-eqb c.args.bytes.now c.args.front.now None c.in-None.ensures.cases rest is)
