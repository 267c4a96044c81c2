use Rattle.std.proofs.Common.{◌≡◌, ◌∙◌, ◌++◌, [], sym, ap, drop, length, arith, append-nil}
use Rattle.std.proofs.lemmas.Bool.Decides.{Decides-eqb}
use Rattle.std.proofs.lemmas.List.{drop_all}
use Rattle.std.proofs.lemmas.Slice.Eq.{starts_is}
use Rattle.shop_http.proofs.constants.is_same.Goals as goal

pub returns-then-may_be : goal.returns-then-may_be
returns-then-may_be c =
    let bytes = c.args.bytes.now in
    let constant = c.args.constant.now in
    let starts = starts_is Decides-eqb bytes constant c.starts_with.result c.starts_with.ensures.value in
    let none : drop (length constant) bytes ≡ [] = drop_all (length constant) bytes (omega (arith, c.may_be.ensures.len c.if-may_be.true)) in (
      λ is. starts.0 is ∙ ap (λ rest. constant ++ rest) none ∙ append-nil constant,
      λ same. starts.1 [] (same ∙ sym (append-nil constant)),
    )
