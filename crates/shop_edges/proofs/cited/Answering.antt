-- What a gateway tells over several calls.
use Rattle.std.proofs.Common.{List, [], ◌++◌, Option, Some, sym, ap, ◌∙◌, append_assoc}
use Rattle.std.proofs.lemmas.List.{append-nil}
use Rattle.shop_edges.specs.Gateways.{Answered}
use Rattle.shop_edges.specs.declared.gateway.Answer.{Answer}

-- nothing is told before a call
pub answered_nothing : (told : Option (List Answer)) → Answered told told []
answered_nothing told = record { told = λ was is. is ∙ ap Some (sym (append-nil was)) }

-- what one call and then another told
pub answered_more : (a b c : Option (List Answer)) (first then : List Answer) → Answered a b first → Answered b c then → Answered a c (first ++ then)
answered_more a b c first then one other = record {
  told = λ was is. other.told (was ++ first) (one.told was is) ∙ ap Some (append_assoc was first then);
}
