use Rattle.std.proofs.Common.{arith, refl}
use Rattle.std.proofs.lemmas.List.{length-take-le}
use Rattle.shop_draft.specs.Templates.{head_room, filled}
use Rattle.shop_draft.proofs.Heads.{none_behind}
use Rattle.shop_draft.proofs.template.Template.clear.Goals as goal

pub invariant_of-self : goal.invariant_of-self
invariant_of-self c = record {
  head = omega arith;
  counted = rw c.clear.ensures.items refl;
  within = rw c.truncate.ensures
      (omega (arith, c.self.invariant.within, length-take-le head_room c.self.inside.bytes (omega (arith, c.self.invariant.within))));
}

pub returns : goal.returns
unfolding filled
returns c drawn = rw (c.clear.ensures.items, c.truncate.ensures) (none_behind c.self.inside.bytes head_room)
