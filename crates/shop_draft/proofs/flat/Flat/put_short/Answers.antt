use Rattle.std.proofs.Common.{arith, refl}
use Rattle.shop_draft.proofs.Heads.{laid}
use Rattle.shop_draft.proofs.flat.Flat.put_short.Goals as goal

pub returns-clause-ok : goal.returns-clause-ok
returns-clause-ok c =
    let room = c.make_room.new.bytes.items in
    rw (
      c.write_over.ensures,
      laid room c.parts-len.result.0 c.self.inside.at c.parts-len.result.1 (omega arith) (omega arith),
      c.make_room.ensures.front,
      c.parts-len.ensures.text,
      c.self.view_is,
    )
    refl
