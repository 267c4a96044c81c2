use Rattle.std.proofs.Common.{◌≤◌, ◌-◌, drop, arith, length-take, length-drop, take_all, refl}
use Rattle.shop_draft.proofs.Heads.{behind}
use Rattle.shop_draft.proofs.flat.Flat.put_behind.Goals as goal

pub returns-clause-ok : goal.returns-clause-ok
returns-clause-ok c =
    let room = c.make_room.new.bytes.items in
    let text = c.parts-len.result in
    let within : c.args.skipped ≤ text.1 = omega (arith, rw (← c.parts-len.ensures.text) at c.requires, length-take text.1 text.0) in
    rw (
      c.write_over-2.ensures,
      c.write_over.ensures,
      take_all (40 - c.args.skipped) (drop c.args.skipped text.0) (omega (arith, length-drop c.args.skipped text.0)),
      behind room text.0 c.args.byte c.self.inside.at c.args.skipped text.1 (omega (arith, c.in_ok-make_room.ensures.room)) within (omega arith),
      c.make_room.ensures.front,
      c.parts-len.ensures.text,
      c.self.view_is,
    )
    refl
