use Rattle.std.proofs.Common.{arith, get_or}
use Rattle.shop_window.proofs.Adding.{line_left}
use Rattle.shop_window.proofs.units.take_lines.Goals as goal

pub take_line-requires-clause-some : goal.take_line-requires-clause-some
take_line-requires-clause-some c =
    let lines = c.args.lines.now in
    let i = c.loop-item.item-index in
    let left = line_left lines i (omega arith) in
    let line = c.requires.items i (0, 0) (omega arith) in
    let some = c.requires.some (get_or lines i (0, 0)).0 line in
    let was = c.loop-item.invariant.each (get_or lines i (0, 0)).0 (omega (arith, line, c.loop-item.invariant.size)) in
    omega (arith, left, some, was)
