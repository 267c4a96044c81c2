use Rattle.shop_window.proofs.Adding.{has_units, counted_less}
use Rattle.shop_window.proofs.window.release.Goals as goal

pub take_lines-requires : goal.take_lines-requires
take_lines-requires c =
    rw c.lines.ensures (has_units c.args.items c.args.units.now.items c.pop-oldest.result.sold c.pop-oldest.new.self.kept
    (rw c.pop-oldest.ensures.kept at c.requires.counted))

pub returns-clause-counted : goal.returns-clause-counted
returns-clause-counted c =
    counted_less c.args.items c.args.units.now.items c.take_lines.new.units.items c.pop-oldest.result.sold c.pop-oldest.new.self.kept
    (rw c.pop-oldest.ensures.kept at c.requires.counted) (rw c.lines.ensures at c.take_lines.ensures)
