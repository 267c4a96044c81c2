use Rattle.shop_pricing.proofs.Runs.{drawn_last}
use Rattle.shop_pricing.proofs.filling.fill.Goals as goal

pub returns-in-Done : goal.returns-in-Done
returns-in-Done c =
    drawn_last c.args.items c.args.asked.now c.args.draw c.args.lines.now c.set_wanted.new.lines c.add_drawn.new.lines c.add_drawn.result
    c.in-Done.ensures c.add_drawn.ensures
