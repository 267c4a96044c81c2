use Rattle.shop_browse.proofs.DriverLemmas.{begins_with_none}
use Rattle.shop_browse.proofs.driver.attempt_by.Goals as goal

pub attempt_from-requires-clause-begins : goal.attempt_from-requires-clause-begins
attempt_from-requires-clause-begins g c =
    begins_with_none (g.I.Interaction.follows c.args.interaction c.args.ask.now) (g.I.Interaction.request c.args.interaction) c.args.ask.now c.requires.begins
