use Rattle.shop_drive.proofs.TurnLemmas.{drives_follow}
use Rattle.shop_drive.proofs.turns.drive.Goals as goal

pub returns-clause-follows : goal.returns-clause-follows
returns-clause-follows g c = drives_follow _ _ _ _ _ c.take_turns-tally.ensures.drives
