use Rattle.shop_journal.specs.Targets.{region_pairs, street_pairs}
use Rattle.shop_journal.proofs.Marks.{adds_both}
use Rattle.shop_journal.proofs.targets.add_address.Goals as goal

pub returns : goal.returns
returns c = adds_both (street_pairs c.args.text.now) (region_pairs c.args.text.now) _ _ _ c.in_ok-add_streets.ensures c.in_ok-add_region.ensures
