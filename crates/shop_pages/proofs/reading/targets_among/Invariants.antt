use Rattle.std.proofs.Common.{◌≡◌, take}
use Rattle.std.specs.List.{flat_map}
use Rattle.shop_model.specs.pages.Targets.{link_target}
use Rattle.shop_pages.proofs.reading.targets_among.Given as goal

abbrev pub invariant-loop-block : goal.invariant-loop-block
invariant-loop-block l = l.targets.items ≡ flat_map link_target (take l.block-index l.blocks)
