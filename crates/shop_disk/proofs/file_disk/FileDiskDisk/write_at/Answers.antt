use Rattle.std.proofs.Common.{length}
use Rattle.shop_disk.proofs.cited.Torn.{torn_same}
use Rattle.shop_disk.proofs.file_disk.FileDiskDisk.write_at.Goals as goal

-- any bytes may be left, so a write leaves none that might not have been left before
pub returns-then-is_ok-clause-crash : goal.returns-then-is_ok-clause-crash
returns-then-is_ok-clause-crash g c = λ image _. (image, tt, torn_same c.args.at (length c.args.from.now) image)

pub returns-clause-crash : goal.returns-clause-crash
returns-clause-crash g c = λ image _. (image, tt, torn_same c.args.at (length c.args.from.now) image)
