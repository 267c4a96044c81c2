use Rattle.std.proofs.Common.{length}
use Rattle.shop_disk.proofs.cited.Torn.{torn_same}
use Rattle.shop_records.proofs.real_files.KilledDisk.write_at.Goals as goal

-- any bytes may be left, so a write leaves none that might not have been left before
pub returns-clause-crash : goal.returns-clause-crash
returns-clause-crash c = λ image _. (image, tt, torn_same c.args.at (length c.args.from.now) image)
