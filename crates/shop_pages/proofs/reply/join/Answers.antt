use Rattle.std.proofs.Common.{rules}
use Rattle.shop_pages.proofs.reply.join.Goals as goal

pub returns-then-bytes-le-HEAD_ROOM : goal.returns-then-bytes-le-HEAD_ROOM
returns-then-bytes-le-HEAD_ROOM c = search rules
