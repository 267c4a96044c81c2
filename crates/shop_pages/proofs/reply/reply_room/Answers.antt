use Rattle.std.proofs.Common.{rules}
use Rattle.shop_pages.proofs.reply.reply_room.Goals as goal

pub returns : goal.returns
returns c = search rules
