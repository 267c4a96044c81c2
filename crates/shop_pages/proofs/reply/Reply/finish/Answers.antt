use Rattle.std.proofs.Common.{◌≡◌}
use Rattle.shop_pages.specs.Replies.{reply_head}
use Rattle.shop_pages.proofs.Finished.{finished}
use Rattle.shop_pages.proofs.reply.Reply.finish.Goals as goal

pub returns : goal.returns
returns c page is =
    let head : c.put_head.new.out.bytes ≡ reply_head c.self.inside.draft.status c.len-len.result c.args.form = rw c.clear.ensures.bytes at c.put_head.ensures.bytes in
    finished c.self.inside.draft _ page c.args.form _ _ _ (rw (← c.self.view_is) at is) c.len-len.ensures head c.join-whole.ensures
