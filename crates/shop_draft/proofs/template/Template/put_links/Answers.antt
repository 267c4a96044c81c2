use Rattle.shop_draft.proofs.Woven.{without_ids}
use Rattle.shop_draft.proofs.template.Template.put_links.Goals as goal

pub returns-in_ok-put_bytes-in-None-None : goal.returns-in_ok-put_bytes-in-None-None
returns-in_ok-put_bytes-in-None-None c drawn =
    rw (without_ids c.args.ids c.args.links.now.gaps c.args.links.now.text c.in-None-None.is-0 c.in-None-None.is-1)
    (rw c.text.ensures at (c.in_ok-put_bytes-in-None-None.ensures drawn))
