use Rattle.std.proofs.Common.{append_assoc}
use Rattle.shop_pages.specs.Replies.{reply_head}
use Rattle.shop_pages.proofs.head.put_lines.Goals as goal

pub returns-clause-bytes : goal.returns-clause-bytes
unfolding reply_head
returns-clause-bytes c =
    rw (
      c.put-3.ensures.bytes,
      c.put_close_line.ensures.bytes,
      c.put_allow_line.ensures.bytes,
      c.put-2.ensures.bytes,
      c.put_decimal.ensures.bytes,
      c.put.ensures.bytes,
      c.put_status_line.ensures.bytes,
    )
    (simp append_assoc)
