use Rattle.std.proofs.Common.{◌-◌, codes, decimal, arith, append_assoc, length-append}
use Rattle.shop_model.specs.pages.Lists.{line_label}
use Rattle.shop_draft.proofs.Woven.{front_of, pushed}
use Rattle.shop_draft.proofs.item_links.ItemLinks.push.Goals as goal

pub returns : goal.returns
returns c ids =
    let item = c.args.item in
    let text = c.self.inside.text in
    let as_one = append_assoc text (codes "<a href=\"/product_detail?item=") (decimal item) in
    let end = rw (c.in_ok-put_number.ensures.ok, c.from.ensures, c.in_ok-put.ensures.ok, as_one) at c.len-end.ensures in
    rw (
      c.in_ok-push_label.ensures.text,
      c.in_ok-push.ensures.items,
      c.in_ok-put_number.ensures.ok,
      c.from.ensures,
      c.in_ok-put.ensures.ok,
      as_one,
      ← c.self.view_is,
    )
    (pushed item (line_label c.args.title.now c.args.first.now c.args.last.now) ids c.self.inside.gaps.items (c.len-end.result - c.self.inside.front) text
    (omega arith) (omega (arith, c.self.invariant.counted, c.self.invariant.within))
    (omega (arith, end, c.self.invariant.counted, c.self.invariant.within, length-append text (front_of item))))
