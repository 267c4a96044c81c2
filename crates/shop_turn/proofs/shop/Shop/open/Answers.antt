use Rattle.std.proofs.Common.{◌≡◌, ◌+◌, arith}
use Rattle.shop_turn.proofs.Shops.{laid_again, opened_more, opened_desk, opens}
use Rattle.shop_turn.proofs.shop.Shop.open.Goals as goal

pub loop-i-preserved : goal.loop-i-preserved
loop-i-preserved g c =
    let laid = c.loop-i.invariant.0 in
    let e = c.new_seat-seat.ensures in (
      laid_again _ _ _ _ _ _ laid e.root,
      opened_more _ c.args.book c.args.callers c.loop-i.i _ _ _ c.loop-i.invariant.1 c.in_ok-push.ensures.items (opened_desk c.args.book c.args.callers (c.loop-i.i + 1) _ _ _ c.loop-i.root c.new_seat-seat.result laid c.from.ensures e.table e.seat),
    )

pub returns : goal.returns
returns g c =
    let all : c.loop-i.i ≡ c.args.callers = omega (arith, c.loop-i.auto.i-end, c.loop-i-test.false) in
    opens _ c.args.book c.args.callers c.loop-i.i c.loop-i.desks.items c.loop-i.invariant.0.book_is all c.loop-i.invariant.1
