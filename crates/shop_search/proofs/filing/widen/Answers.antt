use Rattle.std.proofs.Common.{arith, rules}
use Rattle.shop_search.proofs.Held.{put_room}
use Rattle.shop_search.proofs.filing.widen.Goals as goal

pub returns-clause-room : goal.returns-clause-room
returns-clause-room c =
    let list = c.reserve.new.self in
    put_room c.args.lists.now (c.get_mut.follows.lender list) c.args.key.now list ((c.get_mut.follows.holds list).3 (search rules)).0
    (omega (arith, c.in_ok-reserve-in-Some.ensures.ok))
