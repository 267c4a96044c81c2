use Rattle.shop_gateway.proofs.LineLemmas.{line-at, long-at, long-none, open-none}
use Rattle.shop_gateway.proofs.line_reader.front_of.Goals as goal

pub returns-then-len-le-LINE_LIMIT : goal.returns-then-len-le-LINE_LIMIT
returns-then-len-le-LINE_LIMIT c = line-at _ _ c.in-Some.ensures c.if-len-le-LINE_LIMIT.true

pub returns-else-len-le-LINE_LIMIT : goal.returns-else-len-le-LINE_LIMIT
returns-else-len-le-LINE_LIMIT c = long-at _ _ c.in-Some.ensures c.if-len-le-LINE_LIMIT.false

pub returns-then-bytes-le-LINE_LIMIT : goal.returns-then-bytes-le-LINE_LIMIT
returns-then-bytes-le-LINE_LIMIT c = open-none _ c.in-None.ensures c.if-bytes-le-LINE_LIMIT.true

pub returns-else-bytes-le-LINE_LIMIT : goal.returns-else-bytes-le-LINE_LIMIT
returns-else-bytes-le-LINE_LIMIT c = long-none _ c.in-None.ensures c.if-bytes-le-LINE_LIMIT.false
