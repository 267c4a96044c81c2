use Rattle.std.proofs.Common.{arith, sym, ◌∙◌}
use Rattle.std.proofs.lemmas.Bool.{lt-ltb, le-ltb}
use Rattle.shop_browsers.proofs.Shares.{share_none, share_here, share_later}
use Rattle.shop_browsers.proofs.mix.share_at.Goals as goal

pub returns-then-left-share : goal.returns-then-left-share
returns-then-left-share c =
    sym (c.loop-rest.invariant ∙ share_here _ c.loop-rest.rest.now c.loop-rest.left c.in-len1-up.len_at_least (lt-ltb _ _ c.if-left-share.true))

pub loop-rest-preserved : goal.loop-rest-preserved
loop-rest-preserved c =
    c.loop-rest.invariant ∙ share_later _ c.loop-rest.rest.now c.loop-rest.left c.in-len1-up.len_at_least (le-ltb _ _ c.if-left-share.false)

pub returns : goal.returns
returns c = sym (c.loop-rest.invariant ∙ share_none c.loop-rest.rest.now c.loop-rest.left (omega (arith, c.in_default.len_below)))
