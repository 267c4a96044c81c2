use Rattle.shop_model.specs.asked.Refusals.{page_of}
use Rattle.shop_engine.proofs.replies.refusal_reply.Goals as goal

-- the draft that was reserved is the one that the refusal was written into
pub returns : goal.returns
returns c = c.finish.ensures (page_of c.args.refusal) (rw c.reserve.ensures.draft (c.in_ok-refusal.ensures _))
