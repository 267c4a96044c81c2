use Rattle.std.proofs.Common.{◌∙◌}
use Rattle.shop_engine.specs.Served.{told_page}
use Rattle.shop_engine.proofs.connection.refuse_reading.Goals as goal

pub returns : goal.returns
unfolding told_page
returns c = (c.into_text.ensures ∙ c.in-Ok-refusal_reply.ensures, c.plain_point.ensures)
