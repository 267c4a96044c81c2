use Rattle.std.proofs.Common.{refl}
use Rattle.shop_draft.proofs.ids.PageIds.of.Goals as goal

pub returns : goal.returns
returns c drawn = rw (c.known.ensures drawn, c.known-2.ensures drawn) refl
