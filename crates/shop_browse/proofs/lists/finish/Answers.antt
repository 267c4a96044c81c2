use Rattle.shop_draft.proofs.cited.PageTexts.{three}
use Rattle.shop_browse.proofs.lists.finish.Goals as goal

pub returns : goal.returns
returns c drawn =
    three _ _ _ _ _ _ _ (c.in_ok-add_lines.ensures drawn) (rw (c.of.ensures drawn) at (c.in_ok-nav.ensures drawn)) (c.in_ok-end.ensures drawn)
