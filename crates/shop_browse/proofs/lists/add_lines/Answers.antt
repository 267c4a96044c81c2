use Rattle.std.proofs.Common.{sym, ◌∙◌, ap, List, ◌++◌, length}
use Rattle.std.specs.List.{flat_map}
use Rattle.std.proofs.lemmas.Bool.{eqb-true}
use Rattle.shop_model.specs.declared.page.Block.{Block}
use Rattle.shop_model.specs.pages.PageText.{block_line, block_text}
use Rattle.shop_draft.specs.Templates.{filled}
use Rattle.shop_browse.proofs.ListsLemmas.{no_lines}
use Rattle.shop_browse.proofs.lists.add_lines.Goals as goal

pub returns-in_ok-put : goal.returns-in_ok-put
unfolding block_text
returns-in_ok-put c drawn =
    c.in_ok-put.ensures drawn
    ∙ ap (λ (lines : List Block). filled drawn c.args.page.now ++ flat_map block_line lines)
    (sym (no_lines c.args.ids c.args.lines.now (eqb-true (length c.args.lines.now) 0 (sym c.is_empty.ensures ∙ c.if-is_empty.true))))
