use Rattle.std.proofs.Common.{List, ℕ, [], ◌++◌, append-nil, codes, refl, sym, ◌∙◌, ap}
use Rattle.shop_model.specs.declared.page.Block.TheVariants.{Heading, Para}
use Rattle.shop_model.specs.asked.Kinds.{kind_name}
use Rattle.shop_model.specs.pages.PageText.{block_line, block_text}
use Rattle.shop_draft.specs.Templates.{filled}
use Rattle.shop_draft.proofs.cited.PageTexts.{two_values}
use Rattle.shop_browse.proofs.search_results.heading.Goals as goal

pub returns : goal.returns
unfolding block_text
returns c drawn =
    rw (← c.asked.view_is)
    (two_values (codes "<h1>Search Results</h1>\n<p>") [] (codes ": ") (codes "</p>") (codes "\n") _ _ _ _ (kind_name c.asked.inside.kind) c.asked.inside.text refl refl
    (rw c.name.ensures.name at (c.in_ok-plain.ensures drawn)) (rw c.bytes.ensures at (c.in_ok-escaped.ensures drawn)) (c.in_ok-put.ensures drawn)
    ∙ ap (λ (l : List ℕ). filled drawn c.args.page.now ++ (block_line (Heading (codes "Search Results")) ++ l))
    (sym (append-nil (block_line (Para (kind_name c.asked.inside.kind ++ codes ": " ++ c.asked.inside.text))))))
