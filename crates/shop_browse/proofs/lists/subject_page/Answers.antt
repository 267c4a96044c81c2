use Rattle.std.proofs.Common.{List, ℕ, [], ◌∷◌, ◌++◌, append-nil, refl, sym, ◌∙◌, ap}
use Rattle.shop_model.specs.declared.page.Block.TheVariants.{Heading}
use Rattle.shop_model.specs.pages.PageText.{block_line}
use Rattle.shop_model.specs.rows.Subjects.{subject_name}
use Rattle.shop_draft.specs.Templates.{filled}
use Rattle.shop_browse.proofs.ListsLemmas.{list_written}
use Rattle.shop_browse.proofs.lists.subject_page.Goals as goal

pub returns : goal.returns
returns c drawn =
    let heading = Heading (c.args.word.now ++ subject_name c.args.subject) in
    record {
      status = refl;
      text = list_written c.args.ids c.args.title.now (heading ∷ []) c.args.lines.now _ _ _ (c.in_ok-begin.ensures drawn)
          (c.in_ok-subject_heading.ensures drawn ∙ ap (λ (l : List ℕ). filled drawn c.begin.new.self ++ l) (sym (append-nil (block_line heading))))
          (c.in_ok-finish.ensures drawn);
    }
