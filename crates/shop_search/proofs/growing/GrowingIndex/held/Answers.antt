use Rattle.std.proofs.Common.{◌∙◌, sym, ap}
use Rattle.shop_model.specs.declared.requests.SearchKind.TheVariants as kind
use Rattle.shop_search.specs.Growing.{Growth, held_at}
use Rattle.shop_search.proofs.GrowingLemmas.{held_answers}
use Rattle.shop_search.proofs.growing.GrowingIndex.held.Goals as goal

pub returns-in-Title : goal.returns-in-Title
returns-in-Title c =
    held_answers _ c.args.self.now.contents kind.Title c.args.sought.now.kind c.args.sought.now.text c.held.result.now c.self.invariant.held.titles_held
    (ap (λ (g : Growth). g.contents) c.self.view_is) (sym c.kind.ensures ∙ c.in-Title.is) c.text-text.ensures.form
    (c.held.ensures ∙ ap (held_at c.self.inside.title_lists) c.text-text.ensures.value)

pub returns-in-Author : goal.returns-in-Author
returns-in-Author c =
    held_answers _ c.args.self.now.contents kind.Author c.args.sought.now.kind c.args.sought.now.text c.held-in-Author.result.now c.self.invariant.held.authors_held
    (ap (λ (g : Growth). g.contents) c.self.view_is) (sym c.kind.ensures ∙ c.in-Author.is) c.text-text.ensures.form
    (c.held-in-Author.ensures ∙ ap (held_at c.self.inside.author_lists) c.text-text.ensures.value)
