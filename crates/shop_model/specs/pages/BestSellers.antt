-- The page of Best Sellers.
use Rattle.std.specs.Prelude.{[], ◌∷◌, ◌++◌, codes}
use Rattle.shop_model.specs.declared.page.Block.TheVariants.{Heading}
use Rattle.shop_model.specs.declared.page.Page.{Page}
use Rattle.shop_model.specs.declared.requests.IdsAsked.{IdsAsked}
use Rattle.shop_model.specs.declared.subject.Subject.{Subject}
use Rattle.shop_model.specs.declared.tables.Tables.{Tables}
use Rattle.shop_model.specs.lists.Rankings.{best}
use Rattle.shop_model.specs.rows.Subjects.{subject_name}
use Rattle.shop_model.specs.pages.Lists.{list_page}

unfoldable pub best_sellers : Tables → Subject → IdsAsked → Page
best_sellers t subject ids =
    list_page t ids (codes "Best Sellers") (Heading (codes "Best " ++ subject_name subject) ∷ []) (best t subject)
