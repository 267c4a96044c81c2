-- The page of New Products.
use Rattle.std.specs.Prelude.{[], ◌∷◌, ◌++◌, codes}
use Rattle.shop_model.specs.declared.page.Block.TheVariants.{Heading}
use Rattle.shop_model.specs.declared.page.Page.{Page}
use Rattle.shop_model.specs.declared.requests.IdsAsked.{IdsAsked}
use Rattle.shop_model.specs.declared.subject.Subject.{Subject}
use Rattle.shop_model.specs.declared.tables.Tables.{Tables}
use Rattle.shop_model.specs.lists.Rankings.{newest}
use Rattle.shop_model.specs.rows.Subjects.{subject_name}
use Rattle.shop_model.specs.pages.Lists.{list_page}

unfoldable pub new_products : Tables → Subject → IdsAsked → Page
new_products t subject ids =
    list_page t ids (codes "New Products") (Heading (codes "New " ++ subject_name subject) ∷ []) (newest t subject)
