-- The page of Home; this project's own wording of the TPC-W specification's interaction.
use Rattle.std.specs.Prelude.{ℕ, List, [], ◌∷◌, ◌++◌, Option, Some, None, codes}
use Rattle.shop_model.specs.declared.page.Block.{Block}
use Rattle.shop_model.specs.declared.page.Block.TheVariants.{Heading, Para}
use Rattle.shop_model.specs.declared.page.Page.{Page}
use Rattle.shop_model.specs.declared.requests.IdsAsked.{IdsAsked}
use Rattle.shop_model.specs.declared.subject.Subject.{Subject}
use Rattle.shop_model.specs.declared.subject.Subject.TheVariants.{Arts}
use Rattle.shop_model.specs.declared.tables.Tables.{Tables}
use Rattle.shop_model.specs.rows.Lookups.{row_numbered}
use Rattle.shop_model.specs.rows.Rows.{CustomerRow}
use Rattle.shop_model.specs.rows.Subjects.{subjects}
use Rattle.shop_model.specs.pages.Targets.{subject_link, nav}
use Rattle.shop_model.specs.population.Words.{entry}
use Rattle.shop_model.specs.pages.Promotion.{promo}

-- the ways to the new and the best sold items of a subject
unfoldable pub subject_links : Subject → IdsAsked → List Block
subject_links subject ids =
    subject_link (codes "/new_products") subject ids (codes "New ")
    ∷ subject_link (codes "/best_sellers") subject ids (codes "Best ")
    ∷ []

-- the greeting of a customer
unfoldable pub greeting : CustomerRow → List ℕ
greeting customer = codes "Hello " ++ customer.first ++ codes " " ++ customer.last

-- the greeting, where a customer is known
abbrev pub greetings : Option CustomerRow → List Block
greetings None = []
greetings (Some customer) = Para (greeting customer) ∷ []

-- the page of Home, for a customer or for anyone
unfoldable pub home_page : Tables → IdsAsked → ℕ → Option CustomerRow → Page
home_page tables ids draw customer = record {
  status = 200;
  title = codes "Home";
  blocks =
      Heading (codes "Welcome")
      ∷ greetings customer
      ++ promo tables ids draw
      ++ subject_links (entry Arts subjects draw) ids
      ++ nav ids;
}

-- the customer with the number that a request gives, if it gives one
abbrev pub customer_asked : Tables → Option ℕ → Option CustomerRow
customer_asked tables None = None
customer_asked tables (Some number) = row_numbered tables.customers number
