-- The page of Customer Registration; this project's own wording of the TPC-W specification's interaction.
use Rattle.std.specs.Prelude.{List, [], ◌∷◌, ◌++◌, Option, codes}
use Rattle.shop_model.specs.declared.page.Block.{Block}
use Rattle.shop_model.specs.declared.page.Block.TheVariants.{Heading, Form}
use Rattle.shop_model.specs.declared.page.Field.{Field}
use Rattle.shop_model.specs.declared.page.Page.{Page}
use Rattle.shop_model.specs.declared.requests.IdsAsked.{IdsAsked}
use Rattle.shop_model.specs.rows.Rows.{CustomerRow}
use Rattle.shop_model.specs.pages.Forms.{empty_field, login_form}
use Rattle.shop_model.specs.pages.Targets.{id_fields, nav}

-- what is asked of a new customer
abbrev pub newcomer_fields : List Field
newcomer_fields =
    empty_field (codes "fn")
    ∷ empty_field (codes "ln")
    ∷ empty_field (codes "street1")
    ∷ empty_field (codes "street2")
    ∷ empty_field (codes "city")
    ∷ empty_field (codes "state")
    ∷ empty_field (codes "zip")
    ∷ empty_field (codes "country")
    ∷ empty_field (codes "phone")
    ∷ empty_field (codes "email")
    ∷ []

-- the form of a new customer
unfoldable pub newcomer_form : IdsAsked → Block
newcomer_form ids = Form (codes "/buy_request") (newcomer_fields ++ id_fields ids)

-- for a customer or for anyone
unfoldable pub customer_registration : IdsAsked → Option CustomerRow → Page
customer_registration ids customer = record {
  status = 200;
  title = codes "Customer Registration";
  blocks =
      Heading (codes "Your details")
      ∷ login_form (codes "/buy_request") customer ids
      ∷ newcomer_form ids
      ∷ nav ids;
}
