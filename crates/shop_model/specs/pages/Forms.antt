-- Fields and forms that pages share; all this project's own.
use Rattle.std.specs.Prelude.{ℕ, List, [], ◌∷◌, Option, Some, None, codes}
use Rattle.shop_model.specs.declared.page.Block.{Block}
use Rattle.shop_model.specs.declared.page.Block.TheVariants.{Form}
use Rattle.shop_model.specs.declared.page.Field.{Field}
use Rattle.shop_model.specs.declared.requests.IdsAsked.{IdsAsked}
use Rattle.shop_model.specs.rows.Rows.{CustomerRow}
use Rattle.shop_model.specs.pages.Targets.{id_fields}

-- a field whose value is a text
abbrev pub text_field : List ℕ → List ℕ → Field
text_field name value = record { name = name; value = value }

-- a field to be filled in
abbrev pub empty_field : List ℕ → Field
empty_field name = text_field name []

-- the user name of a customer, where one is known
abbrev pub user_of : Option CustomerRow → List ℕ
user_of None = []
user_of (Some customer) = customer.user

-- the form in which a customer logs in
unfoldable pub login_form : List ℕ → Option CustomerRow → IdsAsked → Block
login_form path customer ids =
    Form path (text_field (codes "user") (user_of customer) ∷ empty_field (codes "pass") ∷ id_fields ids)
