-- The targets of links, and the ids that a page hands on; all this project's own.
use Rattle.std.specs.Prelude.{ℕ, List, [], ◌∷◌, ◌++◌, Option, Some, None, codes, decimal}
use Rattle.std.specs.List.{flat_map}
use Rattle.shop_model.specs.declared.page.Block.{Block}
use Rattle.shop_model.specs.declared.page.Block.TheVariants.{Link}
use Rattle.shop_model.specs.declared.page.Field.{Field}
use Rattle.shop_model.specs.declared.page.Page.{Page}
use Rattle.shop_model.specs.declared.requests.IdsAsked.{IdsAsked}
use Rattle.shop_model.specs.declared.subject.Subject.{Subject}
use Rattle.shop_model.specs.rows.Subjects.{subject_name}

-- a field whose value is a number
abbrev pub number_field : List ℕ → ℕ → Field
number_field name number = record { name = name; value = decimal number }

-- an id, where a request has it
abbrev pub id_field : List ℕ → Option ℕ → List Field
id_field name None = []
id_field name (Some id) = number_field name id ∷ []

-- the ids of a request: the customer, then the cart
unfoldable pub id_fields : IdsAsked → List Field
id_fields ids = id_field (codes "c") ids.c ++ id_field (codes "cart") ids.cart

-- each pair behind a sign: this one before the first, & before the others
unfoldable pub pairs : List ℕ → List Field → List ℕ
pairs sign [] = []
pairs sign (field ∷ fields) =
    sign ++ field.name ++ codes "=" ++ field.value ++ pairs (codes "&") fields

-- a path and its parameters, if any
abbrev pub target : List ℕ → List Field → List ℕ
target path parameters = path ++ pairs (codes "?") parameters

-- a path with an item, and the ids
abbrev pub item_target : List ℕ → ℕ → IdsAsked → List ℕ
item_target path item ids = target path (number_field (codes "item") item ∷ id_fields ids)

-- a path with the name of a subject, and the ids
abbrev pub subject_target : List ℕ → Subject → IdsAsked → List ℕ
subject_target path subject ids =
    target path (record { name = codes "subject"; value = subject_name subject } ∷ id_fields ids)

-- a link with no parameters but the ids
abbrev pub plain_link : List ℕ → IdsAsked → List ℕ → Block
plain_link path ids label = Link (target path (id_fields ids)) label

-- a link about an item
abbrev pub item_link : List ℕ → ℕ → IdsAsked → List ℕ → Block
item_link path item ids label = Link (item_target path item ids) label

-- a link about a subject, whose name ends the label
abbrev pub subject_link : List ℕ → Subject → IdsAsked → List ℕ → Block
subject_link path subject ids label =
    Link (subject_target path subject ids) (label ++ subject_name subject)

-- the links that end each page
unfoldable pub nav : IdsAsked → List Block
nav ids =
    plain_link (codes "/home") ids (codes "Home")
    ∷ plain_link (codes "/search_request") ids (codes "Search")
    ∷ plain_link (codes "/shopping_cart") ids (codes "Cart")
    ∷ []

-- the target of a link; none of any other block
abbrev pub link_target : Block → List (List ℕ)
link_target (Link target label) = target ∷ []
link_target other = []

-- the targets of a page's links, in order
abbrev pub targets_of : Page → List (List ℕ)
targets_of page = flat_map link_target page.blocks
