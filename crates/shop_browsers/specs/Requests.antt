-- What a browser asks for; all this project's own.
use Rattle.std.specs.Prelude.{ℕ, ◌+◌, ◌%◌, ◌==◌, false, List, [], ◌∷◌, ◌++◌, codes, if◌then◌else◌}
use Rattle.shop_text.specs.Texts.{digsyl, digsyl_lower}
use Rattle.shop_model.specs.declared.card_type.CardType.TheVariants.{Visa}
use Rattle.shop_model.specs.declared.page.Field.{Field}
use Rattle.shop_model.specs.declared.requests.Interaction.{Interaction}
use Rattle.shop_model.specs.declared.requests.Interaction.TheVariants.{NewProducts, BestSellers, ProductDetail, SearchResults, ShoppingCart, BuyRequest, BuyConfirm, OrderDisplay, AdminRequest, AdminConfirm}
use Rattle.shop_model.specs.declared.requests.SearchKind.{SearchKind}
use Rattle.shop_model.specs.declared.requests.SearchKind.TheVariants as kind
use Rattle.shop_model.specs.declared.subject.Subject.TheVariants.{Arts}
use Rattle.shop_model.specs.asked.Interactions.{path_of}
use Rattle.shop_model.specs.asked.Kinds.{kind_name}
use Rattle.shop_model.specs.pages.Forms.{text_field}
use Rattle.shop_model.specs.pages.Targets.{number_field, id_field, id_fields, target}
use Rattle.shop_model.specs.population.Words.{entry, nouns, first_names, last_names}
use Rattle.shop_model.specs.rows.Subjects.{subjects, subject_name, card_types, card_name}
use Rattle.shop_message.specs.declared.messages.Message.{Message}
use Rattle.shop_browsers.specs.Browsers.{BrowserState, word_at, meant}

-- the name of the subject that word 2 picks
abbrev pub subject_drawn : BrowserState → List ℕ
subject_drawn b = subject_name (entry Arts subjects (word_at b 2))

-- the item that word 1 picks
abbrev pub item_drawn : BrowserState → ℕ
item_drawn b = 1 + word_at b 1 % b.scale.items

abbrev pub item_field : BrowserState → Field
item_field b = number_field (codes "item") (item_drawn b)

-- the kinds of searches
unfoldable pub kinds : List SearchKind
kinds = kind.Title ∷ kind.Author ∷ kind.Subject ∷ []

-- the kind that word 1 picks
abbrev pub kind_drawn : BrowserState → SearchKind
kind_drawn b = entry kind.Title kinds (word_at b 1)

-- what a search of each kind is for: a noun of titles, a last name, a subject, by word 2
abbrev pub text_drawn : BrowserState → SearchKind → List ℕ
text_drawn b kind.Title = entry [] nouns (word_at b 2)
text_drawn b kind.Author = entry [] last_names (word_at b 2)
text_drawn b kind.Subject = subject_drawn b

-- a search
abbrev pub search_fields : BrowserState → List Field
search_fields b =
    text_field (codes "kind") (kind_name (kind_drawn b)) ∷ text_field (codes "text") (text_drawn b (kind_drawn b)) ∷ []

-- the customer whom word 3 picks, of those whom the shop opens with
abbrev pub customer_drawn : BrowserState → ℕ
customer_drawn b = 1 + word_at b 3 % b.scale.customers

-- who logs in with the name and the password of that id
abbrev pub login_fields : BrowserState → List Field
login_fields b =
    text_field (codes "user") (digsyl (customer_drawn b)) ∷ text_field (codes "pass") (digsyl_lower (customer_drawn b)) ∷ []

-- a new customer, by words 1 and 2
abbrev pub newcomer_fields : BrowserState → List Field
newcomer_fields b =
    text_field (codes "fn") (entry [] first_names (word_at b 1))
    ∷ text_field (codes "ln") (entry [] last_names (word_at b 2))
    ∷ text_field (codes "street1") (entry [] nouns (word_at b 1))
    ∷ text_field (codes "city") (entry [] last_names (word_at b 1))
    ∷ text_field (codes "zip") (codes "10000")
    ∷ number_field (codes "country") (1 + word_at b 2 % 92)
    ∷ text_field (codes "phone") (codes "5550000000")
    ∷ text_field (codes "email") (codes "b@shop.example")
    ∷ []

-- who buys: one time in five, by word 3, a new customer
abbrev pub buyer_fields : BrowserState → List Field
buyer_fields b = if word_at b 3 % 5 == 0 then newcomer_fields b else login_fields b

-- a payment card, whose type word 1 picks
abbrev pub card_fields : BrowserState → List Field
card_fields b =
    text_field (codes "card") (card_name (entry Visa card_types (word_at b 1)))
    ∷ text_field (codes "number") (codes "4111222233334444")
    ∷ text_field (codes "name") (codes "B")
    ∷ text_field (codes "expiry") (codes "2030-12")
    ∷ []

-- an item's new cost in cents, by word 2, and its new pictures
abbrev pub change_fields : BrowserState → List Field
change_fields b =
    item_field b
    ∷ number_field (codes "cost") (100 + word_at b 2 % 9900)
    ∷ text_field (codes "image") (codes "/img/new.gif")
    ∷ text_field (codes "thumb") (codes "/img/newthumb.gif")
    ∷ []

-- the ids that it has
abbrev pub carried : BrowserState → List Field
carried b = id_fields (record { c = b.customer; cart = b.cart })

-- all parameters of an interaction
abbrev pub parameters_of : BrowserState → Interaction → List Field
parameters_of b NewProducts = text_field (codes "subject") (subject_drawn b) ∷ carried b
parameters_of b BestSellers = text_field (codes "subject") (subject_drawn b) ∷ carried b
parameters_of b ProductDetail = item_field b ∷ carried b
parameters_of b SearchResults = search_fields b ++ carried b
parameters_of b ShoppingCart = item_field b ∷ carried b
parameters_of b BuyRequest = id_field (codes "cart") b.cart ++ buyer_fields b
parameters_of b BuyConfirm = carried b ++ card_fields b
parameters_of b OrderDisplay = login_fields b ++ carried b
parameters_of b AdminRequest = item_field b ∷ carried b
parameters_of b AdminConfirm = change_fields b ++ carried b
parameters_of b _ = carried b

-- the target of its next request; the values stand as they are, not encoded
abbrev pub target_of : BrowserState → List ℕ
target_of b = target (path_of (meant b)) (parameters_of b (meant b))

-- the bytes of its next request, whose head has the field `Host` alone (RFC 9112, section 3.2)
abbrev pub message_bytes : BrowserState → List ℕ
message_bytes b = codes "GET " ++ target_of b ++ codes " HTTP/1.1\r\nHost: shop\r\n\r\n"

-- the message that these bytes are
abbrev pub request_message : BrowserState → Message
request_message b = record { method = codes "GET"; target = target_of b; body = []; close = false }

-- a message that asks for nothing yet
abbrev pub no_message : Message
no_message = record { method = codes "GET"; target = []; body = []; close = false }
