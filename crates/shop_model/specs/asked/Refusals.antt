-- The refusals that are fixed but for the name of a parameter: what HTTP says, and what the page says. The phrases
-- are those of RFC 9110, section 15, but that 413 keeps the one of RFC 7231, section 6.5.11; 431 is of
-- RFC 6585, section 5, and 507 of RFC 4918, section 11.5. The texts are this project's own.
use Rattle.std.specs.Prelude.{ℕ, List, [], ◌∷◌, codes}
use Rattle.shop_model.specs.declared.page.Block.TheVariants.{Para}
use Rattle.shop_model.specs.declared.page.Page.{Page}
use Rattle.shop_model.specs.declared.refusal.Refusal.{Refusal}
use Rattle.shop_model.specs.declared.refusal.Refusal.TheVariants.{BadRequest, BadParameter, EmptyCart, FullCart, FullLine, FullShop, CardReused, CardStolen, CardOverLimit, WrongPassword, NoPage, NoItem, NoAuthor, NoCart, NoCustomer, NoUserName, NotGetOrPost, LargeBody, LargeHead, TransferEncoding, GatewayFailed, RowsKeptChanging, FullLog}
use Rattle.shop_model.specs.asked.Parameters.{bad_parameter}

-- a status, its reason phrase, and why
pub record Answer : Type 0 where
  pub status : ℕ
  pub phrase : List ℕ
  pub text : List ℕ

-- the client sent what the shop can't take
abbrev pub bad_request : List ℕ → Answer
bad_request text = record { status = 400; phrase = codes "Bad Request"; text = text }

-- the gateway refused the card
abbrev pub payment_required : List ℕ → Answer
payment_required text = record { status = 402; phrase = codes "Payment Required"; text = text }

-- what was named is not there
abbrev pub not_found : List ℕ → Answer
not_found text = record { status = 404; phrase = codes "Not Found"; text = text }

-- the table of refusals
abbrev pub answer_of : Refusal → Answer
answer_of BadRequest = bad_request (codes "Bad request.")
answer_of (BadParameter parameter) = bad_request (bad_parameter parameter)
answer_of EmptyCart = bad_request (codes "The cart is empty.")
answer_of FullCart = bad_request (codes "A cart holds at most 100 lines.")
answer_of FullLine = bad_request (codes "A line holds at most 999.")
answer_of FullShop = bad_request (codes "The shop holds at most 10000 items.")
answer_of CardReused = payment_required (codes "The card was refused: reused.")
answer_of CardStolen = payment_required (codes "The card was refused: stolen.")
answer_of CardOverLimit = payment_required (codes "The card was refused: limit.")
answer_of WrongPassword =
    record { status = 403; phrase = codes "Forbidden"; text = codes "Wrong password." }
answer_of NoPage = not_found (codes "No such page.")
answer_of NoItem = not_found (codes "No item has this number.")
answer_of NoAuthor = not_found (codes "No author has this number.")
answer_of NoCart = not_found (codes "No cart has this number.")
answer_of NoCustomer = not_found (codes "No customer has this number.")
answer_of NoUserName = not_found (codes "No customer has this name.")
answer_of NotGetOrPost =
    record { status = 405; phrase = codes "Method Not Allowed"; text = codes "Use GET or POST." }
answer_of LargeBody =
    record { status = 413; phrase = codes "Payload Too Large"; text = codes "The body is too large." }
answer_of LargeHead = record {
  status = 431;
  phrase = codes "Request Header Fields Too Large";
  text = codes "The head is too large.";
}
answer_of TransferEncoding =
    record { status = 501; phrase = codes "Not Implemented"; text = codes "Transfer-Encoding is not served." }
answer_of GatewayFailed =
    record { status = 502; phrase = codes "Bad Gateway"; text = codes "The payment gateway failed." }
answer_of RowsKeptChanging = record {
  status = 503;
  phrase = codes "Service Unavailable";
  text = codes "The rows kept changing.";
}
answer_of FullLog =
    record { status = 507; phrase = codes "Insufficient Storage"; text = codes "The log is full." }

abbrev pub status_of : Refusal → ℕ
status_of refusal = (answer_of refusal).status

abbrev pub phrase_of : Refusal → List ℕ
phrase_of refusal = (answer_of refusal).phrase

abbrev pub text_of : Refusal → List ℕ
text_of refusal = (answer_of refusal).text

-- a refusal says why in one paragraph, under the reason phrase of its status
unfoldable pub refusal_page : ℕ → List ℕ → List ℕ → Page
refusal_page status phrase text = record { status = status; title = phrase; blocks = Para text ∷ [] }

-- the page of each refusal
abbrev pub page_of : Refusal → Page
page_of refusal = refusal_page (status_of refusal) (phrase_of refusal) (text_of refusal)
