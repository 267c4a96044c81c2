-- What an act makes of the tables, and of which request it is.
use Rattle.std.specs.Prelude.{◌≡◌, ℕ, ◌+◌, [], length, Option, Some, None, unwrap_or}
use Rattle.shop_model.specs.declared.page.Page.{Page}
use Rattle.shop_model.specs.declared.requests.Request.{Request}
use Rattle.shop_model.specs.declared.buying.BuyRequest as buying
use Rattle.shop_model.specs.declared.buying.Buyer.{Buyer}
use Rattle.shop_model.specs.declared.buying.Buyer.TheVariants.{Returning, Newcomer}
use Rattle.shop_model.specs.declared.refusal.Refusal.TheVariants.{NoUserName, NoCustomer, NoItem}
use Rattle.shop_model.specs.declared.requests.Request.TheVariants.{CartRequest, BuyRequest, BuyConfirm, AdminConfirm, AdminAdd}
use Rattle.shop_model.specs.declared.tables.Tables.{Tables}
use Rattle.shop_model.specs.declared.tax.TaxRule.{TaxRule}
use Rattle.shop_model.specs.asked.AddAsked.{AddAsked, IsAddAsked}
use Rattle.shop_model.specs.asked.AdminAsked.{AdminAsked, IsAdminAsked}
use Rattle.shop_model.specs.asked.CartAsked.{CartAsked, IsCartAsked}
use Rattle.shop_model.specs.asked.CustomersAsked.{IsId, IsLoginAsked, IsNewcomerAsked}
use Rattle.shop_model.specs.asked.PurchaseAsked.{PurchaseAsked, IsPurchaseAsked}
use Rattle.shop_model.specs.asked.Refusals.{page_of}
use Rattle.shop_model.specs.rows.Lookups.{row_numbered, rate_of}
use Rattle.shop_model.specs.rows.Rows.{CustomerRow, ItemRow}
use Rattle.shop_model.specs.trade.Adding.{tables_added}
use Rattle.shop_model.specs.trade.Buyers.{buyer_country, buyer_row, tables_entered}
use Rattle.shop_model.specs.trade.Carts.{lines_named, lines_after, cart_meant, carts_with}
use Rattle.shop_model.specs.trade.Mending.{mended_item, tables_mended}
use Rattle.shop_model.specs.trade.Sales.{Terms, new_order, tables_bought}
use Rattle.shop_model.specs.pages.AdminAdd.{added_page}
use Rattle.shop_model.specs.pages.AdminConfirm.{mended_page}
use Rattle.shop_model.specs.pages.BuyConfirm.{confirm_page, purchase_ids}
use Rattle.shop_model.specs.pages.BuyRequest.{buy_request}
use Rattle.shop_model.specs.pages.ShoppingCart.{cart_page, ids_with}
use Rattle.shop_history.specs.declared.acts.Act.{Act}
use Rattle.shop_history.specs.declared.acts.Act.TheVariants.{Cart, Enter, Confirm, Admin, Add}

-- what an act gives: the tables, and the page
pub record Played : Type 0 where
  pub tables : Tables
  pub page : Page

-- what a request for a cart gives
abbrev pub play_cart : Tables → CartAsked → ℕ → Played
play_cart t asked draw = record {
  tables = record t { carts = carts_with t.carts asked.ids.cart (lines_after t asked draw) };
  page =
      cart_page t (ids_with asked.ids (cart_meant t.carts asked.ids.cart))
      (cart_meant t.carts asked.ids.cart) (lines_after t asked draw);
}

-- what a customer is shown who buys a cart; there is one where the check is none
abbrev pub buyer_page : Tables → buying.BuyRequest → Option CustomerRow → Page
buyer_page t asked None = page_of NoUserName
buyer_page t asked (Some customer) =
    buy_request t customer asked.cart (unwrap_or (lines_named t.carts (Some asked.cart)) [])
    (rate_of t (buyer_country t asked.buyer customer))

-- what a request to buy a cart gives
abbrev pub play_enter : Tables → ℕ → buying.BuyRequest → ℕ → Played
play_enter t stamp asked draw = record {
  tables = tables_entered t stamp draw asked.buyer;
  page = buyer_page t asked (buyer_row t stamp draw asked.buyer);
}

-- what a customer is shown who bought a cart; there is one where the check is none
abbrev pub purchase_page : Tables → ℕ → ℕ → Terms → PurchaseAsked → Option CustomerRow → Page
purchase_page t stamp draw terms asked None = page_of NoCustomer
purchase_page t stamp draw terms asked (Some customer) =
    confirm_page t (purchase_ids asked) (new_order t stamp draw terms asked customer)

-- what a purchase gives
abbrev pub play_confirm : Tables → ℕ → PurchaseAsked → ℕ → Terms → Played
play_confirm t stamp asked draw terms = record {
  tables = tables_bought t stamp draw terms asked (row_numbered t.customers asked.c);
  page = purchase_page t stamp draw terms asked (row_numbered t.customers asked.c);
}

-- what is shown of an item that was administered; there is one where the check is none
abbrev pub administered_page : Tables → ℕ → AdminAsked → Option ItemRow → Page
administered_page t stamp asked None = page_of NoItem
administered_page t stamp asked (Some item) = mended_page t asked.ids (mended_item t stamp asked item)

-- what the administration of an item gives
abbrev pub play_admin : Tables → ℕ → AdminAsked → Played
play_admin t stamp asked = record {
  tables = tables_mended t stamp asked;
  page = administered_page t stamp asked (row_numbered t.items asked.item);
}

-- what an item that is added gives
abbrev pub play_add : Tables → ℕ → AddAsked → Played
play_add t stamp asked = record {
  tables = tables_added t stamp asked;
  page = added_page asked.ids (length t.items + 1) asked.title;
}

-- what an act gives at a stamp, where the check of its request is none
abbrev pub play : Tables → ℕ → Act → Played
play t stamp (Cart asked draw) = play_cart t asked draw
play t stamp (Enter asked draw) = play_enter t stamp asked draw
play t stamp (Confirm asked draw auth tax) = play_confirm t stamp asked draw (record { auth = auth; tax = tax })
play t stamp (Admin asked) = play_admin t stamp asked
play t stamp (Add asked) = play_add t stamp asked

-- the request that an act does
abbrev pub request_of : Act → Request
request_of (Cart asked draw) = CartRequest asked
request_of (Enter asked draw) = BuyRequest asked
request_of (Confirm asked draw auth tax) = BuyConfirm asked
request_of (Admin asked) = AdminConfirm asked
request_of (Add asked) = AdminAdd asked

-- an act has the word that was drawn for its request, if it needs it
abbrev pub HasDrawn : ℕ → Act → Type 0
HasDrawn draw (Cart asked word) = word ≡ draw
HasDrawn draw (Enter asked word) = word ≡ draw
HasDrawn draw (Confirm asked word auth tax) = word ≡ draw
HasDrawn draw (Admin asked) = Unit {0}
HasDrawn draw (Add asked) = Unit {0}

-- a purchase is taxed by this rule
abbrev pub HasTax : TaxRule → Act → Type 0
HasTax tax (Cart asked draw) = Unit {0}
HasTax tax (Enter asked draw) = Unit {0}
HasTax tax (Confirm asked draw auth rule) = rule ≡ tax
HasTax tax (Admin asked) = Unit {0}
HasTax tax (Add asked) = Unit {0}

-- an act does this request, with this word, and taxes it by this rule
pub record IsActOf (request : Request) (draw : ℕ) (tax : TaxRule) (act : Act) : Type 0 where
  pub does : request_of act ≡ request
  pub drew : HasDrawn draw act
  pub taxed : HasTax tax act

-- what is said of a buyer is in its forms
abbrev pub IsBuyer : Buyer → Type 0
IsBuyer (Returning asked) = IsLoginAsked asked
IsBuyer (Newcomer asked) = IsNewcomerAsked asked

-- the parameters of an act are in their forms
abbrev pub IsInForm : Act → Type 0
IsInForm (Cart asked draw) = IsCartAsked asked
IsInForm (Enter asked draw) = IsId asked.cart × IsBuyer asked.buyer
IsInForm (Confirm asked draw auth tax) = IsPurchaseAsked asked
IsInForm (Admin asked) = IsAdminAsked asked
IsInForm (Add asked) = IsAddAsked asked
