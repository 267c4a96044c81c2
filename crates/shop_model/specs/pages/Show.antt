-- Why the tables refuse a request, and what each request shows.
use Rattle.std.specs.Prelude.{ℕ, Option, Some, None, Bool, true, false}
use Rattle.shop_model.specs.declared.page.Page.{Page}
use Rattle.shop_model.specs.declared.requests.Request.{Request}
use Rattle.shop_model.specs.declared.requests.Request.TheVariants.{Home, NewProducts, BestSellers, ProductDetail, SearchRequest, SearchResults, CartRequest, CustomerRegistration, BuyRequest, BuyConfirm, OrderInquiry, OrderDisplay, AdminRequest, AdminConfirm, AdminAdd}
use Rattle.shop_model.specs.declared.tables.Tables.{Tables}
use Rattle.shop_model.specs.declared.refusal.Refusal.{Refusal}
use Rattle.shop_model.specs.pages.NewProducts.{new_products}
use Rattle.shop_model.specs.pages.BestSellers.{best_sellers}
use Rattle.shop_model.specs.pages.SearchResults.{search_results}
use Rattle.shop_model.specs.pages.ProductDetail.{product_detail}
use Rattle.shop_model.specs.asked.Refusals.{page_of}
use Rattle.shop_model.specs.pages.Home.{home_page, customer_asked}
use Rattle.shop_model.specs.pages.SearchRequest.{search_request}
use Rattle.shop_model.specs.declared.refusal.Refusal.TheVariants.{NoItem, NoCustomer}
use Rattle.shop_model.specs.trade.Adding.{check_add}
use Rattle.shop_model.specs.trade.Buyers.{check_enter, check_login}
use Rattle.shop_model.specs.trade.Carts.{check_cart}
use Rattle.shop_model.specs.trade.Sales.{check_purchase}
use Rattle.shop_model.specs.pages.AdminRequest.{admin_request}
use Rattle.shop_model.specs.pages.CustomerRegistration.{customer_registration}
use Rattle.shop_model.specs.pages.OrderDisplay.{order_display}
use Rattle.shop_model.specs.pages.OrderInquiry.{order_inquiry}
use Rattle.shop_model.specs.rows.Lookups.{row_numbered}

-- whether a request changes rows, where nothing refuses it
abbrev pub is_changing : Request → Bool
is_changing (CartRequest asked) = true
is_changing (BuyRequest asked) = true
is_changing (BuyConfirm asked) = true
is_changing (AdminConfirm asked) = true
is_changing (AdminAdd asked) = true
is_changing _ = false

-- a row that has to be there
abbrev pub check_there : {Row : Type 0} → Refusal → Option Row → Option Refusal
check_there refusal None = Some refusal
check_there refusal (Some row) = None

-- the customer that a request names is there, where it names one
abbrev pub check_customer : Tables → Option ℕ → Option Refusal
check_customer t None = None
check_customer t (Some number) = check_there NoCustomer (row_numbered t.customers number)

-- why a request is refused by the tables, if it is: its first check that fails
abbrev pub check : Tables → Request → Option Refusal
check t (Home asked) = check_customer t asked.ids.c
check t (NewProducts asked) = None
check t (BestSellers asked) = None
check t (ProductDetail asked) = check_there NoItem (row_numbered t.items asked.item)
check t (SearchRequest asked) = None
check t (SearchResults asked) = None
check t (CartRequest asked) = check_cart t asked
check t (CustomerRegistration asked) = check_customer t asked.ids.c
check t (BuyRequest asked) = check_enter t asked.cart asked.buyer
check t (BuyConfirm asked) = check_purchase t asked
check t (OrderInquiry asked) = check_customer t asked.ids.c
check t (OrderDisplay asked) = check_login t asked.login
check t (AdminRequest asked) = check_there NoItem (row_numbered t.items asked.item)
check t (AdminConfirm asked) = check_there NoItem (row_numbered t.items asked.item)
check t (AdminAdd asked) = check_add t asked

-- what a request that only reads shows where nothing refuses it
abbrev pub page_for : Tables → Request → ℕ → Option Page
page_for tables (Home asked) draw = Some (home_page tables asked.ids draw (customer_asked tables asked.ids.c))
page_for tables (NewProducts asked) draw = Some (new_products tables asked.subject asked.ids)
page_for tables (BestSellers asked) draw = Some (best_sellers tables asked.subject asked.ids)
page_for tables (ProductDetail asked) draw = product_detail tables asked.item asked.ids
page_for tables (SearchRequest asked) draw = Some (search_request tables asked.ids draw)
page_for tables (SearchResults asked) draw = Some (search_results tables asked.kind asked.text asked.ids)
page_for tables (CustomerRegistration asked) draw = Some (customer_registration asked.ids (customer_asked tables asked.ids.c))
page_for tables (OrderInquiry asked) draw = Some (order_inquiry asked.ids (customer_asked tables asked.ids.c))
page_for tables (OrderDisplay asked) draw = order_display tables asked.login asked.ids
page_for tables (AdminRequest asked) draw = admin_request tables asked.item asked.ids
page_for tables _ draw = None

-- the page of a refusal, where there is one, or else another
abbrev pub refused_or : Option Refusal → Option Page → Option Page
refused_or None page = page
refused_or (Some refusal) page = Some (page_of refusal)

-- what a request shows by the tables, with the word that was drawn for it: why it is refused, or what it
-- reads; and nothing where it would change rows
abbrev pub show : Tables → Request → ℕ → Option Page
show tables request draw = refused_or (check tables request) (page_for tables request draw)
