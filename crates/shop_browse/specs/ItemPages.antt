-- The two pages of an item: what is asked for.
use Rattle.std.specs.Prelude.{ℕ}
use Rattle.shop_model.specs.declared.requests.Request.{Request}
use Rattle.shop_model.specs.declared.requests.Request.TheVariants.{ProductDetail, AdminRequest}
use Rattle.shop_browse.specs.declared.item_pages.ItemPage.{ItemPage}
use Rattle.shop_browse.specs.declared.item_pages.ItemPage.TheVariants.{Detail, Admin}

-- the request for the page
abbrev pub request_of : ItemPage → Request
request_of (Detail asked) = ProductDetail asked.now
request_of (Admin asked) = AdminRequest asked.now

-- the id of the item
abbrev pub item_of : ItemPage → ℕ
item_of (Detail asked) = asked.now.item
item_of (Admin asked) = asked.now.item
