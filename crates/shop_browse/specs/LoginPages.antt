-- Requests for the pages on which a customer logs in.
use Rattle.std.specs.Prelude.{Option}
use Rattle.shop_model.specs.declared.page.Page.{Page}
use Rattle.shop_model.specs.declared.requests.IdsAsked.{IdsAsked}
use Rattle.shop_model.specs.declared.requests.Request.{Request}
use Rattle.shop_model.specs.declared.requests.Request.TheVariants.{CustomerRegistration, OrderInquiry}
use Rattle.shop_model.specs.pages.CustomerRegistration.{customer_registration}
use Rattle.shop_model.specs.pages.OrderInquiry.{order_inquiry}
use Rattle.shop_model.specs.rows.Rows.{CustomerRow}
use Rattle.shop_browse.specs.declared.login_pages.LoginPage.{LoginPage}
use Rattle.shop_browse.specs.declared.login_pages.LoginPage.TheVariants.{Registration, Inquiry}

-- what is asked for
abbrev pub request_of : LoginPage → Request
request_of (Registration asked) = CustomerRegistration asked.now
request_of (Inquiry asked) = OrderInquiry asked.now

-- the ids that it carries along
abbrev pub ids_of : LoginPage → IdsAsked
ids_of (Registration asked) = asked.now.ids
ids_of (Inquiry asked) = asked.now.ids

-- its page with these ids, for a customer or for anyone
abbrev pub page_with : LoginPage → IdsAsked → Option CustomerRow → Page
page_with (Registration asked) = customer_registration
page_with (Inquiry asked) = order_inquiry
