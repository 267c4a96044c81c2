-- What the pages on which a customer logs in show of the one whose number may be given.
use Rattle.std.proofs.Common.{◌≡◌, ℕ, List, Option, Some, None, refl, sym}
use Rattle.shop_model.specs.declared.refusal.Refusal.TheVariants.{NoCustomer}
use Rattle.shop_model.specs.declared.requests.IdsAsked.{IdsAsked}
use Rattle.shop_model.specs.declared.tables.Tables.{Tables}
use Rattle.shop_model.specs.asked.Refusals.{page_of}
use Rattle.shop_model.specs.pages.Home.{customer_asked}
use Rattle.shop_model.specs.pages.Show.{check_customer, refused_or, show}
use Rattle.shop_model.specs.rows.Rows.{CustomerRow}
use Rattle.shop_cache.specs.Keys.{key_asked}
use Rattle.shop_attempt.specs.declared.attempts.ReadOf.{ReadOf}
use Rattle.shop_browse.specs.declared.login_pages.LoginPage.{LoginPage}
use Rattle.shop_browse.specs.declared.login_pages.LoginPage.TheVariants.{Registration, Inquiry}
use Rattle.shop_browse.specs.Known.{IsThere}
use Rattle.shop_browse.specs.LoginPages.{request_of, ids_of, page_with}

pub no_list : (asked : LoginPage) → key_asked (request_of asked) ≡ None
no_list (Registration asked) = refl
no_list (Inquiry asked) = refl

module _ (t : Tables) (draw : ℕ) where
  show_is : (asked : LoginPage)
      → show t (request_of asked) draw ≡ refused_or (check_customer t (ids_of asked).c) (Some (page_with asked (ids_of asked) (customer_asked t (ids_of asked).c)))
  show_is (Registration asked) = refl
  show_is (Inquiry asked) = refl

  module _ (asked : LoginPage) (ids : IdsAsked) (same : ids ≡ ids_of asked) where
    pub page_shown : (reads : List ReadOf) (customer : Option CustomerRow) → IsThere ids.c reads customer t → show t (request_of asked) draw ≡ Some (page_with asked ids customer)
    page_shown reads customer there = rw (show_is asked, sym same, there.passes, there.row) refl

    pub page_refused : check_customer t ids.c ≡ Some NoCustomer → show t (request_of asked) draw ≡ Some (page_of NoCustomer)
    page_refused is = rw (show_is asked, sym same, is) refl
