use Rattle.std.proofs.Common.{refl}
use Rattle.std.proofs.lemmas.Result.{on_ok_weaker}
use Rattle.std.specs.Prelude.{option_copied}
use Rattle.shop_model.specs.pages.CustomerRegistration.{customer_registration}
use Rattle.shop_model.specs.pages.OrderInquiry.{order_inquiry}
use Rattle.shop_model.specs.pages.PageText.{block_text}
use Rattle.shop_draft.specs.Drawing.{ids_at}
use Rattle.shop_draft.proofs.cited.PageTexts.{three, four, written}
use Rattle.shop_browse.proofs.login_pages.write_page.Goals as goal

pub returns-in_ok-nav-in-Registration : goal.returns-in_ok-nav-in-Registration
unfolding customer_registration block_text
returns-in_ok-nav-in-Registration c =
    let customer = option_copied c.args.customer in
    rw c.in-Registration.is (on_ok_weaker c.end.result (λ ended drawn. record {
      status = refl;
      text = written (customer_registration (ids_at drawn c.args.ids) customer) _ _ _ (c.in_ok-begin-in-Registration.ensures drawn)
          (four _ _ _ _ _ _ _ _ _ (c.in_ok-put-in-Registration.ensures drawn) (c.in_ok-login_form-in-Registration.ensures customer c.id_of-user.ensures drawn)
          (c.in_ok-newcomer_form-in-Registration.ensures drawn) (c.in_ok-nav-in-Registration.ensures drawn))
          (ended drawn);
    }) c.end.ensures)

pub returns-in_ok-nav-in-Inquiry : goal.returns-in_ok-nav-in-Inquiry
unfolding order_inquiry block_text
returns-in_ok-nav-in-Inquiry c =
    let customer = option_copied c.args.customer in
    rw c.in-Inquiry.is (on_ok_weaker c.end-in-Inquiry.result (λ ended drawn. record {
      status = refl;
      text = written (order_inquiry (ids_at drawn c.args.ids) customer) _ _ _ (c.in_ok-begin-in-Inquiry.ensures drawn)
          (three _ _ _ _ _ _ _ (c.in_ok-put-in-Inquiry.ensures drawn) (c.in_ok-login_form-in-Inquiry.ensures customer c.id_of-user.ensures drawn)
          (c.in_ok-nav-in-Inquiry.ensures drawn))
          (ended drawn);
    }) c.end-in-Inquiry.ensures)
