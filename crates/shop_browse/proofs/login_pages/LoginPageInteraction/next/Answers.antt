use Rattle.std.specs.Prelude.{option_copied}
use Rattle.shop_model.specs.declared.refusal.Refusal.TheVariants.{NoCustomer}
use Rattle.shop_model.specs.declared.requests.IdsAsked.{IdsAsked}
use Rattle.shop_model.specs.asked.Refusals.{page_of}
use Rattle.shop_browse.specs.LoginPages.{request_of, page_with}
use Rattle.shop_browse.proofs.cited.Reads.{shows_page}
use Rattle.shop_browse.proofs.DriverLemmas.{with_ids}
use Rattle.shop_browse.proofs.LoginPagesLemmas.{no_list, page_shown, page_refused}
use Rattle.shop_browse.proofs.login_pages.LoginPageInteraction.next.Goals as goal

pub returns-in_ok-write_page-in-Is-clause-next : goal.returns-in_ok-write_page-in-Is-clause-next
returns-in_ok-write_page-in-Is-clause-next c = (
  no_list c.args.self.now,
  λ t fits.
      let asked = c.args.self.now in
      let ids = c.ids_of-ids.result in
      let customer = option_copied c.in-Is.customer in
      let draft = c.write_page.new.draft in
      shows_page t (request_of asked) c.args.ask.now.draw draft (page_with asked ids customer)
      (page_shown t c.args.ask.now.draw asked ids c.ids_of-ids.ensures c.args.reads.now customer (c.in-Is.ensures t fits.shows))
      (with_ids draft (λ (i : IdsAsked). page_with asked i customer) c.of.result ids c.of.ensures c.in_ok-write_page-in-Is.ensures),
)

pub returns-in_ok-refusal-in-Missing-clause-next : goal.returns-in_ok-refusal-in-Missing-clause-next
returns-in_ok-refusal-in-Missing-clause-next c = (
  no_list c.args.self.now,
  λ t fits.
      let asked = c.args.self.now in
      shows_page t (request_of asked) c.args.ask.now.draw _ (page_of NoCustomer)
      (page_refused t c.args.ask.now.draw asked c.ids_of-ids.result c.ids_of-ids.ensures (c.in-Missing.ensures t fits.shows)) c.in_ok-refusal-in-Missing.ensures,
)

pub returns-in-Never-clause-next : goal.returns-in-Never-clause-next
returns-in-Never-clause-next c t fits = c.in-Never.ensures t fits.shows
