use Rattle.std.proofs.Common.{Some, refl, sym, subst}
use Rattle.shop_model.specs.declared.requests.IdsAsked.{IdsAsked}
use Rattle.shop_history.specs.declared.keys.Row.{Row}
use Rattle.shop_browse.specs.declared.driver.Next.TheVariants.{Show}
use Rattle.shop_browse.specs.Home.{IsGreeting, home_in}
use Rattle.shop_browse.proofs.DriverLemmas.{with_ids}
use Rattle.shop_browse.proofs.home.greet.Goals as goal

pub returns-in_ok-write_page-in-Customer : goal.returns-in_ok-write_page-in-Customer
returns-in_ok-write_page-in-Customer c =
    let names = c.args.names in
    let draw = c.args.draw in
    let items = c.args.items.now in
    subst (λ (r : Row). IsGreeting names draw c.args.ids r items c.write_page.new.draft Show) (sym c.in-Customer.is) (
      refl,
      with_ids c.write_page.new.draft (λ (ids : IdsAsked). home_in names draw ids (Some c.in-Customer.customer) items) c.of.result c.args.ids c.of.ensures c.in_ok-write_page-in-Customer.ensures,
    )
