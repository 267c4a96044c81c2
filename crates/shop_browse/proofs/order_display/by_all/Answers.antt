use Rattle.std.proofs.Common.{◌≡◌, ◌-◌, ◌∙◌, length, take, drop, ap, sym, subst, refl}
use Rattle.shop_model.specs.declared.address.Address.{Address}
use Rattle.shop_model.specs.declared.requests.IdsAsked.{IdsAsked}
use Rattle.shop_model.specs.declared.requests.Request.TheVariants.{OrderDisplay}
use Rattle.shop_model.specs.lists.Catalogues.{Catalogue}
use Rattle.shop_model.specs.pages.OrderDisplay.{order_page}
use Rattle.shop_model.specs.rows.Rows.{CountryRow, OrderRow}
use Rattle.shop_draft.specs.Pages.{Shows}
use Rattle.shop_browse.specs.declared.names.Names.{Names}
use Rattle.shop_browse.specs.Driver.{Fits}
use Rattle.shop_browse.specs.OrderDisplay.{ShipsTo}
use Rattle.shop_browse.proofs.cited.Reads.{shows_page}
use Rattle.shop_browse.proofs.DriverLemmas.{with_ids}
use Rattle.shop_browse.proofs.OrderDisplayLemmas.{all_order, all_address, labels_behind, country_there, ships_to, have_items, order_shown}
use Rattle.shop_browse.proofs.order_display.by_all.Goals as goal
use Rattle.shop_browse.proofs.order_display.by_all.Goals.{in_default-via-in-Order+in-Address+in_default, in_default-via-in-Order+in_default, in_default-via-in_default}

pub returns-in_default : goal.returns-in_default
returns-in_default c round ask same t fits =
    let asked = c.args.asked.now in
    let index = c.args.index.now in
    let reads = c.args.reads.now in
    let here = subst (λ (d : Catalogue). Fits d t reads) same fits in
    let country = country_there asked index reads c.requires t here c.index-reads-5.result in
    elim c.in_default.branch [
      | in_default-via-in-Order+in-Address+in_default w ↦ w.in_default.not-Country-2 country.0 country.1
      | in_default-via-in-Order+in_default w ↦ w.in_default.not-Address-1 c.requires.address (all_address asked index reads c.requires c.index-reads-4.result)
      | in_default-via-in_default w ↦ w.in_default.not-Order-0 c.requires.order (all_order asked index reads c.requires c.index-reads-3.result)
    ]

pub returns-in_ok-order_page-in-Order-Address-Country : goal.returns-in_ok-order_page-in-Order-Address-Country
returns-in_ok-order_page-in-Order-Address-Country c round ask same = (
  refl,
  λ t fits.
      let asked = c.args.asked.now in
      let index = c.args.index.now in
      let reads = c.args.reads.now in
      let order = c.requires.order in
      let of = c.in-Order-Address-Country in
      let in_these = subst (λ (d : Catalogue). Fits d t reads) same fits in
      let shown : OrderRow = c.get-in-Order-Address-Country-2.result.now in
      let same_order : of.order ≡ order = cc (of.is-0, all_order asked index reads c.requires c.index-reads-3.result) in
      let same_address : of.address ≡ c.requires.address = cc (of.is-1, all_address asked index reads c.requires c.index-reads-4.result) in
      let order_is : shown ≡ order = c.get-in-Order-Address-Country-2.ensures ∙ same_order in
      let city_is = c.bytes-city.ensures ∙ ap (λ (a : Address). a.text.city) (c.get.ensures ∙ same_address) in
      let country_is = c.bytes-country.ensures ∙ ap (λ (x : CountryRow). x.name) (c.behind-country.view_is ∙ c.get-in-Order-Address-Country.ensures) in
      let ships = ships_to asked index reads c.requires t in_these _ of.country of.is-2 in
      let here = subst (λ (o : OrderRow). ShipsTo t o.ship_address c.bytes-city.result.now c.bytes-country.result.now) (sym order_is)
      (record { city_is = ships.city_is ∙ sym city_is; country_is = ships.country_is ∙ sym country_is }) in
      let known : Names = record { index = c.args.index; labels = record c.args.reads { now = take (length reads - 6) (drop 6 reads) } } in
      let items = have_items asked index reads c.requires t in_these known refl (labels_behind asked index reads c.requires) shown.lines (ap (λ (o : OrderRow). o.lines) order_is) in
      shows_page t (OrderDisplay asked) ask.draw _ (order_page t asked.ids order) (order_shown asked index reads c.requires t in_these ask.draw)
      (subst (λ (o : OrderRow). Shows c.order_page.new.draft (λ drawn. order_page t asked.ids o)) order_is
      (with_ids c.order_page.new.draft (λ (ids : IdsAsked). order_page t ids shown) c.of-ids.result asked.ids c.of-ids.ensures (c.in_ok-order_page-in-Order-Address-Country.ensures t here items))),
)
