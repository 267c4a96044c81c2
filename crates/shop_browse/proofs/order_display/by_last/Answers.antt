use Rattle.std.proofs.Common.{refl}
use Rattle.shop_model.specs.declared.requests.Request.TheVariants.{OrderDisplay}
use Rattle.shop_model.specs.pages.OrderDisplay.{no_order_page}
use Rattle.shop_browse.proofs.cited.Reads.{shows_page}
use Rattle.shop_browse.proofs.DriverLemmas.{with_ids}
use Rattle.shop_browse.proofs.OrderDisplayLemmas.{has_last, order_missing}
use Rattle.shop_browse.proofs.OrderReads.{asks_order}
use Rattle.shop_browse.proofs.order_display.by_last.Goals as goal

pub returns-in-Id : goal.returns-in-Id
returns-in-Id c catalogue ask same = asks_order catalogue c.args.asked.now ask c.args.reads.now c.in-Id.order (has_last c.args.asked.now c.args.reads.now c.requires _ c.in-Id.order c.in-Id.is)

pub returns-in_ok-no_order_page-in-Absent : goal.returns-in_ok-no_order_page-in-Absent
returns-in_ok-no_order_page-in-Absent c catalogue ask same = (
  refl,
  λ t fits.
      let asked = c.args.asked.now in
      shows_page t (OrderDisplay asked) ask.draw _ (no_order_page asked.ids)
      (order_missing asked c.args.reads.now c.requires _ ask.draw ask.index.now t c.in-Absent.is fits)
      (with_ids c.no_order_page.new.draft no_order_page c.of.result asked.ids c.of.ensures c.in_ok-no_order_page-in-Absent.ensures),
)
