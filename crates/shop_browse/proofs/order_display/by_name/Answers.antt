use Rattle.std.proofs.Common.{refl}
use Rattle.shop_model.specs.declared.refusal.Refusal.TheVariants.{NoUserName}
use Rattle.shop_model.specs.declared.requests.Request.TheVariants.{OrderDisplay}
use Rattle.shop_model.specs.asked.Refusals.{page_of}
use Rattle.shop_browse.proofs.cited.Reads.{shows_page}
use Rattle.shop_browse.proofs.OrderDisplayLemmas.{has_user, user_missing}
use Rattle.shop_browse.proofs.OrderReads.{asks_customer}
use Rattle.shop_browse.proofs.order_display.by_name.Goals as goal

pub returns-in-Id : goal.returns-in-Id
returns-in-Id c catalogue ask same = asks_customer catalogue c.args.asked.now ask c.args.reads.now c.in-Id.id (has_user c.args.asked.now c.args.reads.now _ c.requires c.in-Id.id c.in-Id.is)

pub returns-in_ok-refusal-in-Absent : goal.returns-in_ok-refusal-in-Absent
returns-in_ok-refusal-in-Absent c catalogue ask same = (
  refl,
  λ t fits.
      let asked = c.args.asked.now in
      shows_page t (OrderDisplay asked) ask.draw _ (page_of NoUserName)
      (user_missing asked c.args.reads.now _ c.requires t ask.draw c.in-Absent.is fits.shows) c.in_ok-refusal-in-Absent.ensures,
)
