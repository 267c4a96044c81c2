use Rattle.std.proofs.Common.{ℕ, refl, subst, ◌∙◌, ap, map}
use Rattle.std.specs.Option.{option_copied}
use Rattle.shop_history.specs.declared.keys.Key.TheVariants.{Item}
use Rattle.shop_model.specs.declared.requests.Request.TheVariants.{CartRequest}
use Rattle.shop_model.specs.asked.Refusals.{page_of}
use Rattle.shop_browse.specs.Counting.{number_in}
use Rattle.shop_browse.proofs.cited.Reads.{shows_page}
use Rattle.shop_order.specs.ShoppingCart.{IsBegun}
use Rattle.shop_order.proofs.ShoppingCartLemmas.{refusal_shown, asks_items}
use Rattle.shop_order.proofs.shopping_cart.by_cart.Goals as goal

pub returns-in_ok-refusal-in-Refused : goal.returns-in_ok-refusal-in-Refused
returns-in_ok-refusal-in-Refused c = (
  refl,
  λ t fits.
      let ask = c.args.ask.now in
      let asked = c.args.asked.now in
      let count = c.args.count.now in
      let cart = option_copied c.args.cart in
      let begun = subst (λ n. IsBegun n asked ask.draw cart c.in_ok-begun.begun) c.count_in.ensures.number c.in_ok-begun.ensures in
      let refuses = subst (IsBegun (number_in count.row) asked ask.draw cart) c.in-Refused.is begun in
      shows_page t (CartRequest asked) ask.draw _ (page_of c.in-Refused.refusal)
      (refusal_shown asked ask count cart c.in-Refused.refusal c.requires.count refuses t fits) c.in_ok-refusal-in-Refused.ensures,
)

pub returns-in-Never : goal.returns-in-Never
returns-in-Never c t fits =
    let ask = c.args.ask.now in
    subst (IsBegun c.count_in.result c.args.asked.now ask.draw (option_copied c.args.cart)) c.in-Never.is c.in_ok-begun.ensures t fits.shows.1

pub returns-in_ok-keys-in-Lines : goal.returns-in_ok-keys-in-Lines
returns-in_ok-keys-in-Lines c =
    let ask = c.args.ask.now in
    let asked = c.args.asked.now in
    let count = c.args.count.now in
    let cart = option_copied c.args.cart in
    let begun = subst (λ n. IsBegun n asked ask.draw cart c.in_ok-begun.begun) c.count_in.ensures.number c.in_ok-begun.ensures in
    let makes = subst (IsBegun (number_in count.row) asked ask.draw cart) c.in-Lines.is begun in
    asks_items asked _ ask count cart c.in-Lines.lines c.in_ok-keys-in-Lines.keys c.requires.count c.requires.number c.requires.named
    refl makes (c.in_ok-keys-in-Lines.ensures ∙ ap (map (λ (l : ℕ × ℕ). Item l.0)) c.as_slice.ensures)
