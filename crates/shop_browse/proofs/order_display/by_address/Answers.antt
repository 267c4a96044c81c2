use Rattle.std.proofs.Common.{◌≡◌, [], ◌∷◌, ◌∙◌, List, ap, sym, subst}
use Rattle.shop_model.specs.declared.address.Address.{Address as AddressRow}
use Rattle.shop_model.specs.declared.requests.Request.TheVariants.{OrderDisplay}
use Rattle.shop_model.specs.rows.Rows.{LineRow, OrderRow}
use Rattle.shop_history.specs.declared.keys.Key.{Key}
use Rattle.shop_history.specs.declared.keys.Key.TheVariants.{Country}
use Rattle.shop_browse.specs.Driver.{AsksFor}
use Rattle.shop_browse.specs.Names.{label_keys}
use Rattle.shop_browse.specs.OrderDisplay.{FollowsDisplay, items_of}
use Rattle.shop_browse.proofs.OrderDisplayLemmas.{is_order, has_address, address_there}
use Rattle.shop_browse.proofs.OrderReads.{asks_last_keys}
use Rattle.shop_browse.proofs.order_display.by_address.Goals as goal
use Rattle.shop_browse.proofs.order_display.by_address.Goals.{in_default-via-in-Order+in_default, in_default-via-in_default}

pub returns-then-has_items : goal.returns-then-has_items
returns-then-has_items c draft ask _ =
    let asked = c.args.asked.now in
    let reads = c.args.reads.now in
    let index = c.args.index.now in
    let order = c.requires.0 in
    let address = c.in-Order-Address.address in
    let lines = c.as_slice-lines.result.now in
    let same_order : c.in-Order-Address.order ≡ order = cc (c.in-Order-Address.is-0, is_order asked.login reads order c.requires.1 c.index-reads-3.result) in
    let same_lines : lines ≡ order.lines = c.as_slice-lines.ensures ∙ ap (λ (o : OrderRow). o.lines) (c.behind-order.view_is ∙ c.get-in-Order-Address.ensures ∙ same_order) in
    let none : label_keys index (items_of lines) ≡ [] = c.has_items.ensures c.if-has_items.true in
    let keys = ap (λ (a : AddressRow). Country a.text.country ∷ []) c.get.ensures
    ∙ ap (λ (l : List Key). Country address.text.country ∷ l) (sym none)
    ∙ ap (λ (l : List LineRow). Country address.text.country ∷ label_keys index (items_of l)) same_lines in
    subst (AsksFor (FollowsDisplay asked index) (OrderDisplay asked) ask 5 reads) (sym keys)
    (asks_last_keys index asked ask reads order address (has_address asked.login reads order c.requires.1 _ address c.in-Order-Address.is-1))

pub returns-in_ok-last_keys-in-Order-Address : goal.returns-in_ok-last_keys-in-Order-Address
returns-in_ok-last_keys-in-Order-Address c draft ask _ =
    let asked = c.args.asked.now in
    let reads = c.args.reads.now in
    let index = c.args.index.now in
    let order = c.requires.0 in
    let address = c.in-Order-Address.address in
    let lines = c.as_slice-lines.result.now in
    let same_order : c.in-Order-Address.order ≡ order = cc (c.in-Order-Address.is-0, is_order asked.login reads order c.requires.1 c.index-reads-3.result) in
    let same_lines : lines ≡ order.lines = c.as_slice-lines.ensures ∙ ap (λ (o : OrderRow). o.lines) (c.behind-order.view_is ∙ c.get-in-Order-Address.ensures ∙ same_order) in
    let keys = c.in_ok-last_keys-in-Order-Address.ensures
    ∙ ap (λ (a : AddressRow). Country a.text.country ∷ label_keys index (items_of lines)) c.get.ensures
    ∙ ap (λ (l : List LineRow). Country address.text.country ∷ label_keys index (items_of l)) same_lines in
    subst (AsksFor (FollowsDisplay asked index) (OrderDisplay asked) ask 5 reads) (sym keys)
    (asks_last_keys index asked ask reads order address (has_address asked.login reads order c.requires.1 _ address c.in-Order-Address.is-1))

pub returns-in_default : goal.returns-in_default
returns-in_default c draft ask same t fits =
    let asked = c.args.asked.now.login in
    let reads = c.args.reads.now in
    let there = address_there asked reads c.requires.0 c.requires.1 c.index-reads-4.result ask.index.now t fits in
    elim c.in_default.branch [
      | in_default-via-in-Order+in_default w ↦ w.in_default.not-Address-1 there.0 there.1
      | in_default-via-in_default w ↦ w.in_default.not-Order-0 c.requires.0 (is_order asked reads c.requires.0 c.requires.1 c.index-reads-3.result)
    ]
