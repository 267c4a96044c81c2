use Rattle.std.proofs.Common.{◌≡◌, ℕ, ◌+◌, List, [], ◌∷◌, ◌++◌, length, map, take, Some, unwrap_or, sym, ◌∙◌, ap, arith}
use Rattle.std.proofs.lemmas.List.{take_all}
use Rattle.std.proofs.lemmas.Simd.{map-map}
use Rattle.shop_model.specs.asked.PurchaseAsked.{PurchaseAsked}
use Rattle.shop_model.specs.rows.Rows.{CartRow}
use Rattle.shop_model.specs.trade.Carts.{lines_named}
use Rattle.shop_history.specs.declared.keys.Key.{Key}
use Rattle.shop_history.specs.declared.keys.Key.TheVariants as key
use Rattle.shop_history.specs.MayChange.{ship_changes}
use Rattle.shop_book.specs.Planning.{items_in}
use Rattle.shop_book.specs.RowsNow.{tables_with}
use Rattle.shop_book.proofs.may_change.certain_changes.Goals as goal

pub returns-clause-keys : goal.returns-clause-keys
returns-clause-keys c = λ t.
    let asked : PurchaseAsked = c.args.asked.now in
    let first : List Key → List Key = λ rest. key.Cart asked.cart ∷ key.Order (length c.args.rows.now.orders.items + 1) ∷ key.LastOrder asked.c ∷ rest in
    let lines : List (ℕ × ℕ) = c.lines_in-lines.result.now in
    let all : take c.loop-line.line-index lines ≡ lines = take_all c.loop-line.line-index lines (omega (arith, c.loop-line-test.false)) in
    let named : lines ≡ unwrap_or (lines_named c.args.rows.now.carts.items (Some asked.cart)) []
    = c.lines_in-lines.ensures ∙ ap (λ (carts : List CartRow). unwrap_or (lines_named carts (Some c.asked.inside.cart)) []) c.deref.ensures.value
    ∙ ap (λ (a : PurchaseAsked). unwrap_or (lines_named c.args.rows.now.carts.items (Some a.cart)) []) c.asked.view_is in
    c.in_ok-append.ensures.items
    ∙ ap (λ (keys : List Key). keys ++ c.in_ok-ship.ship.items) c.loop-line.invariant
    ∙ ap (λ (ls : List (ℕ × ℕ)). first (map (λ line. key.Item line.0) ls) ++ c.in_ok-ship.ship.items) (all ∙ named)
    ∙ ap (λ (items : List Key). first items ++ c.in_ok-ship.ship.items) (sym (map-map key.Item (λ (l : ℕ × ℕ). l.0) (unwrap_or (lines_named c.args.rows.now.carts.items (Some asked.cart)) [])))
    ∙ ap (λ (ship : List Key). first (map key.Item (items_in (tables_with t c.args.rows.now) asked.cart)) ++ ship) (c.in_ok-ship.ensures t)
    ∙ ap (λ (a : PurchaseAsked). first (map key.Item (items_in (tables_with t c.args.rows.now) asked.cart)) ++ ship_changes (tables_with t c.args.rows.now) a.address) c.asked.view_is
