-- A purchase by what was read of it, and the lines of its order.
use Rattle.std.proofs.Common.{◌≡◌, ℕ, suc, ◌+◌, ◌-◌, ◌≤◌, ◌<◌, List, [], ◌∷◌, ◌++◌, length, take, drop, get_or, map, All, Option, Some, None, refl, sym, ◌∙◌, ap, subst, arith, length-append, length-drop}
use Rattle.std.proofs.lemmas.List.{take_all, take_more, length-take-le, flat_map_more}
use Rattle.std.proofs.Math.Seq.{take-append_seam, drop-append_seam}
use Rattle.std.proofs.lemmas.List.Elements.{All-nil, All-cons}
use Rattle.shop_model.specs.declared.requests.Request.{Request}
use Rattle.shop_model.specs.declared.requests.Request.TheVariants.{BuyConfirm}
use Rattle.shop_model.specs.declared.tables.Tables.{Tables}
use Rattle.shop_model.specs.declared.tax.TaxRule.{TaxRule}
use Rattle.shop_model.specs.asked.PurchaseAsked.{PurchaseAsked}
use Rattle.shop_model.specs.lists.Catalogues.{Catalogue}
use Rattle.shop_model.specs.pages.Priced.{order_lines}
use Rattle.shop_model.specs.rows.Lookups.{row_numbered, cost_of}
use Rattle.shop_model.specs.rows.Rows.{ItemRow, CartRow, CustomerRow, LineRow}
use Rattle.shop_model.specs.rows.Sound.{Sound, IsFit, IsStocked}
use Rattle.shop_history.specs.declared.keys.Key.TheVariants as key
use Rattle.shop_history.specs.declared.keys.Row.TheVariants as row
use Rattle.shop_history.specs.Keys.{row_of, shown}
use Rattle.shop_history.proofs.cited.Places.{all_numbered}
use Rattle.shop_attempt.specs.declared.attempts.ReadOf.{ReadOf}
use Rattle.shop_attempt.specs.declared.attempts.Write.{Write}
use Rattle.shop_attempt.specs.Reads.{Shows}
use Rattle.shop_browse.specs.Baskets.{IsBasket}
use Rattle.shop_browse.specs.Fitting.{AreSeen}
use Rattle.shop_order.specs.BuyerPage.{priced_line}
use Rattle.shop_order.specs.Purchases.{IsRead, IsStockedRow, AreGoods, numbered, stock_writes_of, stock_writes_in, stock_writes}
use Rattle.shop_order.specs.ShoppingCart.{IsFitRow, AreItems}
use Rattle.shop_order.proofs.ReadsLemmas.{many_items}
use Rattle.shop_order.proofs.ShoppingCartLemmas.{fit_shown}
use Rattle.shop_order.proofs.TableLemmas.{line_at, item_shown}

-- the basket of the request

asked_in : PurchaseAsked → Request → PurchaseAsked
asked_in other (BuyConfirm asked) = asked
asked_in other _ = other

pub basket_of : (tax : TaxRule) (asked : PurchaseAsked) (reads : List ReadOf) → IsRead tax asked reads → IsBasket tax asked reads
unfolding asked_in
basket_of tax asked reads read =
    let basket = read.1.basket in
    subst (λ a. IsBasket tax a reads) (sym (ap (asked_in asked) basket.1)) basket.2

seen_front : (c : Catalogue) (one other : List ReadOf) → AreSeen c (one ++ other) → AreSeen c one
seen_front c [] other seen = tt
seen_front c (read ∷ one) other seen = (seen.0, seen_front c one other seen.1)

-- an item that sound tables show is stocked
stocked_shown : (t : Tables) (id : ℕ) (o : Option ItemRow) → Sound t → row_numbered t.items id ≡ o → IsStockedRow (shown row.Item o)
stocked_shown t id None sound is = tt
stocked_shown t id (Some item) sound is = (all_numbered (IsStocked t) t.items id item is sound.stock).low

stocked_seen : (c : Catalogue) (lines : List (ℕ × ℕ)) (items : List ReadOf) → AreItems lines items → AreSeen c items → All (λ r. IsStockedRow r.row) items
stocked_seen c lines [] are seen = All-nil (λ (r : ReadOf). IsStockedRow r.row)
stocked_seen c [] (read ∷ items) are seen = absurd cc
stocked_seen c (line ∷ lines) (read ∷ items) are seen =
    let t : Tables = seen.0.0 in
    let is : read.key ≡ key.Item line.0 = cc are in
    let rest : AreItems lines items = cc are in
    All-cons (λ (r : ReadOf). IsStockedRow r.row) read items
    (subst IsStockedRow (ap (row_of t) (sym is) ∙ seen.0.1.shows.0) (stocked_shown t line.0 (row_numbered t.items line.0) seen.0.1.sound refl))
    (stocked_seen c lines items rest seen.1)

module _ (tax : TaxRule) (asked : PurchaseAsked) (reads : List ReadOf) (basket : IsBasket tax asked reads) where
  -- the reads by their places

  pub customer_at : (read : ReadOf) (customer : CustomerRow) → (get_or reads 0 read).row ≡ row.Customer customer → customer ≡ basket.customer
  customer_at read customer is =
      let rows : row.Customer customer ≡ row.Customer basket.customer = sym is ∙ ap (λ (l : List ReadOf). (get_or l 0 read).row) basket.reads_are ∙ basket.buyer_row in
      cc rows

  pub cart_at : (read : ReadOf) (cart : CartRow) → (get_or reads 1 read).row ≡ row.Cart cart → cart ≡ basket.cart
  cart_at read cart is =
      let rows : row.Cart cart ≡ row.Cart basket.cart = sym is ∙ ap (λ (l : List ReadOf). (get_or l 1 read).row) basket.reads_are ∙ basket.basket_row in
      cc rows

  pub ship_at : (read : ReadOf) → get_or reads 2 read ≡ basket.ship
  ship_at read = ap (λ (l : List ReadOf). get_or l 2 read) basket.reads_are

  -- so many items as lines, and then what the tax rests on
  abbrev more : List ReadOf
  more = take (length reads - 3) (drop 3 reads)

  more_are : more ≡ basket.items ++ basket.rest
  more_are = take_all (length reads - 3) (drop 3 reads) (omega (arith, length-drop 3 reads)) ∙ ap (λ (l : List ReadOf). drop 3 l) basket.reads_are

  many : length basket.cart.lines ≡ length basket.items
  many = many_items basket.cart.lines basket.items basket.items_are

  module _ (lines : List (ℕ × ℕ)) (are : lines ≡ basket.cart.lines) where
    pub items_at : take (length lines) more ≡ basket.items
    items_at =
        ap (λ n. take n more) (ap length are ∙ many)
        ∙ ap (λ (l : List ReadOf). take (length basket.items) l) more_are
        ∙ take-append_seam basket.items basket.rest

    pub rest_at : drop (length lines) more ≡ basket.rest
    rest_at =
        ap (λ n. drop n more) (ap length are ∙ many)
        ∙ ap (λ (l : List ReadOf). drop (length basket.items) l) more_are
        ∙ drop-append_seam basket.items basket.rest

    pub enough : length lines ≤ length more
    enough = omega (arith, many, ap length are, ap length more_are, length-append basket.items basket.rest)

  -- what sound tables showed

  pub fit_seen : (c : Catalogue) → AreSeen c reads → IsFit basket.cart
  fit_seen c seen =
      let second = (subst (AreSeen c) basket.reads_are seen).1.0 in
      let t : Tables = second.0 in
      subst IsFitRow (ap (row_of t) (sym basket.basket_key) ∙ second.1.shows.0 ∙ basket.basket_row) (fit_shown t asked.cart (row_numbered t.carts asked.cart) refl second.1.sound)

  pub goods_seen : (c : Catalogue) → AreSeen c reads → AreGoods basket.cart.lines basket.items
  goods_seen c seen =
      let fit = fit_seen c seen in
      record {
        kept = record { few = fit.few; quantities = fit.quantities };
        items_are = basket.items_are;
        stocked = stocked_seen c basket.cart.lines basket.items basket.items_are (seen_front c basket.items basket.rest (subst (AreSeen c) basket.reads_are seen).1.1.1);
      }

-- the lines of an order, one line more

numbered_push : (number : ℕ) (lines : List (ℕ × ℕ × ℕ)) (line : ℕ × ℕ × ℕ) → numbered number (lines ++ line ∷ []) ≡ numbered number lines ++ record { number = number + length lines; item = line.0; quantity = line.1; cost = line.2 } ∷ []
numbered_push number [] line = ap (λ (n : ℕ). record { number = n; item = line.0; quantity = line.1; cost = line.2 } ∷ []) (omega arith)
numbered_push number (first ∷ lines) line =
    let next : number + 1 + length lines ≡ number + suc (length lines) = omega arith in
    ap (λ (rest : List LineRow). record { number = number; item = first.0; quantity = first.1; cost = first.2 } ∷ rest)
    (numbered_push (number + 1) lines line ∙ ap (λ (n : ℕ). numbered (number + 1) lines ++ record { number = n; item = line.0; quantity = line.1; cost = line.2 } ∷ []) next)

pub numbered_more : (priced : List (ℕ × ℕ × ℕ)) (i : ℕ) (d : ℕ × ℕ × ℕ) → i < length priced
    → numbered 1 (take (i + 1) priced) ≡ numbered 1 (take i priced) ++ record { number = i + 1; item = (get_or priced i d).0; quantity = (get_or priced i d).1; cost = (get_or priced i d).2 } ∷ []
numbered_more priced i d within =
    let line : ℕ × ℕ × ℕ = get_or priced i d in
    let number : 1 + length (take i priced) ≡ i + 1 = omega (arith, within, length-take-le i priced (omega (arith, within))) in
    ap (numbered 1) (take_more priced i d within)
    ∙ numbered_push 1 (take i priced) line
    ∙ ap (λ (n : ℕ). numbered 1 (take i priced) ++ record { number = n; item = line.0; quantity = line.1; cost = line.2 } ∷ []) number

-- the writes of one line more

stock_shown : (line : ℕ × ℕ) (o : Option ItemRow) → stock_writes_of line o ≡ stock_writes_in line (shown row.Item o)
stock_shown line None = refl
stock_shown line (Some item) = refl

pub stocks_more : (lines : List (ℕ × ℕ)) (items : List ReadOf) (i : ℕ) (read : ReadOf) → AreItems lines items → i < length lines → read ≡ get_or items i read
    → (t : Tables) → Shows t items → (old so_far new : List Write) → so_far ≡ old ++ stock_writes t (take i lines) → new ≡ so_far ++ stock_writes_in (line_at lines i) read.row
    → new ≡ old ++ stock_writes t (take (i + 1) lines)
stocks_more lines items i read are within at t shows old so_far new before added =
    let one : ℕ × ℕ → List Write = λ l. stock_writes_of l (row_numbered t.items l.0) in
    let line : ℕ × ℕ = line_at lines i in
    added
    ∙ ap (λ (w : List Write). so_far ++ w) (sym (stock_shown line (row_numbered t.items line.0) ∙ ap (stock_writes_in line) (item_shown lines items i read are within at t shows)))
    ∙ ap (λ (w : List Write). w ++ one line) before
    ∙ flat_map_more one old (take i lines) line
    ∙ ap (λ (l : List (ℕ × ℕ)). old ++ stock_writes t l) (sym (take_more lines i (0, 0) within))

-- what the lines cost in tables is what those of the order cost
pub numbered_ordered : (t : Tables) (number : ℕ) (lines : List (ℕ × ℕ)) → numbered number (map (priced_line t) lines) ≡ order_lines t number lines
unfolding order_lines
numbered_ordered t number [] = refl
numbered_ordered t number (line ∷ lines) =
    ap (λ (rest : List LineRow). record { number = number; item = line.0; quantity = line.1; cost = cost_of t line.0 } ∷ rest) (numbered_ordered t (number + 1) lines)
