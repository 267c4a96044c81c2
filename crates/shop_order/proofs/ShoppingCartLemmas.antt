-- Shopping Cart: what it may read, and the change that it makes by what it has read.
use Rattle.std.proofs.Common.{◌≡◌, ◌≢◌, ℕ, zero, suc, ◌+◌, ◌≤◌, ◌%◌, List, [], ◌∷◌, ◌++◌, length, take, map, get_or, All, Option, Some, None, option_map, unwrap_or, refl, sym, ◌∙◌, ap, subst, inl, inr, arith}
use Rattle.std.proofs.lemmas.Bool.{cond-false, ne_eqb}
use Rattle.std.proofs.lemmas.List.Elements.{All-map}
use Rattle.shop_model.specs.declared.refusal.Refusal.{Refusal}
use Rattle.shop_model.specs.declared.requests.Request.TheVariants.{CartRequest}
use Rattle.shop_model.specs.declared.tables.Tables.{Tables}
use Rattle.shop_model.specs.asked.CartAsked.{CartAsked}
use Rattle.shop_model.specs.trade.Carts.{set_lines, wanted, cart_lines, check_cart, check_asked, check_lines, lines_named, lines_after, cart_meant, carts_with}
use Rattle.shop_model.specs.pages.ShoppingCart.{cart_page, ids_with}
use Rattle.shop_model.specs.rows.Lookups.{row_numbered}
use Rattle.shop_model.specs.asked.Refusals.{page_of}
use Rattle.shop_model.specs.rows.Rows.{CartRow}
use Rattle.shop_model.specs.pages.Show.{show, refused_or}
use Rattle.shop_model.specs.rows.Sound.{Sound, IsFit}
use Rattle.shop_history.specs.declared.acts.Act.TheVariants.{Cart}
use Rattle.shop_history.specs.declared.acts.Drawn.{Drawn}
use Rattle.shop_history.specs.declared.acts.Entry.{Entry}
use Rattle.shop_history.specs.declared.keys.Key.{Key}
use Rattle.shop_history.specs.declared.keys.Key.TheVariants as key
use Rattle.shop_history.specs.declared.keys.Row.{Row}
use Rattle.shop_history.specs.declared.keys.Row.TheVariants as row
use Rattle.shop_history.specs.Acts.{play}
use Rattle.shop_history.specs.Drawing.{new_id, new_ids}
use Rattle.shop_history.specs.Keys.{row_of, shown}
use Rattle.shop_history.specs.Logs.{history, tables}
use Rattle.shop_history.proofs.cited.Drawing.{id_pushed}
use Rattle.shop_history.proofs.cited.Places.{is_there, all_numbered}
use Rattle.shop_draft.specs.declared.draft.Draft.{Draft}
use Rattle.shop_draft.specs.Drawing.{or_zero}
use Rattle.shop_draft.specs.Pages as pages
use Rattle.shop_draft.specs.Pages.{IsPage}
use Rattle.shop_attempt.specs.declared.attempts.ReadOf.{ReadOf}
use Rattle.shop_attempt.specs.Faithful.{Makes}
use Rattle.shop_attempt.specs.Reads.{Shows, AreTrue}
use Rattle.shop_attempt.specs.Writes.{put_row}
use Rattle.shop_browse.specs.declared.attempted.Ask.{Ask}
use Rattle.shop_browse.specs.declared.driver.Next.{Next}
use Rattle.shop_browse.specs.Attempts.{Becomes}
use Rattle.shop_browse.specs.Counting.{IsNumber, number_in, HasCount}
use Rattle.shop_browse.specs.Driver.{keys_of, Fits, AreSeen, WereRead, AsksFor, IsNext}
use Rattle.shop_browse.specs.Footprints.{IsAmong, WasOnCart, LeavesNoLine, IsDrawn, IsCartItem, InFootprint}
use Rattle.shop_browse.proofs.cited.Counting.{drawn_of, size_read}
use Rattle.shop_browse.proofs.cited.Reads.{one_read}
use Rattle.shop_order.specs.Page.{cart_at, page_at}
use Rattle.shop_order.specs.ShoppingCart.{cart_keys, cart_reads, IsNamed, IsFitRow, IsFitRead, lines_in, begun_with, MakesOfCart, AreItems, behind_cart, HasItems, FollowsLines, FollowsCart, IsNextFor, put_lines, IsChangeTo}
use Rattle.shop_history.proofs.cited.Shown.{cart_found}
use Rattle.shop_order.proofs.CartsLemmas.{made_on}

-- the cart that was read

-- the cart of the id that is named
record IsReadOfNamed (named : Option ℕ) (cart : ReadOf) : Type 0 where
  id : ℕ
  named_is : named ≡ Some id
  key_is : cart.key ≡ key.Cart id

read_of_named : (named : Option ℕ) (cart : ReadOf) → IsNamed named (Some cart) → IsReadOfNamed named cart
read_of_named None cart is = absurd cc
read_of_named (Some id) cart is = record { id = id; named_is = refl; key_is = cc }

pub fit_shown : (t : Tables) (id : ℕ) (o : Option CartRow) → row_numbered t.carts id ≡ o → Sound t → IsFitRow (shown row.Cart o)
fit_shown t id None is sound = tt
fit_shown t id (Some cart) is sound = all_numbered IsFit t.carts id cart is sound.carts

-- sound tables show a fit cart
pub fit_seen : (asked : CartAsked) (ask : Ask) (cart : Option ReadOf) → IsNamed asked.ids.cart cart → AreSeen ask.index.now (cart_reads cart) → IsFitRead cart
fit_seen asked ask None named seen = tt
fit_seen asked ask (Some read) named seen =
    let of : IsReadOfNamed asked.ids.cart read = read_of_named asked.ids.cart read named in
    let t : Tables = seen.0.0 in
    subst IsFitRow (ap (row_of t) (sym of.key_is) ∙ seen.0.1.shows.0) (fit_shown t of.id (row_numbered t.carts of.id) refl seen.0.1.sound)

-- what may be read

was_on : (opening : Tables) (log : List Entry) (named : Option ℕ) (read : ReadOf) (r : Row) (item : ℕ) → read.row ≡ r → IsNamed named (Some read) → AreTrue opening log (read ∷ []) → IsAmong item (lines_in r)
    → (id : ℕ) × (named ≡ Some id) × WasOnCart opening log id item
unfolding history
was_on opening log named read (row.Cart cart) item row_is is are among =
    let of : IsReadOfNamed named read = read_of_named named read is in
    let t : Tables = tables opening (take read.version log) in (
      of.id,
      of.named_is,
      record {
        front = read.version;
        row = cart;
        there = cart_found (row_numbered t.carts of.id) cart (ap (row_of t) (sym of.key_is) ∙ are.0.row_is ∙ row_is);
        line = among;
      },
    )
was_on opening log named read _ item row_is is are among = absurd cc

old_on : (opening : Tables) (log : List Entry) (asked : CartAsked) (draw : ℕ) (cart : Option ReadOf) (item : ℕ) → IsNamed asked.ids.cart cart → AreTrue opening log (cart_reads cart)
    → IsAmong item (begun_with cart) → IsCartItem opening log asked draw item
old_on opening log asked draw None item is are among = absurd cc
old_on opening log asked draw (Some read) item is are among = inr (inl (was_on opening log asked.ids.cart read read.row item refl is are among))

-- a request whose cart leaves no line
leaves_none : (opening : Tables) (log : List Entry) (asked : CartAsked) (cart : Option ReadOf) → AreTrue opening log (cart_reads cart)
    → ((t : Tables) → Shows t (cart_reads cart) → lines_named t.carts asked.ids.cart ≡ Some (begun_with cart)) → set_lines (wanted asked (begun_with cart)) (begun_with cart) ≡ [] → LeavesNoLine opening log asked
unfolding history
leaves_none opening log asked None are there empty = record { front = 0; lines = []; there = there (tables opening (take 0 log)) tt; none_left = empty }
leaves_none opening log asked (Some read) are there empty = record {
  front = read.version;
  lines = lines_in read.row;
  there = there (tables opening (take read.version log)) (are.0.row_is, tt);
  none_left = empty;
}

lines_on : (opening : Tables) (log : List Entry) (asked : CartAsked) (ask : Ask) (count : ReadOf) (cart : Option ReadOf) (lines : List (ℕ × ℕ)) → count.key ≡ key.Count → IsNumber count.row → WereRead ask.index.now opening log (count ∷ cart_reads cart)
    → IsNamed asked.ids.cart cart → MakesOfCart (number_in count.row) asked ask.draw cart lines → All (λ l. IsCartItem opening log asked ask.draw l.0) lines
lines_on opening log asked ask count cart lines count_is number were is makes =
    let Q : ℕ → Type 0 = IsCartItem opening log asked ask.draw in
    let items : ℕ = number_in count.row in
    let old : List (ℕ × ℕ) = begun_with cart in
    let drawn : IsDrawn opening log ask.draw (1 + ask.draw % items) = drawn_of count count_is opening log (cart_reads cart) ask.draw number were.are in
    subst (All (λ l. Q l.0)) (sym makes.made.lines_are)
    (made_on Q items asked ask.draw old (λ item named. inl (inl named)) (λ item among. inl (inr among)) (λ item among. old_on opening log asked ask.draw cart item is were.are.1 among)
    (λ empty. inr (inr (leaves_none opening log asked cart were.are.1 makes.there empty, drawn))))

behind_is : (named : Option ℕ) (cart : Option ReadOf) (items : List ReadOf) → IsNamed named cart → behind_cart named (cart_reads cart ++ items) ≡ items
behind_is None None items is = refl
behind_is None (Some read) items is = absurd cc
behind_is (Some id) None items is = absurd cc
behind_is (Some id) (Some read) items is = refl

-- the items of the lines that are kept are asked for
pub asks_items : (asked : CartAsked) (kept : Option (List (ℕ × ℕ))) (ask : Ask) (count : ReadOf) (cart : Option ReadOf) (lines : List (ℕ × ℕ)) (keys : List Key) → count.key ≡ key.Count → IsNumber count.row → IsNamed asked.ids.cart cart
    → kept ≡ Some lines → MakesOfCart (number_in count.row) asked ask.draw cart lines → keys ≡ map (λ l. key.Item l.0) lines → AsksFor (FollowsCart asked kept ask) (CartRequest asked) ask 1 (count ∷ cart_reads cart) keys
asks_items asked kept ask count cart lines keys count_is number named is makes are = record {
  few = omega arith;
  goes_on = λ more of.
      let behind : more ≡ behind_cart asked.ids.cart (cart_reads cart ++ more) = sym (behind_is asked.ids.cart cart more named) in
      record {
        count = count;
        rest = cart_reads cart ++ more;
        reads_are = refl;
        key_is = count_is;
        rest_are = record {
          cart = cart;
          lines = lines;
          reads_are = ap (λ (l : List ReadOf). cart_reads cart ++ l) behind;
          named = named;
          kept_is = is;
          makes = makes;
          items_are = subst (AreItems lines) behind (of ∙ are);
        };
      };
  may = λ opening log were.
      let on = lines_on opening log asked ask count cart lines count_is number were named makes in
      subst (All (InFootprint opening log (CartRequest asked) ask.draw)) (sym are)
      (All-map (InFootprint opening log (CartRequest asked) ask.draw) (λ (l : ℕ × ℕ). key.Item l.0) lines (λ k d within. inl (inr ((get_or lines k d).0, on k d within, refl))));
}

-- reads by the rounds

-- in the second round the number of items was read, and the cart, if one is named
pub record HasCart (asked : CartAsked) (count : ReadOf) (cart : Option ReadOf) (reads : List ReadOf) : Type 0 where
  pub reads_are : reads ≡ count ∷ cart_reads cart
  pub count_is : count.key ≡ key.Count
  pub named : IsNamed asked.ids.cart cart

module _ (asked : CartAsked) (kept : Option (List (ℕ × ℕ))) (ask : Ask) (round : ℕ) (reads : List ReadOf) (count : ReadOf) (is : round ≡ 1) (follows : FollowsCart asked kept ask round reads) (first : count ≡ get_or reads 0 count) where
  second : HasCount (FollowsLines asked kept ask.draw) 1 reads
  second = subst (λ r. FollowsCart asked kept ask r reads) is follows

  first_is : second.count ≡ count
  first_is = sym (first ∙ ap (λ (l : List ReadOf). get_or l 0 count) second.reads_are)

  pub has_none : asked.ids.cart ≡ None → HasCart asked count None reads
  has_none none = record {
    reads_are = second.reads_are ∙ ap (λ (l : List ReadOf). second.count ∷ l) (no_read second.rest (second.rest_are ∙ ap cart_keys none)) ∙ ap (λ (r : ReadOf). r ∷ []) first_is;
    count_is = ap (λ (r : ReadOf). r.key) (sym first_is) ∙ second.key_is;
    named = ap cart_keys (sym none);
  }
    where
      no_read : (reads : List ReadOf) → keys_of reads ≡ [] → reads ≡ []
      no_read [] none = refl
      no_read (read ∷ reads) none = absurd cc

  pub has_cart : (id : ℕ) (cart : ReadOf) → asked.ids.cart ≡ Some id → cart ≡ get_or reads 1 cart → HasCart asked count (Some cart) reads
  has_cart id cart some at =
      let one = one_read (key.Cart id) second.rest cart (second.rest_are ∙ ap cart_keys some) (at ∙ ap (λ (l : List ReadOf). get_or l 1 cart) second.reads_are) in
      record {
        reads_are = second.reads_are ∙ ap (λ (l : List ReadOf). second.count ∷ l) one.0 ∙ ap (λ (r : ReadOf). r ∷ cart ∷ []) first_is;
        count_is = ap (λ (r : ReadOf). r.key) (sym first_is) ∙ second.key_is;
        named = ap (λ k. k ∷ []) one.1 ∙ ap cart_keys (sym some);
      }

-- what is done next by these
pub next_for : (asked : CartAsked) (kept : Option (List (ℕ × ℕ))) (ask : Ask) (round : ℕ) (reads : List ReadOf) (count : ReadOf) (cart : Option ReadOf) (draft : Draft) (next : Next) → round ≡ 1 → HasCart asked count cart reads
    → IsNextFor asked kept ask count cart draft next → IsNext (FollowsCart asked kept ask) (CartRequest asked) ask round reads draft next
next_for asked kept ask round reads count cart draft next is has next_is =
    subst (λ n. IsNext (FollowsCart asked kept ask) (CartRequest asked) ask n reads draft next) (sym is)
    (subst (λ (l : List ReadOf). IsNext (FollowsCart asked kept ask) (CartRequest asked) ask 1 l draft next) (sym has.reads_are) next_is)

-- later the number of items, the cart and the items of the lines were read
pub record HasAll (asked : CartAsked) (kept : Option (List (ℕ × ℕ))) (draw : ℕ) (reads : List ReadOf) : Type 0 where
  pub count : ReadOf
  pub rest : List ReadOf
  pub reads_are : reads ≡ count ∷ rest
  pub count_is : count.key ≡ key.Count
  pub items : HasItems (number_in count.row) asked kept draw rest

pub has_all : (asked : CartAsked) (kept : Option (List (ℕ × ℕ))) (ask : Ask) (round : ℕ) (reads : List ReadOf) → (round ≡ 0 → ⊥) → (round ≡ 1 → ⊥) → FollowsCart asked kept ask round reads → HasAll asked kept ask.draw reads
has_all asked kept ask zero reads some more follows = absurd (some refl)
has_all asked kept ask (suc zero) reads some more follows = absurd (more refl)
has_all asked kept ask (suc (suc round)) reads some more follows =
    record { count = follows.count; rest = follows.rest; reads_are = follows.reads_are; count_is = follows.key_is; items = follows.rest_are }

-- where a cart is named, one was read
pub some_read : (named : Option ℕ) (cart : Option ReadOf) (reads items : List ReadOf) → IsNamed named cart → reads ≡ cart_reads cart ++ items → named ≢ None → 1 ≤ length reads
some_read named None reads items is are some = let none : named ≡ None = no_keys named (sym is) in absurd (some none)
  where
    no_keys : (named : Option ℕ) → cart_keys named ≡ [] → named ≡ None
    no_keys None is = refl
    no_keys (Some id) is = absurd cc
some_read named (Some read) reads items is are some = let many = ap (length {A = ReadOf}) are in omega (arith, many)

-- what tables show that fit what was read

pub shows_append : (t : Tables) (one other : List ReadOf) → Shows t (one ++ other) → Shows t one × Shows t other
shows_append t [] other shows = (tt, shows)
shows_append t (read ∷ one) other shows = let rest = shows_append t one other shows.1 in ((shows.0, rest.0), rest.1)

pub refusal_shown : (asked : CartAsked) (ask : Ask) (count : ReadOf) (cart : Option ReadOf) (refusal : Refusal) → count.key ≡ key.Count
    → ((t : Tables) → length t.items ≡ number_in count.row → Shows t (cart_reads cart) → check_cart t asked ≡ Some refusal)
    → (t : Tables) → Fits ask.index.now t (count ∷ cart_reads cart) → show t (CartRequest asked) ask.draw ≡ Some (page_of refusal)
refusal_shown asked ask count cart refusal count_is refuses t fits =
    let same : check_cart t asked ≡ Some refusal = refuses t (sym (size_read count count_is t fits.shows.0)) fits.shows.1 in
    ap (λ o. refused_or o None) same

-- the request is not refused there, and leaves these lines
record Leaves (t : Tables) (asked : CartAsked) (draw : ℕ) (lines : List (ℕ × ℕ)) : Type 0 where
  passes : check_cart t asked ≡ None
  old : List (ℕ × ℕ)
  named : lines_named t.carts asked.ids.cart ≡ Some old
  after : lines_after t asked draw ≡ lines

leaves : (t : Tables) (items : ℕ) (asked : CartAsked) (draw : ℕ) (cart : Option ReadOf) (lines : List (ℕ × ℕ)) → length t.items ≡ items → Shows t (cart_reads cart)
    → MakesOfCart items asked draw cart lines → Leaves t asked draw lines
leaves t items asked draw cart lines size shows makes =
    let old : List (ℕ × ℕ) = begun_with cart in
    let there : lines_named t.carts asked.ids.cart ≡ Some old = makes.there t shows in
    record {
      passes = ap (check_asked (length t.items) asked) there ∙ ap (λ n. check_lines n (wanted asked old) old) size ∙ makes.made.passes;
      old = old;
      named = there;
      after =
          ap (λ (o : Option (List (ℕ × ℕ))). cart_lines (length t.items) asked draw (unwrap_or o [])) there
          ∙ ap (λ n. cart_lines n asked draw old) size
          ∙ sym makes.made.lines_are;
    }

-- the write puts the cart where the act puts it

named_row : (o : Option CartRow) (old : List (ℕ × ℕ)) → option_map (λ c. c.lines) o ≡ Some old → (cart : CartRow) × (o ≡ Some cart)
named_row None old is = absurd cc
named_row (Some cart) old is = (cart, refl)

put_is : (carts : List CartRow) (named : Option ℕ) (old lines : List (ℕ × ℕ)) → lines_named carts named ≡ Some old
    → put_row carts (unwrap_or named 0) (λ id. record { id = id; lines = lines }) ≡ carts_with carts named lines
put_is carts None old lines there = refl
put_is carts (Some id) old lines there =
    let row = named_row (row_numbered carts id) old there in
    let above = (is_there carts id row.0 row.1).above in
    cond-false _ _ _ (ne_eqb id 0 (λ e. omega (arith, e, above)))

makes_lines : (t : Tables) (stamp : ℕ) (asked : CartAsked) (draw : ℕ) (lines : List (ℕ × ℕ)) → Leaves t asked draw lines → Makes t stamp (Cart asked draw) (put_lines asked.ids.cart lines)
makes_lines t stamp asked draw lines leaves = record {
  passes = leaves.passes;
  tables_are =
      ap (λ (carts : List CartRow). record t { carts = carts })
      (put_is t.carts asked.ids.cart leaves.old lines leaves.named ∙ ap (carts_with t.carts asked.ids.cart) (sym leaves.after));
}

-- the draft becomes the page

cart_drawn : (carts : List CartRow) (named : Option ℕ) (lines : List (ℕ × ℕ)) (drawn : Drawn) → drawn.ids.cart ≡ new_id carts (carts_with carts named lines)
    → cart_at drawn named ≡ cart_meant carts named
cart_drawn carts None lines drawn is = ap or_zero (is ∙ id_pushed carts (record { id = length carts + 1; lines = lines }))
cart_drawn carts (Some id) lines drawn is = refl

becomes : (t : Tables) (stamp : ℕ) (asked : CartAsked) (draw : ℕ) (lines : List (ℕ × ℕ)) (draft : Draft) → Leaves t asked draw lines → pages.Shows draft (page_at t asked.ids lines)
    → Becomes t stamp (Cart asked draw) draft
becomes t stamp asked draw lines draft leaves shows front =
    let drawn : Drawn = record { front = front; stamp = stamp; ids = new_ids t (play t stamp (Cart asked draw)).tables } in
    let cart : ℕ = cart_meant t.carts asked.ids.cart in
    subst (λ (l : List (ℕ × ℕ)). IsPage draft drawn (cart_page t (ids_with asked.ids cart) cart l)) (sym leaves.after)
    (subst (λ (n : ℕ). IsPage draft drawn (cart_page t (ids_with asked.ids n) n lines)) (cart_drawn t.carts asked.ids.cart (lines_after t asked draw) drawn refl) (shows drawn))

pub changed : (asked : CartAsked) (before kept : Option (List (ℕ × ℕ))) (ask : Ask) (round : ℕ) (reads : List ReadOf) (lines : List (ℕ × ℕ)) (draft : Draft) (next : Next)
    → (has : HasAll asked before ask.draw reads) → lines ≡ has.items.lines → IsChangeTo asked ask.draw lines (behind_cart asked.ids.cart has.rest) draft next
    → IsNext (FollowsCart asked kept ask) (CartRequest asked) ask round reads draft next
changed asked before kept ask round reads lines draft next has same change =
    let items : ℕ = number_in has.count.row in
    let behind : List ReadOf = behind_cart asked.ids.cart has.rest in
    let shown : (t : Tables) → Shows t reads → Shows t (has.count ∷ (cart_reads has.items.cart ++ behind))
    = λ t shows. subst (Shows t) (has.reads_are ∙ ap (λ (l : List ReadOf). has.count ∷ l) has.items.reads_are) shows in
    let apart : (t : Tables) → Shows t reads → Shows t (cart_reads has.items.cart) × Shows t behind
    = λ t shows. shows_append t (cart_reads has.items.cart) behind (shown t shows).1 in
    let here : (t : Tables) → Fits ask.index.now t reads → Leaves t asked ask.draw lines
    = λ t fits. leaves t items asked ask.draw has.items.cart lines (sym (size_read has.count has.count_is t (shown t fits.shows).0)) (apart t fits.shows).0
    (subst (MakesOfCart items asked ask.draw has.items.cart) (sym same) has.items.makes) in
    subst (IsNext (FollowsCart asked kept ask) (CartRequest asked) ask round reads draft) (sym change.is) (record {
      does = record { does = refl; drew = refl; taxed = tt };
      free = tt;
      makes = λ t stamp fits bound. makes_lines t stamp asked ask.draw lines (here t fits);
      becomes = λ t stamp fits bound. becomes t stamp asked ask.draw lines draft (here t fits) (change.written t (apart t fits.shows).1);
    })
