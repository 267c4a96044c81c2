-- What a request for the shopping cart reads, the lines that it makes of its cart's, and the change to them.
use Rattle.std.specs.Prelude.{◌≡◌, ℕ, zero, suc, List, [], ◌∷◌, ◌++◌, length, map, drop, Option, Some, None, IfSome, unwrap_or}
use Rattle.shop_model.specs.declared.requests.Request.TheVariants.{CartRequest}
use Rattle.shop_model.specs.declared.tables.Tables.{Tables}
use Rattle.shop_model.specs.asked.CartAsked.{CartAsked}
use Rattle.shop_model.specs.trade.Carts.{wanted, cart_lines, check_lines, lines_named, check_cart}
use Rattle.shop_model.specs.rows.Sound.{IsFit}
use Rattle.shop_history.specs.declared.acts.Act.TheVariants.{Cart}
use Rattle.shop_history.specs.declared.keys.Key.{Key}
use Rattle.shop_history.specs.declared.keys.Key.TheVariants as key
use Rattle.shop_history.specs.declared.keys.Row.{Row}
use Rattle.shop_history.specs.declared.keys.Row.TheVariants as row
use Rattle.shop_draft.specs.declared.draft.Draft.{Draft}
use Rattle.shop_draft.specs.Pages as pages
use Rattle.shop_attempt.specs.declared.attempts.ReadOf.{ReadOf}
use Rattle.shop_attempt.specs.declared.attempts.Write.{Write}
use Rattle.shop_attempt.specs.declared.attempts.Write.TheVariants.{PutCart}
use Rattle.shop_attempt.specs.Reads.{Shows}
use Rattle.shop_pricing.specs.Bounds.{AreLines}
use Rattle.shop_browse.specs.declared.attempted.Ask.{Ask}
use Rattle.shop_browse.specs.declared.driver.Next.{Next}
use Rattle.shop_browse.specs.declared.driver.Next.TheVariants.{Change}
use Rattle.shop_browse.specs.Counting.{HasCount}
use Rattle.shop_browse.specs.Driver.{keys_of, IsNext}
use Rattle.shop_order.specs.declared.shopping_cart.Begun.{Begun}
use Rattle.shop_order.specs.declared.shopping_cart.Begun.TheVariants.{Lines, Refused, Never}
use Rattle.shop_order.specs.Page.{page_at}

-- the key of a cart, if one is named
abbrev pub cart_keys : Option ℕ → List Key
cart_keys None = []
cart_keys (Some id) = key.Cart id ∷ []

-- the read of a cart, if any
abbrev pub cart_reads : Option ReadOf → List ReadOf
cart_reads None = []
cart_reads (Some cart) = cart ∷ []

-- the cart that is named was read, and none where none is named
abbrev pub IsNamed : Option ℕ → Option ReadOf → Type 0
IsNamed named cart = keys_of (cart_reads cart) ≡ cart_keys named

-- if this row is a cart's, its lines are fit
abbrev pub IsFitRow : Row → Type 0
IsFitRow (row.Cart cart) = IsFit cart
IsFitRow _ = Unit {0}

abbrev pub IsFitRead : Option ReadOf → Type 0
IsFitRead cart = IfSome cart (λ read. IsFitRow read.row)

-- the lines of the cart in a row; another row has none
abbrev pub lines_in : Row → List (ℕ × ℕ)
lines_in (row.Cart cart) = cart.lines
lines_in _ = []

-- the lines that a request begins with: those of the cart that was read, and none of a new one
abbrev pub begun_with : Option ReadOf → List (ℕ × ℕ)
begun_with None = []
begun_with (Some cart) = lines_in cart.row

-- a request that is not refused makes these lines of others
pub record MakesLines (items : ℕ) (asked : CartAsked) (draw : ℕ) (old lines : List (ℕ × ℕ)) : Type 0 where
  pub kept : AreLines lines
  pub passes : check_lines items (wanted asked old) old ≡ None
  pub lines_are : lines ≡ cart_lines items asked draw old

-- what a request makes of lines, or why it is refused
abbrev pub IsMadeOf : ℕ → CartAsked → ℕ → List (ℕ × ℕ) → Begun → Type 0
IsMadeOf items asked draw old (Lines lines) = MakesLines items asked draw old lines
IsMadeOf items asked draw old (Refused refusal) = check_lines items (wanted asked old) old ≡ Some refusal
IsMadeOf items asked draw old Never = ⊥

-- a request that is not refused makes these lines of those of its cart, in whichever tables show what was read of it
pub record MakesOfCart (items : ℕ) (asked : CartAsked) (draw : ℕ) (cart : Option ReadOf) (lines : List (ℕ × ℕ)) : Type 0 where
  pub made : MakesLines items asked draw (begun_with cart) lines
  pub there : (t : Tables) → Shows t (cart_reads cart) → lines_named t.carts asked.ids.cart ≡ Some (begun_with cart)

-- the lines that a request leaves in a shop of so many items, or why it is refused, in whichever tables show what was read of its cart; or none do
abbrev pub IsBegun : ℕ → CartAsked → ℕ → Option ReadOf → Begun → Type 0
IsBegun items asked draw cart (Lines lines) = MakesOfCart items asked draw cart lines
IsBegun items asked draw cart (Refused refusal) =
    (t : Tables) → length t.items ≡ items → Shows t (cart_reads cart) → check_cart t asked ≡ Some refusal
IsBegun items asked draw cart Never = (t : Tables) → Shows t (cart_reads cart) → ⊥

-- these are reads of the items of the lines, in order
abbrev pub AreItems : List (ℕ × ℕ) → List ReadOf → Type 0
AreItems lines items = keys_of items ≡ map (λ l. key.Item l.0) lines

-- the reads behind that of the cart, if one is named
abbrev pub behind_cart : Option ℕ → List ReadOf → List ReadOf
behind_cart None reads = reads
behind_cart (Some id) reads = drop 1 reads

-- in a shop of so many items the cart was read, if one is named, and behind it the items of the lines that the request makes of it, which are kept
pub record HasItems (items : ℕ) (asked : CartAsked) (kept : Option (List (ℕ × ℕ))) (draw : ℕ) (reads : List ReadOf) : Type 0 where
  pub cart : Option ReadOf
  pub lines : List (ℕ × ℕ)
  pub reads_are : reads ≡ cart_reads cart ++ behind_cart asked.ids.cart reads
  pub named : IsNamed asked.ids.cart cart
  pub kept_is : kept ≡ Some lines
  pub makes : MakesOfCart items asked draw cart lines
  pub items_are : AreItems lines (behind_cart asked.ids.cart reads)

-- after one round the cart was read, if one is named; after two the items of the lines that are kept
abbrev pub FollowsLines : CartAsked → Option (List (ℕ × ℕ)) → ℕ → ℕ → ℕ → List ReadOf → Type 0
FollowsLines asked kept draw items zero reads = reads ≡ []
FollowsLines asked kept draw items (suc zero) reads = keys_of reads ≡ cart_keys asked.ids.cart
FollowsLines asked kept draw items (suc (suc more)) reads = HasItems items asked kept draw reads

-- the number of items was read before
abbrev pub FollowsCart : CartAsked → Option (List (ℕ × ℕ)) → Ask → ℕ → List ReadOf → Type 0
FollowsCart asked kept ask = HasCount (FollowsLines asked kept ask.draw)

-- what is done next, where the number of items was read, and the cart, if one is named
abbrev pub IsNextFor : CartAsked → Option (List (ℕ × ℕ)) → Ask → ReadOf → Option ReadOf → Draft → Next → Type 0
IsNextFor asked kept ask count cart draft next =
    IsNext (FollowsCart asked kept ask) (CartRequest asked) ask 1 (count ∷ cart_reads cart) draft next

-- the write of a cart with these lines: the one that is named, or a new one
abbrev pub put_lines : Option ℕ → List (ℕ × ℕ) → List Write
put_lines named lines = PutCart (record { id = unwrap_or named 0; lines = lines }) ∷ []

-- the change that leaves a cart with these lines, with the draft of its page in whichever tables show the items
pub record IsChangeTo (asked : CartAsked) (draw : ℕ) (lines : List (ℕ × ℕ)) (items : List ReadOf) (draft : Draft) (next : Next) : Type 0 where
  pub written : (t : Tables) → Shows t items → pages.Shows draft (page_at t asked.ids lines)
  pub is : next ≡ Change (Cart asked draw) (put_lines asked.ids.cart lines)
