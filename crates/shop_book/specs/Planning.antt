-- What is kept of an act before it is done.
use Rattle.std.specs.Prelude.{◌≡◌, ℕ, ◌+◌, List, [], ◌∷◌, ◌++◌, length, map, All, Some, unwrap_or}
use Rattle.shop_model.specs.declared.tables.Tables.{Tables}
use Rattle.shop_model.specs.asked.AddAsked.{AddAsked}
use Rattle.shop_model.specs.asked.PurchaseAsked.{PurchaseAsked}
use Rattle.shop_model.specs.trade.Adding.{added_item, tables_added}
use Rattle.shop_model.specs.trade.Carts.{lines_named}
use Rattle.shop_history.specs.declared.acts.Act as act
use Rattle.shop_history.specs.declared.acts.Act.{Act}
use Rattle.shop_history.specs.declared.keys.Key as key
use Rattle.shop_history.specs.declared.keys.Key.{Key}
use Rattle.shop_history.specs.Keys.{row_of}
use Rattle.shop_history.specs.MayChange.{may_change, ship_changes}
use Rattle.shop_ranking.specs.StandingBest.{AreSoldLately}
use Rattle.shop_ranking.specs.StandingNewest.{AreAsPublished}
use Rattle.shop_book.specs.declared.addition.Addition.{Addition}
use Rattle.shop_book.specs.declared.plan.Plan.{Plan}
use Rattle.shop_book.specs.declared.plan.Plan.TheVariants.{One, Compare, Sell, Mend, Add}
use Rattle.shop_book.specs.declared.watching.Watched.{Watched}
use Rattle.shop_book.specs.Watching.{AreOf, IsWatchable, keys_of}

-- the items of a cart, a line each
abbrev pub items_in : Tables → ℕ → List ℕ
items_in t cart = map (λ l. l.0) (unwrap_or (lines_named t.carts (Some cart)) [])

-- what a purchase changes for certain, beside the lists
abbrev pub certain_changes : Tables → PurchaseAsked → List Key
certain_changes t asked =
    key.TheVariants.Cart asked.cart
    ∷ key.TheVariants.Order (length t.orders + 1)
    ∷ key.TheVariants.LastOrder asked.c
    ∷ map key.TheVariants.Item (items_in t asked.cart)
    ++ ship_changes t asked.address

-- an act that moves none of the lists that are kept
abbrev pub MovesNoList : Act → Type 0
MovesNoList (act.TheVariants.Cart asked draw) = Unit {0}
MovesNoList (act.TheVariants.Enter asked draw) = Unit {0}
MovesNoList _ = ⊥

-- all keys that an act may change are watched, with what they show
pub record IsCompared (t : Tables) (a : Act) (watched : List Watched) : Type 0 where
  pub still : MovesNoList a
  pub keys : keys_of watched ≡ may_change t a
  pub rows : AreOf t watched
  pub kinds : All (λ w. IsWatchable w.key) watched

-- the item that is asked for, and the ranks of all items with it, as if it were published on day 0
pub record IsAddition (t : Tables) (asked : AddAsked) (a : Addition) : Type 0 where
  pub item_is : a.item ≡ added_item t 0 asked
  pub units : AreSoldLately (tables_added t 0 asked) a.best
  pub days : AreAsPublished (tables_added t 0 asked) a.newest

abbrev pub IsPlanOf : Tables → Act → Plan → Type 0
IsPlanOf t a (One watched) = IsCompared t a (watched ∷ [])
IsPlanOf t a (Compare watched) = IsCompared t a watched.items
IsPlanOf t (act.TheVariants.Confirm asked draw auth tax) (Sell keys) = keys.items ≡ certain_changes t asked
IsPlanOf t (act.TheVariants.Admin asked) (Mend item row) = (item ≡ asked.item) × (row ≡ row_of t (key.TheVariants.Item item))
IsPlanOf t (act.TheVariants.Add asked) (Add addition) = IsAddition t asked addition
IsPlanOf t _ (Sell keys) = ⊥
IsPlanOf t _ (Mend item row) = ⊥
IsPlanOf t _ (Add addition) = ⊥

-- as many keys may get a version
abbrev pub keys_in : Plan → ℕ
keys_in (One watched) = 1
keys_in (Compare watched) = length watched.items
keys_in (Sell keys) = length keys.items
keys_in (Mend item row) = 1
keys_in (Add addition) = 1
