-- Which authorisations the orders have.
use Rattle.std.specs.Prelude.{◌≡◌, ℕ, Bool, List, bytes_eq}
use Rattle.std.specs.List.{list_any}
use Rattle.std.specs.HashSet.{contains}
use Rattle.shop_model.specs.rows.Rows.{OrderRow}
use Rattle.shop_book.specs.declared.auths.Auths.{Auths}

-- an authorisation is among them
abbrev pub has_in : Auths → List ℕ → Bool
has_in auths auth = contains bytes_eq auths.there auth

-- they are those of these orders, and no others
abbrev pub AreAuths : List OrderRow → Auths → Type 0
AreAuths orders auths = (auth : List ℕ) → has_in auths auth ≡ list_any (λ o. bytes_eq o.card.auth auth) orders
