-- Customers whose names are found by decoding.
use Rattle.std.specs.Prelude.{◌≡◌, ℕ, List, map, All, Option, option_map, bytes_eq}
use Rattle.std.specs.List.{find}
use Rattle.shop_text.specs.Texts.{digsyl}
use Rattle.shop_model.specs.rows.Rows.{CustomerRow}
use Rattle.shop_model.specs.rows.Sound.{Runs}

-- the name of each is its id in syllables, and ids run
pub record AreNamed (customers : List CustomerRow) : Type 0 where
  pub users : All (λ c. c.user ≡ digsyl c.id) customers
  pub ids : Runs (map (λ c. c.id) customers)

-- the id of the customer with a user name
abbrev pub named_id : List CustomerRow → List ℕ → Option ℕ
named_id customers user = option_map (λ c. c.id) (find (λ c. bytes_eq c.user user) customers)
