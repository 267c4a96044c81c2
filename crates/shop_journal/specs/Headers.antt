-- The headers of journals: of which format, and of which shop.
use Rattle.std.specs.Prelude.{ℕ, List, ◌++◌, codes}
use Rattle.std.specs.Int.{to_be_bytes, w32}
use Rattle.shop_model.specs.asked.CustomersAsked.{IsId}
use Rattle.shop_model.specs.population.Scales.{ScaleRow, IsScale}
use Rattle.shop_journal.specs.declared.headers.Format.{Format}
use Rattle.shop_journal.specs.declared.headers.Format.TheVariants.{First, Second}
use Rattle.shop_journal.specs.declared.headers.Head.{Head}

-- a number of 32 bits, the highest byte first
abbrev pub word : ℕ → List ℕ
word number = to_be_bytes w32 number

-- what a journal begins with
abbrev pub magic : Format → List ℕ
magic First = codes "TPCWLOG1"
magic Second = codes "TPCWLOG2"

abbrev pub scale_bytes : ScaleRow → List ℕ
scale_bytes scale = word scale.items ++ (word scale.authors ++ (word scale.customers ++ (word scale.addresses ++ word scale.orders)))

abbrev pub header_of : Format → Head → List ℕ
header_of format head = magic format ++ (word head.seed ++ scale_bytes head.scale)

-- the seed has 32 bits, and the scale is one of the shop's
pub record IsHead (head : Head) : Type 0 where
  pub seed : IsId head.seed
  pub scale : IsScale head.scale
