-- How many rows a population has.
use Rattle.std.proofs.Common.{◌≡◌, ℕ, length}
use Rattle.std.proofs.lemmas.List.FromFn.{length-map-range_with_len}
use Rattle.shop_model.specs.population.Population.{populated, item_row, items_table}
use Rattle.shop_model.specs.population.Scales.{ScaleRow}

pub items_populated : (seed : ℕ) (scale : ScaleRow) → length (populated seed scale).items ≡ scale.items
unfolding populated items_table
items_populated seed scale = length-map-range_with_len (item_row seed scale) 1 scale.items
