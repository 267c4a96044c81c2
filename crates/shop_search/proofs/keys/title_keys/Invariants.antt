use Rattle.std.proofs.Common.{◌≡◌, ◌++◌, drop, map}
use Rattle.shop_text.specs.Fold.{lower}
use Rattle.shop_model.specs.lists.Catalogues.{words}
use Rattle.shop_search.proofs.Words.{low_words}
use Rattle.shop_search.proofs.keys.title_keys.Given as goal

abbrev pub invariant-loop-byte : goal.invariant-loop-byte
invariant-loop-byte l = l.keys.items ++ low_words l.run.items (drop l.byte-index l.title) ≡ map (map lower) (words l.title)
