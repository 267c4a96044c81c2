use Rattle.shop_cache.specs.Caches.{AllTaken}
use Rattle.unit_tests.proofs.kept_lists.cache_of.Given as goal

-- all lists were taken then
abbrev pub invariant-loop-byte : goal.invariant-loop-byte
invariant-loop-byte l = AllTaken 1000 l.cache
