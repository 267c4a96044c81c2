use Rattle.std.proofs.Common.{◌≤◌, sym, subst, arith}
use Rattle.shop_cache.specs.Caches.{AllTaken}
use Rattle.shop_cache.proofs.cited.Caches.{all_with_kept}
use Rattle.unit_tests.proofs.kept_lists.keep.Goals as goal

pub returns : goal.returns
returns c = subst (AllTaken 1000) (sym c.in_ok-keep.ensures.ok) (all_with_kept (λ e. e.1.taken ≤ 1000) c.in_ok-key.field-0 _ c.args.cache.now (omega arith) c.requires)
