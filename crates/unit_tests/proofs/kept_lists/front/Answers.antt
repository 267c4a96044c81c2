use Rattle.std.proofs.Common.{◌≤◌, sym, subst}
use Rattle.shop_cache.specs.Caches.{AllTaken}
use Rattle.shop_cache.proofs.cited.Caches.{all_looked}
use Rattle.unit_tests.proofs.kept_lists.front.Goals as goal

pub returns-in-Some : goal.returns-in-Some
returns-in-Some c = subst (AllTaken 1000) (sym c.look.follows.holds-at-none) (all_looked (λ e. e.1.taken ≤ 1000) c.in_ok-key.key c.args.cache.now c.requires.taken)

pub returns : goal.returns
returns c = subst (AllTaken 1000) (sym c.look.follows.holds-at-none) (all_looked (λ e. e.1.taken ≤ 1000) c.in_ok-key.key c.args.cache.now c.requires.taken)
