-- What the cache is once a look's answer is let go.
use Rattle.std.specs.Prelude.{◌≡◌, ⊤}
use Rattle.std.specs.Borrow.{Fml, MutBor, follows_so}
use mathlib.Core.Option.{none}
use Rattle.shop_cache.specs.declared.cache.ListCache.{ListCache}
use Rattle.shop_cache.specs.contracts.cache.ListCache.{the_row}
use Rattle.shop_cache.specs.Caches.{Entries}

-- it has these entries
abbrev pub EndsAs : MutBor ListCache → Entries → Fml
EndsAs c entries = follows_so the_row the_row c.ghost_name none (λ _ _. ⊤) (λ n. n ≡ entries)
