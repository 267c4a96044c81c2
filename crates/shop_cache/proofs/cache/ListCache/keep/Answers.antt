use Rattle.std.proofs.Common.{ap, ◌∙◌}
use Rattle.lru.specs.LruCache.{LruCache}
use Rattle.shop_cache.specs.declared.cache.Kept.{Kept}
use Rattle.shop_cache.specs.declared.keys.ListKey.{ListKey}
use Rattle.shop_cache.specs.Caches.{with_kept}
use Rattle.shop_cache.proofs.Keeping.{put_keeps}
use Rattle.shop_cache.proofs.cache.ListCache.keep.Goals as goal

pub returns-clause-ok : goal.returns-clause-ok
returns-clause-ok c =
    ap (λ (cache : LruCache ListKey Kept). cache.entries) c.in_ok-put.ensures.entries
    ∙ put_keeps c.args.key c.args.kept c.self.inside.kept c.len.ensures.valid.1 c.self.invariant
    ∙ ap (with_kept c.args.key c.args.kept) c.self.view_is
