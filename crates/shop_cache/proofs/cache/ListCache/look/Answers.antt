use Rattle.std.proofs.Common.{◌≤◌, subst, rules, IfSome, Option, sym}
use Rattle.std.proofs.lemmas.Map.Entries.{All-lookup}
use Rattle.shop_cache.specs.declared.cache.Kept.{Kept}
use Rattle.shop_cache.specs.Caches.{AllTaken}
use Rattle.shop_cache.proofs.cache.ListCache.look.Goals as goal

pub overflow_sub-moment : goal.overflow_sub-moment
overflow_sub-moment c =
    let all = subst (AllTaken c.args.moment) (sym c.self.view_is) c.requires in
    let P : Kept → Type 0 = λ k. k.taken ≤ c.args.moment in
    subst (λ (o : Option Kept). IfSome o P) (sym c.in_ok-kept.ensures.value) (All-lookup P _ _ all)

pub returns : goal.returns
returns c = search rules
