use Rattle.std.proofs.Common.{◌≡◌, ◌≤◌, ◌∙◌, sym, take, map, length, rules}
use Rattle.shop_text.specs.Fold.{lower}
use Rattle.shop_search.proofs.Matching.{fronts_more, fronts_last}
use Rattle.shop_search.proofs.keys.author_keys.Goals as goal

pub loop-end-preserved : goal.loop-end-preserved
loop-end-preserved c =
    let small : c.bytes.result.now ≡ c.small.inside.bytes.items = search rules in
    let low : c.loop-end.end ≤ length c.small.inside.bytes.items = search rules in
    let more = fronts_more c.small.inside.bytes.items c.loop-end.end low in
    let front : c.in_ok-copy.field-0 ≡ take c.loop-end.end c.small.inside.bytes.items = rw small at c.in_ok-copy.ensures in
    c.in_ok-push.ensures.items ∙ rw (c.loop-end.invariant, front) (sym more)

pub returns : goal.returns
returns c =
    let all : c.loop-end.end ≡ length c.small.inside.bytes.items = search rules in
    let whole : c.small.inside.bytes.items ≡ map lower c.args.name.now = search rules in
    fronts_last c.small.inside.bytes.items (map lower c.args.name.now) c.in_ok-small.small c.loop-end.end c.loop-end.keys.items
    c.push-2.new.self.items all whole c.in_ok-small.ensures c.loop-end.invariant c.in_ok-push-2.ensures.items
