use Rattle.std.proofs.Common.{List, ◌∷◌, [], ◌++◌, map, ap, ◌∙◌, sym, append_assoc}
use Rattle.std.specs.Vec.Iter.{into_iter_items}
use Rattle.shop_book.specs.declared.puts.Put.{Put}
use Rattle.shop_book.specs.Puts.{stamped}
use Rattle.shop_book.proofs.puts.all_stamped.Goals as goal

pub loop-put-init : goal.loop-put-init
loop-put-init c =
    ap (λ (made : List Put). made ++ map (stamped c.args.stamp) (into_iter_items c.into_iter-put-iterator.result)) c.in_ok-all.ensures.items
    ∙ ap (map (stamped c.args.stamp)) c.into_iter-put-iterator.ensures.into_iter_gives.0

pub loop-put-preserved : goal.loop-put-preserved
loop-put-preserved c =
    let stamp = c.args.stamp in
    let rest : List Put = map (stamped stamp) (into_iter_items c.next.new.self) in
    ap (λ (made : List Put). made ++ rest) c.in_ok-push.ensures.items
    ∙ append_assoc c.loop-put.all.items (c.in_ok-stamped.field-0 ∷ []) rest
    ∙ ap (λ (p : Put). c.loop-put.all.items ++ p ∷ rest) c.in_ok-stamped.ensures
    ∙ ap (λ (left : List Put). c.loop-put.all.items ++ map (stamped stamp) left) (sym c.in-Some.ensures.steps.0)
    ∙ c.loop-put.invariant
