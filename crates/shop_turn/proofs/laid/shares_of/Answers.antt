use Rattle.std.proofs.Common.{◌≡◌, ◌*◌, ◌+◌, ◌∷◌, [], List, Option, Some, ap, ◌∙◌, subst, sym, length, length-append}
use mathlib.Core.Option.{some}
use lib.ListN.{get_elem?}
use Rattle.shop_book.specs.Books.{BookValue}
use Rattle.shop_turn.proofs.Laying.{more_there}
use Rattle.shop_turn.proofs.laid.shares_of.Goals as goal

pub loop-slot-preserved : goal.loop-slot-preserved
loop-slot-preserved c =
    let i = c.loop-slot.invariant in let items = c.in_ok-push.ensures.items in let was = c.loop-slot.slots.items in let x = c.in_ok-slot_of.field-0 in (
      ap (λ (l : List (Option BookValue)). length l) items ∙ length-append was (x ∷ []) ∙ ap (λ n. n + 1) i.0,
      λ k lt. subst (λ (l : List (Option BookValue)). get_elem? l (8 * k) ≡ some (Some c.args.share.now)) (sym items) (more_there c.args.share.now was c.loop-slot.slot x i.0 i.1 c.in_ok-slot_of.ensures k lt),
    )
