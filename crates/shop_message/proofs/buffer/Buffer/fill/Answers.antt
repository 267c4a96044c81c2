use Rattle.std.proofs.Common.{◌≡◌, ◌-◌, take, drop, length, arith, ap, ◌∙◌}
use Rattle.std.specs.Vec.{with_items}
use Rattle.std.proofs.lemmas.List.{with_items_is}
use Rattle.shop_message.specs.Buffers.{unserved, IsBuffer}
use Rattle.shop_message.proofs.BufferLemmas.{IsBuffer-more, IsBuffer-moved, unserved-put}
use Rattle.shop_message.proofs.buffer.Buffer.fill.Goals as goal
use Rattle.shop_message.proofs.buffer.Buffer.fill.Goals.{then-self-len, else-self-len+else-self}
use Rattle.shop_message.proofs.buffer.Buffer.fill.Given as given

-- what the buffer holds where it reads
state : (g : given.Over) (c : goal.After-self-in-Bytes-1 g)
    → IsBuffer c.if-self-len.self-inside.bytes.items c.if-self-len.self-inside.start c.if-self-len.self-inside.end c.if-self-len.self-inside.searched c.if-self-len.self-inside.fields.items
    × (unserved c.if-self-len.self-inside.bytes.items c.if-self-len.self-inside.start c.if-self-len.self-inside.end ≡ c.args.self.now)
state g c = elim c.if-self-len.branch [
  | then-self-len w ↦
      let items = with_items_is c.self.inside.bytes w.move_to_front.new.bytes (w.move_to_front.auto.bytes ∙ w.deref_mut.ensures.len) in
      let front : take (c.self.inside.end - c.self.inside.start) (with_items c.self.inside.bytes w.move_to_front.new.bytes).items ≡ unserved c.self.inside.bytes.items c.self.inside.start c.self.inside.end =
      ap (take (c.self.inside.end - c.self.inside.start)) items ∙ w.move_to_front.ensures ∙ ap (λ xs. unserved xs c.self.inside.start c.self.inside.end) w.deref_mut.ensures.value in
      let size = ap length items ∙ w.move_to_front.auto.bytes ∙ ap length w.deref_mut.ensures.value in
      rw w.self-inside-is (IsBuffer-moved _ _ _ _ _ _ c.self.invariant size front, front ∙ c.self.view_is)
  | else-self-len+else-self w ↦ rw w.self-inside-is (c.self.invariant, c.self.view_is)
]

pub invariant_of-self : goal.invariant_of-self
invariant_of-self g c =
    let items = with_items_is c.if-self-len.self-inside.bytes c.read_behind-got.new.bytes (c.read_behind-got.auto.bytes ∙ c.deref_mut-2.ensures.len) in
    let size = ap length items ∙ c.read_behind-got.auto.bytes ∙ ap length c.deref_mut-2.ensures.value in
    IsBuffer-more _ (with_items c.if-self-len.self-inside.bytes c.read_behind-got.new.bytes).items _ _ c.in-Bytes.count _ _ (state g c).0
    (omega (arith, size))
    (ap (take c.if-self-len.self-inside.end) items ∙ c.in-Bytes.ensures.front ∙ ap (take c.if-self-len.self-inside.end) c.deref_mut-2.ensures.value)
    (omega (arith, c.in-Bytes.ensures.fits.1, ap (λ xs. length (drop c.if-self-len.self-inside.end xs)) items))

pub returns-in-Bytes-clause-piece : goal.returns-in-Bytes-clause-piece
returns-in-Bytes-clause-piece g c =
    let items = with_items_is c.if-self-len.self-inside.bytes c.read_behind-got.new.bytes (c.read_behind-got.auto.bytes ∙ c.deref_mut-2.ensures.len) in
    let held = state g c in (
      take c.in-Bytes.count (drop c.if-self-len.self-inside.end c.read_behind-got.new.bytes),
      c.in-Bytes.ensures.read,
      unserved-put _ _ _ _ _ _ _ held.0.order
          (omega (arith, held.0.within, ap length items, c.read_behind-got.auto.bytes, ap length c.deref_mut-2.ensures.value))
          items (c.in-Bytes.ensures.front ∙ ap (take c.if-self-len.self-inside.end) c.deref_mut-2.ensures.value) held.1,
    )
