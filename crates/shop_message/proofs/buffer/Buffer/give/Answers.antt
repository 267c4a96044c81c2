use Rattle.std.proofs.Common.{◌≡◌, ◌-◌, take, drop, length, ap, ◌∙◌}
use Rattle.std.specs.Vec.{with_items}
use Rattle.std.proofs.lemmas.List.{with_items_is}
use Rattle.shop_message.specs.Buffers.{unserved, IsBuffer}
use Rattle.shop_message.proofs.BufferLemmas.{IsBuffer-moved, IsBuffer-given, unserved-given}
use Rattle.shop_message.proofs.buffer.Buffer.give.Goals as goal
use Rattle.shop_message.proofs.buffer.Buffer.give.Goals.{then-len-self, else-len-self}

-- what the buffer holds where it makes room
state : (c : goal.After-self-3-1)
    → IsBuffer c.if-len-self.self-inside.bytes.items c.if-len-self.self-inside.start c.if-len-self.self-inside.end c.if-len-self.self-inside.searched c.if-len-self.self-inside.fields.items
    × (unserved c.if-len-self.self-inside.bytes.items c.if-len-self.self-inside.start c.if-len-self.self-inside.end ≡ c.args.self.now)
state c = elim c.if-len-self.branch [
  | then-len-self w ↦
      let items = with_items_is c.self.inside.bytes w.move_to_front.new.bytes (w.move_to_front.auto.bytes ∙ w.deref_mut.ensures.len) in
      let front : take (c.self.inside.end - c.self.inside.start) (with_items c.self.inside.bytes w.move_to_front.new.bytes).items ≡ unserved c.self.inside.bytes.items c.self.inside.start c.self.inside.end =
      ap (take (c.self.inside.end - c.self.inside.start)) items ∙ w.move_to_front.ensures ∙ ap (λ xs. unserved xs c.self.inside.start c.self.inside.end) w.deref_mut.ensures.value in
      let size = ap length items ∙ w.move_to_front.auto.bytes ∙ ap length w.deref_mut.ensures.value in
      rw w.self-inside-is (IsBuffer-moved _ _ _ _ _ _ c.self.invariant size front, front ∙ c.self.view_is)
  | else-len-self w ↦ rw w.self-inside-is (c.self.invariant, c.self.view_is)
]

pub invariant_of-self-2 : goal.invariant_of-self-2
invariant_of-self-2 c =
    let items = with_items_is c.lengthen.new.bytes c.put_behind.new.bytes (c.put_behind.auto.bytes ∙ c.deref_mut-2.ensures.len) in
    let size = ap length items ∙ c.put_behind.auto.bytes ∙ ap length c.deref_mut-2.ensures.value in
    let front = ap (take c.if-len-self.self-inside.end) items ∙ c.put_behind.ensures.front ∙ ap (take c.if-len-self.self-inside.end) c.deref_mut-2.ensures.value in
    IsBuffer-given _ _ _ c.args.piece.now _ _ _ _ (state c).0 c.in_ok-lengthen.ensures.ok size front

pub returns-clause-ok : goal.returns-clause-ok
returns-clause-ok c =
    let items = with_items_is c.lengthen.new.bytes c.put_behind.new.bytes (c.put_behind.auto.bytes ∙ c.deref_mut-2.ensures.len) in
    let size = ap length items ∙ c.put_behind.auto.bytes ∙ ap length c.deref_mut-2.ensures.value in
    let front = ap (take c.if-len-self.self-inside.end) items ∙ c.put_behind.ensures.front ∙ ap (take c.if-len-self.self-inside.end) c.deref_mut-2.ensures.value in
    unserved-given _ _ _ c.args.piece.now _ _ _ _ (state c).0 c.in_ok-lengthen.ensures.ok size front _ (state c).1
    (ap (λ xs. take (length c.args.piece.now) (drop c.if-len-self.self-inside.end xs)) items ∙ c.put_behind.ensures.piece)
