use Rattle.std.proofs.Common.{◌≡◌, ◌∙◌, sym, arith, false, true, take}
use Rattle.shop_search.specs.Keys.{is_among}
use Rattle.shop_search.proofs.Filling.{key_added, key_passed}
use Rattle.shop_search.proofs.lists.add_all.Goals as goal
use Rattle.shop_search.proofs.lists.add_all.Goals.{then-not-contains+in_ok-copy+in_ok-add, else-not-contains}

pub loop-place-preserved : goal.loop-place-preserved
loop-place-preserved c =
    elim c.if-not-contains.branch [
      | then-not-contains+in_ok-copy+in_ok-add w ↦
          let new : is_among c.index-keys-place.result (take c.loop-place.place c.args.keys.now) ≡ false = sym c.contains.ensures.value ∙ w.if-not-contains.true in
          let copy : w.in_ok-copy.copy ≡ c.index-keys-place.result = w.in_ok-copy.ensures ∙ w.bytes.ensures in
          rw w.lists-is
          (key_added c.args.keys.now c.loop-place.place c.index-keys-place.result c.args.id (omega arith) c.index-keys-place.is
          new c.loop-place.invariant (rw copy at w.in_ok-add.ensures))
      | else-not-contains w ↦
          let old : is_among c.index-keys-place.result (take c.loop-place.place c.args.keys.now) ≡ true = sym c.contains.ensures.value ∙ w.if-not-contains.false in
          rw w.lists-is
          (key_passed c.args.keys.now c.loop-place.place c.index-keys-place.result c.args.id (omega arith) c.index-keys-place.is
          old c.loop-place.invariant)
    ]
