use Rattle.std.proofs.Common.{◌≡◌, ◌∙◌, sym, arith, false, true, take}
use Rattle.shop_model.specs.lists.Catalogues.{naming}
use Rattle.shop_search.specs.Keys.{is_among}
use Rattle.shop_search.specs.Titles.{titled}
use Rattle.shop_search.proofs.Filings.{ready_next, ready_skips}
use Rattle.shop_search.proofs.filing.filings.Goals as goal
use Rattle.shop_search.proofs.filing.filings.Goals.{then-not-contains+in_ok-filing+in_ok-push, else-not-contains}

pub loop-place-preserved : goal.loop-place-preserved
loop-place-preserved c =
    let item = titled (naming c.args.item.now) in
    let keys = c.args.keys.now in
    let key = c.index-keys-place.result in
    elim c.if-not-contains.branch [
      | then-not-contains+in_ok-filing+in_ok-push w ↦
          let new : is_among key (take c.loop-place.place keys) ≡ false = sym c.contains.ensures.value ∙ w.if-not-contains.true in
          rw (w.lists-is, w.filings-is) (record {
            same = λ q. w.in_ok-filing.ensures.widens.same q ∙ c.loop-place.invariant.same q;
            ready = ready_next item keys c.loop-place.place key c.loop-place.filings.items w.push.new.self.items w.in_ok-filing.filing (omega arith)
                c.index-keys-place.is w.in_ok-filing.ensures.filing w.in_ok-push.ensures.items new w.in_ok-filing.ensures.widens
                w.in_ok-filing.ensures.room c.loop-place.invariant.ready;
          })
      | else-not-contains w ↦
          let old : is_among key (take c.loop-place.place keys) ≡ true = sym c.contains.ensures.value ∙ w.if-not-contains.false in
          rw (w.lists-is, w.filings-is) (record {
            same = c.loop-place.invariant.same;
            ready = ready_skips item keys c.loop-place.place key c.loop-place.filings.items (omega arith) c.index-keys-place.is old c.loop-place.invariant.ready;
          })
    ]
