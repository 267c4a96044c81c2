use Rattle.std.proofs.Common.{◌≡◌, ◌+◌, ◌<◌, List, ℕ, map, length, sym, subst, arith}
use Rattle.std.proofs.lemmas.List.{length-map}
use Rattle.std.specs.Borrow.{Bor}
use Rattle.shop_history.specs.declared.acts.Entry.{Entry}
use Rattle.shop_journal.specs.Journals.{StopsAt}
use Rattle.shop_journal.proofs.Entries.{IsRead, element, one_read, stop_read}
use Rattle.shop_journal.proofs.logs.entries_in.Goals as goal

pub returns-in_default-clause-stops : goal.returns-in_default-clause-stops
returns-in_default-clause-stops c = λ at same.
    let format = c.args.format in
    let borrowed = c.args.payloads.now in
    let payloads = map (λ (p : Bor (List ℕ)). p.now) borrowed in
    let count = c.loop-payload.payload-index in
    let within : count < length payloads = omega (arith, c.loop-payload-test.true, length-map borrowed (λ (p : Bor (List ℕ)). p.now)) in
    let place : c.loop-payload.place ≡ at = cc same in
    subst (λ (n : ℕ). StopsAt format n payloads) place
    (stop_read format payloads count c.loop-payload.entries c.loop-payload.place _ c.loop-payload.invariant within (element borrowed count _ c.loop-payload-test.true)
    (λ e is spelled. c.in_default.not-Some e (c.in_ok-entry.ensures.kept e is spelled)))

pub loop-payload-preserved : goal.loop-payload-preserved
loop-payload-preserved c =
    let format = c.args.format in
    let borrowed = c.args.payloads.now in
    let payloads = map (λ (p : Bor (List ℕ)). p.now) borrowed in
    let count = c.loop-payload.payload-index in
    let within : count < length payloads = omega (arith, c.loop-payload-test.true, length-map borrowed (λ (p : Bor (List ℕ)). p.now)) in
    let some = rw c.in-Some.is at c.in_ok-entry.ensures.some in
    subst (λ (es : List Entry). IsRead format payloads (count + 1) es c.in_ok-place.place) (sym c.in_ok-push.ensures.ok)
    (one_read format payloads count c.loop-payload.entries c.loop-payload.place c.in_ok-place.place _ c.in-Some.entry c.loop-payload.invariant within (element borrowed count _ c.loop-payload-test.true) some.0 some.1 c.in_ok-place.ensures.place)
