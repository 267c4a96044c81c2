use Rattle.std.proofs.Common.{◌+◌, [], ◌∷◌, Some, sym, ◌∙◌, subst}
use Rattle.shop_attempt.specs.declared.attempts.Attempt.{Attempt}
use Rattle.shop_attempt.proofs.cited.Marks.{looks_then}
use Rattle.shop_browse.specs.declared.driver.Next.TheVariants.{ReadOne, ReadTwo, Read, Show, ShowList, Change, Pay, Never}
use Rattle.shop_browse.specs.Attempts.{IsPlain, IsList, IsPayable, IsContradiction, asking_of}
use Rattle.shop_browse.proofs.DriverLemmas.{HasGone, one_round, next_is, showed, listed, changed, payable, never_shown}
use Rattle.shop_browse.proofs.driver.attempt_from.Goals as goal
use Rattle.shop_browse.proofs.driver.attempt_from.Goals.{in-ReadOne+in-Ok-read_one, in-ReadTwo+in-Ok-read_two, in-Read+in-Ok-read_all}

pub returns-in_default-read_one-clause-looks : goal.returns-in_default-read_one-clause-looks
returns-in_default-read_one-clause-looks g c = looks_then c.loop-round.invariant.gone.looks c.read_one.ensures.looks

pub returns-in_default-read_two-clause-looks : goal.returns-in_default-read_two-clause-looks
returns-in_default-read_two-clause-looks g c = looks_then c.loop-round.invariant.gone.looks c.read_two.ensures.looks

pub returns-in_default-read_all-clause-looks : goal.returns-in_default-read_all-clause-looks
returns-in_default-read_all-clause-looks g c = looks_then c.loop-round.invariant.gone.looks c.read_all.ensures.looks

pub returns-in-Show-clause-attempted : goal.returns-in-Show-clause-attempted
returns-in-Show-clause-attempted g c =
    let ask = c.args.ask.now in
    let follows = g.I.Interaction.follows c.next.new.self ask in
    let request = g.I.Interaction.request c.args.interaction in
    let start = g.St.Store.seat c.args.store.now in
    let now = g.St.Store.seat c.loop-round.store in
    let reads = c.loop-round.reads.items in
    let draft = c.next.new.draft in
    let next = next_is follows _ request ask c.loop-round.round reads _ draft _ Show (c.next.ensures.same ∙ c.loop-round.invariant.same) c.deref.ensures.value c.in-Show.is c.in-Ok-next.ensures.next in
    subst (IsPlain start now (asking_of ask request) draft) (sym c.looked.ensures) (showed start now follows request ask c.loop-round.round reads draft c.loop-round.invariant.gone.has next)

pub returns-in-ShowList-clause-attempted : goal.returns-in-ShowList-clause-attempted
returns-in-ShowList-clause-attempted g c =
    let ask = c.args.ask.now in
    let follows = g.I.Interaction.follows c.next.new.self ask in
    let request = g.I.Interaction.request c.args.interaction in
    let start = g.St.Store.seat c.args.store.now in
    let now = g.St.Store.seat c.loop-round.store in
    let reads = c.loop-round.reads.items in
    let draft = c.next.new.draft in
    let lines = c.in-ShowList.lines in
    let next = next_is follows _ request ask c.loop-round.round reads _ draft _ (ShowList lines) (c.next.ensures.same ∙ c.loop-round.invariant.same) c.deref.ensures.value c.in-ShowList.is c.in-Ok-next.ensures.next in
    subst (λ (a : Attempt). IsList start now (asking_of ask request) draft a lines) (sym c.looked-in-ShowList.ensures)
    (listed start now follows request ask c.loop-round.round reads draft lines c.loop-round.invariant.gone.has next)

pub returns-in-Change-clause-attempted : goal.returns-in-Change-clause-attempted
returns-in-Change-clause-attempted g c =
    let ask = c.args.ask.now in
    let follows = g.I.Interaction.follows c.next.new.self ask in
    let request = g.I.Interaction.request c.args.interaction in
    let start = g.St.Store.seat c.args.store.now in
    let now = g.St.Store.seat c.loop-round.store in
    let reads = c.loop-round.reads.items in
    let draft = c.next.new.draft in
    let act = c.in-Change.act in
    let writes = c.in-Change.writes in
    let next = next_is follows _ request ask c.loop-round.round reads _ draft _ (Change act writes) (c.next.ensures.same ∙ c.loop-round.invariant.same) c.deref.ensures.value c.in-Change.is c.in-Ok-next.ensures.next in
    subst (λ (a : Attempt). IsPlain start now (asking_of ask request) draft (record a { writes = Some writes; act = Some act })) (sym c.looked-in-Change.ensures)
    (changed start now follows request ask c.loop-round.round reads draft act writes c.loop-round.invariant.gone.has next)

pub returns-in-Pay-clause-attempted : goal.returns-in-Pay-clause-attempted
returns-in-Pay-clause-attempted g c =
    let ask = c.args.ask.now in
    let follows = g.I.Interaction.follows c.next.new.self ask in
    let request = g.I.Interaction.request c.args.interaction in
    let start = g.St.Store.seat c.args.store.now in
    let now = g.St.Store.seat c.loop-round.store in
    let reads = c.loop-round.reads.items in
    let draft = c.next.new.draft in
    let next = next_is follows _ request ask c.loop-round.round reads _ draft _ Pay (c.next.ensures.same ∙ c.loop-round.invariant.same) c.deref.ensures.value c.in-Pay.is c.in-Ok-next.ensures.next in
    subst (IsPayable start now (asking_of ask request)) (sym c.looked-in-Pay.ensures) (payable start now follows request ask c.loop-round.round reads draft c.loop-round.invariant.gone.has next)

pub returns-in-Never-clause-attempted : goal.returns-in-Never-clause-attempted
returns-in-Never-clause-attempted g c =
    let ask = c.args.ask.now in
    let follows = g.I.Interaction.follows c.next.new.self ask in
    let request = g.I.Interaction.request c.args.interaction in
    let start = g.St.Store.seat c.args.store.now in
    let now = g.St.Store.seat c.loop-round.store in
    let reads = c.loop-round.reads.items in
    let draft = c.next.new.draft in
    let next = next_is follows _ request ask c.loop-round.round reads _ draft _ Never (c.next.ensures.same ∙ c.loop-round.invariant.same) c.deref.ensures.value c.in-Never.is c.in-Ok-next.ensures.next in
    subst (IsContradiction start now (asking_of ask request)) (sym c.looked-in-Never.ensures) (never_shown start now follows request ask c.loop-round.round reads draft c.loop-round.invariant.gone.has next)

pub loop-round-preserved : goal.loop-round-preserved
loop-round-preserved g c =
    let seat = g.St.Store.seat in
    let marked = g.St.Store.marked in
    let ask = c.args.ask.now in
    let follows = g.I.Interaction.follows c.next.new.self ask in
    let request = g.I.Interaction.request c.args.interaction in
    let first = c.args.store.now in
    let old = c.loop-round.store in
    let round = c.loop-round.round in
    let reads = c.loop-round.reads.items in
    let draft = c.next.new.draft in
    let same = c.next.ensures.same ∙ c.loop-round.invariant.same in
    record {
      gone = elim c.match-next-2.branch as (λ _. HasGone seat marked first c.match-next-2.store follows request ask (round + 1) c.match-next-2.reads.items) [
        | in-ReadOne+in-Ok-read_one w ↦
            let next = next_is follows _ request ask round reads _ draft _ (ReadOne w.in-ReadOne.key) same c.deref.ensures.value w.in-ReadOne.is c.in-Ok-next.ensures.next in
            rw (w.store-is, w.reads-is)
            (one_round seat marked first old w.read_one.new.store _ follows request ask round reads w.read_one.new.reads.items (w.in-ReadOne.key ∷ []) c.loop-round.invariant.gone next
            w.read_one.ensures.looks w.in-Ok-read_one.ensures.reads)
        | in-ReadTwo+in-Ok-read_two w ↦
            let next = next_is follows _ request ask round reads _ draft _ (ReadTwo w.in-ReadTwo.one w.in-ReadTwo.other) same c.deref.ensures.value w.in-ReadTwo.is c.in-Ok-next.ensures.next in
            rw (w.store-is, w.reads-is)
            (one_round seat marked first old w.read_two.new.store _ follows request ask round reads w.read_two.new.reads.items (w.in-ReadTwo.one ∷ w.in-ReadTwo.other ∷ []) c.loop-round.invariant.gone next
            w.read_two.ensures.looks w.in-Ok-read_two.ensures.reads)
        | in-Read+in-Ok-read_all w ↦
            let next = next_is follows _ request ask round reads _ draft _ (Read w.in-Read.keys) same c.deref.ensures.value w.in-Read.is c.in-Ok-next.ensures.next in
            rw (w.store-is, w.reads-is)
            (one_round seat marked first old w.read_all.new.store _ follows request ask round reads w.read_all.new.reads.items w.in-Read.keys c.loop-round.invariant.gone next
            w.read_all.ensures.looks w.in-Ok-read_all.ensures.reads)
      ];
      same = same;
    }
