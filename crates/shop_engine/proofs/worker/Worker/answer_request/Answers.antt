use Rattle.std.proofs.Common.{◌≡◌, None, refl, sym, ◌∙◌, ap, subst}
use Rattle.shop_pages.specs.ReplyStates.{bytes_of}
use Rattle.shop_cache.specs.Keys.{key_asked}
use Rattle.shop_engine.specs.Keeping.{IsAnsweredBy, IsFoundList, KeepsLines, found_for, kept_now}
use Rattle.shop_engine.specs.Lists.{IsFreshPoint}
use Rattle.shop_engine.specs.Steps.{AnswersRequest}
use Rattle.shop_engine.specs.WorkerView.{state_of}
use Rattle.shop_engine.specs.Workers.{WorkerState, standing}
use Rattle.shop_engine.proofs.KeptLemmas.{all_still, keeps_lines, point_again}
use Rattle.shop_engine.proofs.Steps.{answers_is, gives_up, gives_up_early, gives_up_late, looked_there, looked_worker, shows_kept, still_posted}
use Rattle.shop_engine.proofs.worker.Worker.answer_request.Goals as goal

-- memory ran out before the page of a list was written

pub returns-in-Err-clause-memory : goal.returns-in-Err-clause-memory
returns-in-Err-clause-memory g c none =
    let looked = c.answer_kept.new.self in
    let once = c.in-Err.ensures.refused in
    let key = once.0 in
    let is = looked_worker c.args.self.now c.accept-accepted.new.self looked looked _ _ key c.accept-accepted.ensures.worker (looked_there c.accept-accepted.new.self looked key c.answer_kept.ensures.worker once.1) refl in
    gives_up_early g.St.Store.seat c.args.self.now looked looked _ _ _ _ _ _ _ key is c.now.ensures c.accept-accepted.ensures.call c.accept-accepted.ensures.moment
    refl refl c.args.request.now refl refl key (ap (λ (w : WorkerState g.row.St.Denot). w.kept) is)

-- the list that is kept is the answer

pub returns-in-Ok-Some-clause-answers : goal.returns-in-Ok-Some-clause-answers
returns-in-Ok-Some-clause-answers g c =
    let looked = c.answer_kept.new.self in
    let key = key_asked c.args.request.now in
    let front = c.in-Ok-Some.front in
    let is = looked_worker c.args.self.now c.accept-accepted.new.self looked looked _ _ key c.accept-accepted.ensures.worker (looked_there c.accept-accepted.new.self looked key c.answer_kept.ensures.worker c.in-Ok-Some.ensures.looked) refl in
    let found = subst (λ (w : WorkerState g.row.St.Denot). IsFoundList (g.St.Store.seat w.store) (g.St.Store.marked w.store) c.args.request.now c.args.form front w.progress.last looked.reply w.kept) c.accept-accepted.ensures.worker (subst (IsAnsweredBy g.St.Store.seat g.St.Store.marked key c.args.request.now c.args.form c.accept-accepted.new.self looked) c.in-Ok-Some.field-0-is c.in-Ok-Some.ensures.found) in
    (shows_kept g.St.Store.seat c.args.self.now looked looked _ _ _ _ _ _ _ key is c.now.ensures c.accept-accepted.ensures.call c.accept-accepted.ensures.moment
    refl refl (g.St.Store.marked c.args.self.now.store) c.args.request.now c.args.form front c.point.result refl refl (ap (λ (w : WorkerState g.row.St.Denot). w.kept) is) refl found
    (c.point.ensures ∙ ap (λ draw. point_again front c.accept-accepted.result.moment c.accept-accepted.result.call draw) c.accept-accepted.ensures.draw)).0

pub returns-in-Ok-Some-clause-fresh : goal.returns-in-Ok-Some-clause-fresh
returns-in-Ok-Some-clause-fresh g c =
    let looked = c.answer_kept.new.self in
    let key = key_asked c.args.request.now in
    let front = c.in-Ok-Some.front in
    let is = looked_worker c.args.self.now c.accept-accepted.new.self looked looked _ _ key c.accept-accepted.ensures.worker (looked_there c.accept-accepted.new.self looked key c.answer_kept.ensures.worker c.in-Ok-Some.ensures.looked) refl in
    let found = subst (λ (w : WorkerState g.row.St.Denot). IsFoundList (g.St.Store.seat w.store) (g.St.Store.marked w.store) c.args.request.now c.args.form front w.progress.last looked.reply w.kept) c.accept-accepted.ensures.worker (subst (IsAnsweredBy g.St.Store.seat g.St.Store.marked key c.args.request.now c.args.form c.accept-accepted.new.self looked) c.in-Ok-Some.field-0-is c.in-Ok-Some.ensures.found) in
    subst (λ store. IsFreshPoint (g.St.Store.marked store) (g.St.Store.seat looked.store).seen c.point.result) (sym (ap (λ (w : WorkerState g.row.St.Denot). w.store) is))
    (shows_kept g.St.Store.seat c.args.self.now looked looked (g.C.Clock.readings c.args.clock.now) (g.C.Clock.readings c.now.new.self) (g.G.Gateway.answers c.args.gateway.now) (g.G.Gateway.answers c.args.gateway.now) _ _ _ key is c.now.ensures c.accept-accepted.ensures.call c.accept-accepted.ensures.moment
    refl refl (g.St.Store.marked c.args.self.now.store) c.args.request.now c.args.form front c.point.result refl refl (ap (λ (w : WorkerState g.row.St.Denot). w.kept) is) refl found
    (c.point.ensures ∙ ap (λ draw. point_again front c.accept-accepted.result.moment c.accept-accepted.result.call draw) c.accept-accepted.ensures.draw)).1

-- memory ran out in the tries

pub returns-in_err-outcome-clause-memory : goal.returns-in_err-outcome-clause-memory
returns-in_err-outcome-clause-memory g c none =
    let key = key_asked c.args.request.now in
    let inside = state_of c.self.inside in
    let new : WorkerState g.row.St.Denot = record {
      store = c.try_all.new.store;
      caller = inside.caller;
      progress = inside.progress;
      kept = inside.kept;
      reply = bytes_of c.try_all.new.reply;
    } in
    let is = looked_worker c.args.self.now c.accept-accepted.new.self c.answer_kept.new.self inside _ _ key c.accept-accepted.ensures.worker (looked_there c.accept-accepted.new.self c.answer_kept.new.self key c.answer_kept.ensures.worker c.in-Ok-None.ensures.looked) c.self.view_is in
    gives_up g.St.Store.seat c.args.self.now inside new _ _ _ _ _ _ _ key is c.now.ensures c.accept-accepted.ensures.call c.accept-accepted.ensures.moment
    refl refl _ key refl refl (ap (λ (w : WorkerState g.row.St.Denot). w.kept) is) (c.in_err-outcome.ensures.memory refl)

pub invariant_of-self : goal.invariant_of-self
invariant_of-self g c =
    let follows = (c.in_err-outcome.ensures.memory refl).stays.stays.follows in
    (still_posted _ _ _ _ c.self.invariant.0 follows, c.self.invariant.1, all_still _ _ _ _ _ c.self.inside.cache follows c.try_all.ensures.marks c.self.invariant.2)

-- the tries decided

pub invariant_of-self-2 : goal.invariant_of-self-2
invariant_of-self-2 g c =
    let follows = c.in_ok-outcome.ensures.answer.is.decided.stays.follows in
    (still_posted _ _ _ _ c.self.invariant.0 follows, c.self.invariant.1, all_still _ _ _ _ _ c.self.inside.cache follows c.try_all.ensures.marks c.self.invariant.2)

pub keep-requires : goal.keep-requires
keep-requires g c =
    let key = key_asked c.args.request.now in
    let inside = state_of c.self.inside in
    let outcome = c.in_ok-outcome.outcome in
    let answer = c.in_ok-outcome.ensures.answer in
    let is = looked_worker c.args.self.now c.accept-accepted.new.self c.answer_kept.new.self inside _ _ key c.accept-accepted.ensures.worker (looked_there c.accept-accepted.new.self c.answer_kept.new.self key c.answer_kept.ensures.worker c.in-Ok-None.ensures.looked) c.self.view_is in
    let last : c.self.inside.last ≡ c.accept-accepted.result.moment = ap (λ (w : WorkerState g.row.St.Denot). w.progress.last) is in
    subst (λ m. KeepsLines (g.St.Store.seat c.try_all.new.store) (g.St.Store.marked c.try_all.new.store) m key outcome.front outcome.lines) (sym last)
    (keeps_lines _ _ _ c.args.request.now _ c.accept-accepted.result.moment outcome.kind outcome.lines key refl answer.is.lines answer.is.decided.cause c.in_ok-outcome.ensures.mark)

pub returns-in_default-clause-memory : goal.returns-in_default-clause-memory
returns-in_default-clause-memory g c none =
    let key = key_asked c.args.request.now in
    let inside = state_of c.self.inside in
    let new = c.keep.new.self in
    let worker = c.keep.ensures.worker in
    let is = looked_worker c.args.self.now c.accept-accepted.new.self c.answer_kept.new.self inside _ _ key c.accept-accepted.ensures.worker (looked_there c.accept-accepted.new.self c.answer_kept.new.self key c.answer_kept.ensures.worker c.in-Ok-None.ensures.looked) c.self.view_is in
    let tried : WorkerState g.row.St.Denot = record {
      store = c.try_all.new.store;
      caller = inside.caller;
      progress = inside.progress;
      kept = inside.kept;
      reply = bytes_of c.try_all.new.reply;
    } in
    gives_up_late g.St.Store.seat c.args.self.now inside new _ _ _ _ _ _ _ key is c.now.ensures c.accept-accepted.ensures.call c.accept-accepted.ensures.moment
    (ap (λ (w : WorkerState g.row.St.Denot). w.caller) worker) (ap (λ (w : WorkerState g.row.St.Denot). w.progress) worker)
    tried worker _ c.in_ok-outcome.outcome key refl refl (c.in_default.ensures.refused ∙ ap (λ (w : WorkerState g.row.St.Denot). w.kept) is) c.in_default.ensures.some c.in_ok-outcome.ensures.answer

pub returns-clause-answers : goal.returns-clause-answers
returns-clause-answers g c =
    let key = key_asked c.args.request.now in
    let inside = state_of c.self.inside in
    let outcome = c.in_ok-outcome.outcome in
    let new = c.keep.new.self in
    let worker = c.keep.ensures.worker in
    let is = looked_worker c.args.self.now c.accept-accepted.new.self c.answer_kept.new.self inside _ _ key c.accept-accepted.ensures.worker (looked_there c.accept-accepted.new.self c.answer_kept.new.self key c.answer_kept.ensures.worker c.in-Ok-None.ensures.looked) c.self.view_is in
    let moment = c.accept-accepted.result.moment in
    let last : c.self.inside.last ≡ moment = ap (λ (w : WorkerState g.row.St.Denot). w.progress.last) is in
    let none = subst (λ (w : WorkerState g.row.St.Denot). found_for key w.progress.last w.kept ≡ None) c.accept-accepted.ensures.worker (subst (IsAnsweredBy g.St.Store.seat g.St.Store.marked key c.args.request.now c.args.form c.accept-accepted.new.self c.answer_kept.new.self) c.in-Ok-None.field-0-is c.in-Ok-None.ensures.found) in
    let kept =
    c.in-Ok.ensures.kept
    ∙ ap (λ m. kept_now key outcome.front m outcome.lines c.self.inside.cache) last
    ∙ ap (kept_now key outcome.front moment outcome.lines) (ap (λ (w : WorkerState g.row.St.Denot). w.kept) is) in
    let tried : WorkerState g.row.St.Denot = record {
      store = c.try_all.new.store;
      caller = inside.caller;
      progress = inside.progress;
      kept = inside.kept;
      reply = bytes_of c.try_all.new.reply;
    } in
    subst (λ point. AnswersRequest c.args.form (standing g.St.Store.seat c.args.self.now (g.C.Clock.readings c.args.clock.now) (g.G.Gateway.answers c.args.gateway.now))
    (standing g.St.Store.seat new (g.C.Clock.readings c.now.new.self) (g.G.Gateway.answers c.try_all.new.gateway)) c.args.request.now point new.reply) (sym c.point-2.ensures)
    (answers_is g.St.Store.seat c.args.self.now inside new _ _ _ _ _ _ _ key is c.now.ensures c.accept-accepted.ensures.call c.accept-accepted.ensures.moment
    (ap (λ (w : WorkerState g.row.St.Denot). w.caller) worker) (ap (λ (w : WorkerState g.row.St.Denot). w.progress) worker)
    tried worker _ outcome refl refl c.accept-accepted.ensures.draw refl none kept c.in_ok-outcome.ensures.answer)
