-- How what came of a request makes a step.
use Rattle.std.proofs.Common.{◌≡◌, ℕ, ◌+◌, min, max, Bool, List, [], ◌∷◌, ◌++◌, Option, None, Some, IsSome, Ok, Err, inl, refl, sym, ◌∙◌, ap, subst, arith}
use Rattle.shop_edges.specs.Causes.{count_up}
use Rattle.shop_edges.specs.Clocks.{Tells}
use Rattle.shop_edges.specs.Gateways.{Answered}
use Rattle.shop_edges.specs.declared.gateway.Answer.{Answer}
use Rattle.shop_edges.proofs.cited.Answering.{answered_nothing}
use Rattle.shop_message.specs.declared.messages.Message.{Message}
use Rattle.shop_model.specs.declared.requests.Request.{Request}
use Rattle.shop_model.specs.lists.Catalogues.{Catalogue, opened}
use Rattle.shop_model.specs.rows.Limits.{stamp_limit}
use Rattle.shop_model.specs.asked.Refusals.{page_of}
use Rattle.shop_history.specs.declared.acts.Entry.{Entry}
use Rattle.shop_history.specs.Lawful.{IsLawful}
use Rattle.shop_history.proofs.cited.GoodTables.{sound_throughout}
use Rattle.shop_cache.specs.declared.keys.ListKey.{ListKey}
use Rattle.shop_cache.specs.Caches.{Entries}
use Rattle.shop_cache.specs.Keys.{key_asked}
use Rattle.shop_attempt.specs.Seats.{Seat, Follows, IsSeat}
use Rattle.shop_http.specs.declared.requests.Refusal.{Refusal}
use Rattle.shop_http.specs.Requests.{asked, told_by}
use Rattle.shop_pages.specs.declared.reply.Form.{Form}
use Rattle.shop_pages.specs.Replies.{reply}
use Rattle.shop_engine.specs.declared.report.Point.{Point}
use Rattle.shop_engine.specs.declared.report.PointKind.TheVariants as kind
use Rattle.shop_engine.specs.declared.tries.Job.{Job}
use Rattle.shop_engine.specs.declared.tries.Outcome.{Outcome}
use Rattle.shop_engine.specs.Connections.{Adds}
use Rattle.shop_engine.specs.Decided.{IsDecided, tries_alone}
use Rattle.shop_engine.specs.Keeping.{IsFoundList, found_for, kept_now}
use Rattle.shop_engine.specs.Lists.{IsFreshPoint, IsMarkedFresh, looked_for}
use Rattle.shop_engine.specs.Payments.{AreFor}
use Rattle.shop_engine.specs.Seats.{Stays}
use Rattle.shop_engine.specs.Steps.{Accepts, Answers, AnswersRequest, BeginsOn, GivesUp, IsAnswered, IsStepFor, KeepsAs, Step, form_of, draw_of, plain_point}
use Rattle.shop_engine.specs.Tries.{IsOutcome, IsGivenUp, point_of}
use Rattle.shop_engine.specs.Workers.{Caller, Progress, Standing, WorkerState, standing}
use Rattle.shop_engine.specs.Posts.{IsPosted}
use Rattle.shop_engine.proofs.KeptLemmas.{IsReadAlone, keeps_as, point_again, read_alone, shown_again}
use Rattle.shop_engine.proofs.Payments.{asked_none}
use Rattle.shop_engine.proofs.Seats.{stays_same}

-- the caller is still posted at the seat
pub still_posted : (old new : Seat) (index : Catalogue) (caller : Caller) → IsPosted old index caller → Follows old new → IsPosted new index caller
still_posted old new index caller was follows = record {
  valid = follows.valid was.valid;
  number = follows.caller ∙ was.number;
  named = was.named ∙ ap opened (sym follows.opening);
}

-- the log of a seat is legal, and the tables are sound throughout
pub lawful : (seat : Seat) → IsSeat seat → IsLawful seat.opening seat.seen
lawful seat valid =
    record { legal = valid.legal; sound = sound_throughout seat.opening (seat.limit + 1) valid.good seat.seen valid.legal (omega (arith, valid.short)) }

-- a worker accepted a request, and looked for the list that is asked for, if one is, before its store went on
module _ {St : Type 0} (seat_of : St → Seat) (old inside new : WorkerState St) (clock clock' : Option (List ℕ)) (told told' : Option (List Answer)) (reading moment call : ℕ) (key : Option ListKey)
    (accepted : inside ≡ record { store = old.store; caller = old.caller; progress = record { accepted = call; last = moment }; kept = looked_for key old.kept; reply = inside.reply })
    (tells : Tells clock clock' reading) (call_is : call ≡ count_up old.progress.accepted) (moment_is : moment ≡ max old.progress.last (min reading stamp_limit))
    (caller : new.caller ≡ inside.caller) (progress : new.progress ≡ inside.progress) where
  progress_is : new.progress ≡ record { accepted = call; last = moment }
  progress_is = progress ∙ ap (λ (w : WorkerState St). w.progress) accepted

  same_seat : seat_of inside.store ≡ seat_of old.store
  same_seat = ap (λ (w : WorkerState St). seat_of w.store) accepted

  call_now : new.progress.accepted ≡ call
  call_now = ap (λ (p : Progress). p.accepted) progress_is

  last_now : new.progress.last ≡ moment
  last_now = ap (λ (p : Progress). p.last) progress_is

  accepts : Accepts (standing seat_of old clock told) (standing seat_of new clock' told')
  accepts = record {
    reading = reading;
    told = tells;
    accepted = call_now ∙ call_is;
    last = last_now ∙ moment_is;
    caller = caller ∙ ap (λ (w : WorkerState St). w.caller) accepted;
  }

  -- where only its lists changed behind the tries
  settled : (tried : WorkerState St) → new ≡ record { store = tried.store; caller = tried.caller; progress = tried.progress; kept = new.kept; reply = tried.reply } → (job : Job) (outcome : Outcome)
      → IsOutcome (record { seat = seat_of inside.store; kept = None; told = told }) (record { seat = seat_of tried.store; kept = None; told = told' }) job tried.reply outcome
      → IsOutcome (record { seat = seat_of inside.store; kept = None; told = told }) (record { seat = seat_of new.store; kept = None; told = told' }) job new.reply outcome
  settled tried same job outcome answer =
      subst (λ (w : WorkerState St). IsOutcome (record { seat = seat_of inside.store; kept = None; told = told }) (record { seat = seat_of w.store; kept = None; told = told' }) job w.reply outcome) (sym same) answer

  pub answers_is : (tried : WorkerState St) → new ≡ record { store = tried.store; caller = tried.caller; progress = tried.progress; kept = new.kept; reply = tried.reply } → (job : Job) (outcome : Outcome) → job.ask.moment ≡ moment → job.call.number ≡ call → job.ask.draw ≡ draw_of old.caller call → key ≡ key_asked job.request.now
      → found_for key moment old.kept ≡ None → new.kept ≡ kept_now key outcome.front moment outcome.lines (looked_for key old.kept)
      → IsOutcome (record { seat = seat_of inside.store; kept = None; told = told }) (record { seat = seat_of tried.store; kept = None; told = told' }) job tried.reply outcome
      → AnswersRequest job.form (standing seat_of old clock told) (standing seat_of new clock' told') job.request.now (point_of job outcome) new.reply
  answers_is tried same job outcome moment_of call_of draw_is asked none kept given =
      let answer = settled tried same job outcome given in
      let from = standing seat_of old clock told in
      let to = standing seat_of new clock' told' in (
        answer.is.made,
        answer.answers,
        λ message. record {
          accepts = accepts;
          call = call_of ∙ sym call_now;
          moment = moment_of ∙ sym last_now;
          draw = draw_is ∙ ap (draw_of old.caller) (sym call_now);
          told = answer.told;
          page = answer.is.page;
          decided =
              subst (λ (s : Seat). IsDecided s (seat_of new.store) job.request.now (record { point = point_of job outcome; made = answer.is.made; answers = answer.answers }) answer.is.page)
              same_seat answer.is.decided;
          lists =
              subst (λ (o : Option ListKey). KeepsAs o from to job.request.now (point_of job outcome) answer.is.page outcome.kind) asked
              (keeps_as from to job.request.now (point_of job outcome) answer.is.page outcome.kind outcome.lines key (sym asked) answer.is.lines
              (subst (λ n. found_for key n old.kept ≡ None) (sym moment_of) none)
              (subst (λ n. new.kept ≡ kept_now key outcome.front n outcome.lines (looked_for key old.kept)) (sym moment_of) kept));
          reply = answer.is.bytes_are;
        },
      )

  -- what the gateway was asked in a call is of the one that was accepted
  begun : (request : Request) (answers : List Answer) (number : ℕ) → number ≡ call → AreFor request (record { caller = (seat_of new.store).caller; number = number }) answers
      → BeginsOn (Ok request) (standing seat_of old clock told) (standing seat_of new clock' told') answers
  begun request answers number number_is are =
      inl (accepts, subst (λ n. AreFor request (record { caller = (seat_of new.store).caller; number = n }) answers) (number_is ∙ sym call_now) are)

  pub gives_up : (job : Job) (after : Option ListKey) → job.ask.moment ≡ moment → job.call.number ≡ call → new.kept ≡ looked_for after old.kept
      → IsGivenUp (record { seat = seat_of inside.store; kept = None; told = told }) (record { seat = seat_of new.store; kept = None; told = told' }) job
      → GivesUp (Ok job.request.now) (standing seat_of old clock told) (standing seat_of new clock' told')
  gives_up job after moment_of call_of kept gave = record {
    answers = gave.answers;
    begins = begun job.request.now gave.answers job.call.number call_of gave.asks;
    settles = gave.stays.made;
    few = gave.stays.few;
    stays =
        subst (λ (s : Seat). Stays s (seat_of new.store) [] gave.stays.made new.progress.last) same_seat
        (subst (λ m. Stays (seat_of inside.store) (seat_of new.store) [] gave.stays.made m) (moment_of ∙ sym last_now) gave.stays.stays);
    few_answers = gave.few;
    told = gave.told;
    key = after;
    kept = kept;
  }

  -- behind a list that was read, and found no room
  pub gives_up_late : (tried : WorkerState St) → new ≡ record { store = tried.store; caller = tried.caller; progress = tried.progress; kept = new.kept; reply = tried.reply } → (job : Job) (outcome : Outcome) (after : Option ListKey) → job.ask.moment ≡ moment → job.call.number ≡ call → new.kept ≡ looked_for after old.kept → IsSome outcome.lines
      → IsOutcome (record { seat = seat_of inside.store; kept = None; told = told }) (record { seat = seat_of tried.store; kept = None; told = told' }) job tried.reply outcome
      → GivesUp (Ok job.request.now) (standing seat_of old clock told) (standing seat_of new clock' told')
  gives_up_late tried same job outcome after moment_of call_of kept some given =
      let answer = settled tried same job outcome given in
      let decided = answer.is.decided in
      let alone : IsReadAlone job.request.now (record { point = point_of job outcome; made = answer.is.made; answers = answer.answers }) outcome.kind
      = read_alone (seat_of inside.store) (seat_of new.store) job.request.now _ _ outcome.kind outcome.lines answer.is.lines decided.cause decided.asks some in
      let stays : Stays (seat_of inside.store) (seat_of new.store) [] outcome.tries job.ask.moment
      = subst (λ (l : List Entry). Stays (seat_of inside.store) (seat_of new.store) l outcome.tries job.ask.moment) alone.none_made decided.stays in
      record {
        answers = [];
        begins = begun job.request.now [] job.call.number call_of (asked_none job.request.now _);
        settles = outcome.tries;
        few = omega (arith, decided.few, ap tries_alone alone.kind_is);
        stays =
            subst (λ (s : Seat). Stays s (seat_of new.store) [] outcome.tries new.progress.last) same_seat
            (subst (λ m. Stays (seat_of inside.store) (seat_of new.store) [] outcome.tries m) (moment_of ∙ sym last_now) stays);
        few_answers = omega arith;
        told = subst (Answered told told') alone.none_asked_for answer.told;
        key = after;
        kept = kept;
      }

  -- before anything was asked of the store
  pub gives_up_early : (request : Request) → new.store ≡ inside.store → told' ≡ told → (after : Option ListKey) → new.kept ≡ looked_for after old.kept
      → GivesUp (Ok request) (standing seat_of old clock told) (standing seat_of new clock' told')
  gives_up_early request stands untold after kept = record {
    answers = [];
    begins = begun request [] call refl (asked_none request _);
    settles = 0;
    few = omega arith;
    stays = subst (λ (s : Seat). Stays (seat_of old.store) s [] 0 new.progress.last) (sym (ap seat_of stands ∙ same_seat)) (stays_same (seat_of old.store) new.progress.last);
    few_answers = omega arith;
    told = subst (λ t. Answered told t []) (sym untold) (answered_nothing told);
    key = after;
    kept = kept;
  }

  -- by the list that is kept
  pub shows_kept : (marked : ℕ → ℕ → Type 0) (request : Request) (form : Form) (front : ℕ) (point : Point) → new.store ≡ inside.store → told' ≡ told → new.kept ≡ looked_for key old.kept → key ≡ key_asked request
      → IsFoundList (seat_of old.store) marked request form front moment new.reply old.kept → point ≡ point_again front moment call (draw_of old.caller call)
      → AnswersRequest form (standing seat_of old clock told) (standing seat_of new clock' told') request point new.reply × IsFreshPoint marked (seat_of new.store).seen point
  shows_kept marked request form front point stands untold kept asked is point_is =
      let seat = seat_of old.store in
      let from = standing seat_of old clock told in
      let to = standing seat_of new clock' told' in
      let same : seat_of new.store ≡ seat = ap seat_of stands ∙ same_seat in
      let draw = draw_of old.caller call in
      let again : Point = point_again front moment call draw in
      let key_is : key ≡ Some is.key = asked ∙ is.asked in
      subst (λ (p : Point). AnswersRequest form from to request p new.reply × IsFreshPoint marked (seat_of new.store).seen p) (sym point_is) (
        (
          [],
          [],
          λ message. record {
            accepts = accepts;
            call = sym call_now;
            moment = sym last_now;
            draw = ap (draw_of old.caller) (sym call_now);
            told = subst (λ t. Answered told t []) (sym untold) (answered_nothing told);
            page = is.page;
            decided =
                subst (λ (s : Seat). IsDecided seat s request (record { point = again; made = []; answers = [] }) is.page) (sym same)
                (shown_again seat marked request form front moment call draw new.reply old.kept is);
            lists =
                subst (λ (o : Option ListKey). KeepsAs o from to request again is.page kind.List) (sym is.asked)
                (record {
                  kept = is.kept;
                  is_found = is.found_is;
                  front = is.front_is;
                  shows = is.page_is;
                  is_looked = kept ∙ ap (λ (o : Option ListKey). looked_for o old.kept) key_is;
                });
            reply = is.bytes_are;
          },
        ),
        subst (λ (s : Seat). IsMarkedFresh marked s.seen front moment) (sym same) is.marked_is,
      )

-- which lists are kept after a look, by itself
pub looked_there : {St : Type 0} (accepted looked : WorkerState St) (key : Option ListKey)
    → looked ≡ record { store = accepted.store; caller = accepted.caller; progress = accepted.progress; kept = looked.kept; reply = looked.reply } → looked.kept ≡ looked_for key accepted.kept
    → looked ≡ record { store = accepted.store; caller = accepted.caller; progress = accepted.progress; kept = looked_for key accepted.kept; reply = looked.reply }
looked_there {St} accepted looked key same kept =
    same ∙ ap (λ (k : Entries). record { store = accepted.store; caller = accepted.caller; progress = accepted.progress; kept = k; reply = looked.reply }) kept

-- after a request was accepted, and its list looked for
pub looked_worker : {St : Type 0} (old accepted looked inside : WorkerState St) (moment call : ℕ) (key : Option ListKey)
    → accepted ≡ record { store = old.store; caller = old.caller; progress = record { accepted = call; last = moment }; kept = old.kept; reply = old.reply }
    → looked ≡ record { store = accepted.store; caller = accepted.caller; progress = accepted.progress; kept = looked_for key accepted.kept; reply = looked.reply } → inside ≡ looked
    → inside ≡ record { store = old.store; caller = old.caller; progress = record { accepted = call; last = moment }; kept = looked_for key old.kept; reply = inside.reply }
looked_worker {St} old accepted looked inside moment call key first then same =
    subst (λ (w : WorkerState St). w ≡ record { store = old.store; caller = old.caller; progress = record { accepted = call; last = moment }; kept = looked_for key old.kept; reply = w.reply }) (sym same)
    (then ∙ ap (λ (w : WorkerState St). record { store = w.store; caller = w.caller; progress = w.progress; kept = looked_for key w.kept; reply = looked.reply }) first)

-- what was asked for is answered in the form of its message
pub answers_message : (last : Bool) (from to : Standing) (message : Message) (request : Request) (form : Form) (point : Point) (reply : List ℕ)
    → asked message ≡ Ok request → form ≡ form_of message last → AnswersRequest form from to request point reply → Answers last from to message point reply
answers_message last from to message request form point reply asks form_is (made, answers, is) =
    let step : Step = record { message = message; point = point; made = made; answers = answers; reply = reply } in (
      made,
      answers,
      subst (IsStepFor (form_of message last) from step to) (sym asks) (subst (λ f. IsAnswered f from step to request) form_is (is message)),
    )

-- a refusal is told in the form of its message
pub answers_plain : (last : Bool) (from to : Standing) (message : Message) (refusal : Refusal) (form : Form) (point : Point) (bytes : List ℕ)
    → asked message ≡ Err refusal → form ≡ form_of message last → to ≡ from → point ≡ plain_point → bytes ≡ reply (page_of (told_by refusal)) form → Answers last from to message point bytes
answers_plain last from to message refusal form point bytes asks form_is stands point_is bytes_are =
    let step : Step = record { message = message; point = point; made = []; answers = []; reply = bytes } in (
      [],
      [],
      subst (IsStepFor (form_of message last) from step to) (sym asks)
          (record { stands = stands; point = point_is; made = refl; answers = refl; reply = bytes_are ∙ ap (reply (page_of (told_by refusal))) form_is }),
    )

-- and its step adds the point
pub adds_point : (last : Bool) (from to : Standing) (message : Message) (point : Point) (reply : List ℕ) (points points' : List Point)
    → (is : Answers last from to message point reply) → points' ≡ points ++ point ∷ []
    → Adds (record { message = message; last = last }) from to points points' (record { message = message; point = point; made = is.0; answers = is.1; reply = reply })
adds_point last from to message point reply points points' is added = record { message = refl; is = is.2; added = added }
