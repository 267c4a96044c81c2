-- What a connection comes to at its end.
use Rattle.std.proofs.Common.{◌≡◌, ℕ, ◌+◌, ◌<◌, ◌==◌, ◌⊎◌, inl, inr, ⊎_elim, Bool, false, List, [], ◌∷◌, ◌++◌, length, length-append, append_assoc, append-nil, refl, sym, ap, ◌∙◌, arith, take, Some, None}
use Rattle.std.specs.declared.option.Option.{Option}
use Rattle.std.specs.List.{concat}
use Rattle.std.specs.Prelude.{All, option_map, option_to_list}
use Rattle.std.specs.Io.KnownBytes.{Appends, Consumes}
use Rattle.std.proofs.lemmas.List.Elements.{All-pop}
use Rattle.std.proofs.lemmas.List.Folds.{concat-append}
use Rattle.shop_edges.specs.Streams.{AppendsFront}
use Rattle.shop_edges.proofs.cited.Known.{Appends-nothing, Appends-more, Consumes-more}
use Rattle.shop_message.specs.declared.messages.Message.{Message}
use Rattle.shop_message.specs.Messages.{Between, Inside, Refusing}
use Rattle.shop_message.specs.Nexts.{GivesMessage, Stops, Breaks}
use Rattle.shop_message.proofs.cited.Beginnings.{HaveCome-begin, HaveCome-message}
use Rattle.shop_model.specs.declared.refusal.Refusal.{Refusal as Refused}
use Rattle.shop_engine.specs.declared.report.Ended.{Ended}
use Rattle.shop_engine.specs.declared.report.Ended.TheVariants as ended
use Rattle.shop_engine.specs.declared.report.Point.{Point}
use Rattle.shop_engine.specs.Connections.{Output, Adds, MessageAs, RefusalAs, SoFar}
use Rattle.shop_engine.specs.Served.{Streams, Served, IsAbandoned, Wrote, EndsAs, told_page}
use Rattle.shop_engine.specs.Steps.{ANSWERS, Step, plain_point}
use Rattle.shop_engine.specs.Workers.{Standing}
use Rattle.shop_engine.proofs.ConnectionLemmas.{stays_of, told_of}
use Rattle.shop_engine.proofs.cited.SoFar.{messages_of, points_of, replies_of, counted, whole-one, one_more}

-- what was written at the end

Wrote-more : (end : Ended) (a b c : Option (List ℕ)) (replies more : List (List ℕ)) → Appends a b (concat replies) → Wrote end b c more → Wrote end a c (replies ++ more)
Wrote-more ended.WriteFault a b c replies more written (whole, last, count, are, within, front) = (
  replies ++ whole,
  last,
  count,
  ap (λ (l : List (List ℕ)). replies ++ l) are ∙ sym (append_assoc replies whole (last ∷ [])),
  within,
  rw (concat-append replies whole, append_assoc (concat replies) (concat whole) (take count last))
      (Appends-more a b c (concat replies) (concat whole ++ take count last) written front),
)
Wrote-more _ a b c replies more written rest = rw (concat-append replies more) (Appends-more a b c (concat replies) (concat more) written rest)

cut-one : (held held' : Option (List ℕ)) (reply : List ℕ) → AppendsFront held held' reply → Wrote ended.WriteFault held held' (reply ∷ [])
cut-one held held' reply front = ([], reply, front.count, refl, front.within, front.written)

-- a list with an element has a last one
last_one : (first : Message) (messages : List Message) → (before : List Message) × (last : Message) × (first ∷ messages ≡ before ++ last ∷ [])
last_one first [] = ([], first, refl)
last_one first (second ∷ messages) =
    let more = last_one second messages in (first ∷ more.0, more.1, ap (λ (l : List Message). first ∷ l) more.2)

last_message : (messages : List Message) → length messages ≡ 1000 → (before : List Message) × (last : Message) × (messages ≡ before ++ last ∷ [])
last_message [] all = absurd (omega (arith, all))
last_message (first ∷ messages) all = last_one first messages

-- a connection that ends behind its last answer
module _ (old now : Standing) (streams streams' : Streams) (unread : List ℕ) (points : List Point) (so_far : SoFar old now streams streams' unread points) where
  served : (new : Standing) (end : Ended) (piece : List ℕ) (before : List Message) (last : Option Message) (told : Option Refused) (points' : List Point) (left' held' : Option (List ℕ))
      → messages_of so_far.steps ≡ before ++ option_to_list last → All (λ m. m.close ≡ false) before → length before < ANSWERS
      → Consumes streams'.left left' piece → EndsAs end before last told (unread ++ piece) left' → (new ≡ now) ⊎ ((end ≡ ended.Memory) × IsAbandoned (so_far.came.given ++ piece) (messages_of so_far.steps) now new)
      → points' ≡ points ++ option_to_list (option_map (λ _. plain_point) told) → Wrote end streams'.held held' (option_to_list (option_map told_page told))
      → Served old new streams (record { left = left'; held = held' }) end points'
  served new end piece before last told points' left' held' are stay few taken ends after added written = record {
    given = so_far.came.given ++ piece;
    rest = unread ++ piece;
    steps = so_far.steps;
    before = before;
    last = last;
    told = told;
    mid = now;
    taken = Consumes-more streams.left streams'.left left' so_far.came.given piece so_far.came.taken taken;
    begin = so_far.came.come piece;
    messages = are;
    stay = stay;
    few = few;
    ends = ends;
    run = so_far.run;
    stays = stays_of 0 old now so_far.steps so_far.run;
    asked = told_of 0 old now so_far.steps so_far.run;
    after = after;
    all = added ∙ ap (λ (l : List Point). l ++ option_to_list (option_map (λ _. plain_point) told)) so_far.all;
    written = Wrote-more end streams.held streams'.held held' (replies_of so_far.steps) (option_to_list (option_map told_page told)) so_far.written written;
  }

  -- where one message more may be answered
  behind : (new : Standing) (end : Ended) (piece : List ℕ) (told : Option Refused) (points' : List Point) (left' held' : Option (List ℕ)) → length points < 1000
      → Consumes streams'.left left' piece → EndsAs end (messages_of so_far.steps) None told (unread ++ piece) left' → (new ≡ now) ⊎ ((end ≡ ended.Memory) × IsAbandoned (so_far.came.given ++ piece) (messages_of so_far.steps) now new)
      → points' ≡ points ++ option_to_list (option_map (λ _. plain_point) told) → Wrote end streams'.held held' (option_to_list (option_map told_page told))
      → Served old new streams (record { left = left'; held = held' }) end points'
  behind new end piece told points' left' held' few =
      served new end piece (messages_of so_far.steps) None told points' left' held' (sym (append-nil (messages_of so_far.steps))) so_far.stay
      (omega (arith, few, counted so_far.steps points so_far.all))

  -- where the messages stopped, or the source failed

  pub Served-closed : (after : List ℕ) (left' : Option (List ℕ)) → length points < 1000 → Stops streams'.left left' unread after Between
      → Served old now streams (record { left = left'; held = streams'.held }) ended.Closed points
  Served-closed after left' few stops =
      behind now ended.Closed stops.gathers.piece None points left' streams'.held few stops.gathers.taken (stops.none, stops.ended) (inl refl) (sym (append-nil points)) (Appends-nothing streams'.held)

  pub Served-inside : (after : List ℕ) (left' : Option (List ℕ)) → length points < 1000 → Stops streams'.left left' unread after Inside
      → Served old now streams (record { left = left'; held = streams'.held }) ended.Cut points
  Served-inside after left' few stops =
      behind now ended.Cut stops.gathers.piece None points left' streams'.held few stops.gathers.taken (stops.none, stops.ended) (inl refl) (sym (append-nil points)) (Appends-nothing streams'.held)

  pub Served-broken : (after : List ℕ) (left' : Option (List ℕ)) → length points < 1000 → Breaks streams'.left left' unread after
      → Served old now streams (record { left = left'; held = streams'.held }) ended.ReadFault points
  Served-broken after left' few breaks =
      behind now ended.ReadFault breaks.gathers.piece None points left' streams'.held few breaks.gathers.taken breaks.none (inl refl) (sym (append-nil points)) (Appends-nothing streams'.held)

  -- without an answer, for want of memory
  pub Served-memory : (new : Standing) (left' : Option (List ℕ)) (piece : List ℕ) → length points < 1000 → Consumes streams'.left left' piece
      → (new ≡ now) ⊎ IsAbandoned (so_far.came.given ++ piece) (messages_of so_far.steps) now new
      → Served old new streams (record { left = left'; held = streams'.held }) ended.Memory points
  Served-memory new left' piece few taken after =
      behind new ended.Memory piece None points left' streams'.held few taken tt (⊎_elim (λ (same : new ≡ now). inl same) (λ (gave : IsAbandoned (so_far.came.given ++ piece) (messages_of so_far.steps) now new). inr (refl, gave)) after)
      (sym (append-nil points)) (Appends-nothing streams'.held)

  -- all answers are spent, whatever came behind the last of their messages
  pub Served-spent : (left' : Option (List ℕ)) (piece : List ℕ) → length points ≡ 1000 → Consumes streams'.left left' piece
      → Served old now streams (record { left = left'; held = streams'.held }) ended.Spent points
  Served-spent left' piece all taken =
      let split = last_message (messages_of so_far.steps) (sym (counted so_far.steps points so_far.all) ∙ all) in
      let number : length split.0 + 1 ≡ 1000 = sym (ap length split.2 ∙ length-append split.0 (split.1 ∷ [])) ∙ sym (counted so_far.steps points so_far.all) ∙ all in
      let stay = All-pop (λ (m : Message). m.close ≡ false) (messages_of so_far.steps) split.0 (Some split.1) split.2 so_far.stay in
      served now ended.Spent piece split.0 (Some split.1) None points left' streams'.held split.2 stay.0 (omega (arith, number))
      taken (stay.1, number) (inl refl) (sym (append-nil points)) (Appends-nothing streams'.held)

  -- at a refusal, which leaves the worker where it stands
  pub Served-refusal : (end : Ended) (new : Standing) (after : List ℕ) (points' : List Point) (left' held' : Option (List ℕ)) (refusal : Refused) → length points < 1000
      → Stops streams'.left left' unread after (Refusing refusal) → RefusalAs refusal (record { points = points; held = streams'.held }) (record { points = points'; held = held' }) end → new ≡ now
      → Served old new streams (record { left = left'; held = held' }) end points'
  Served-refusal (ended.Refused status) new after points' left' held' refusal few stops (is, added, written) same =
      behind new (ended.Refused status) stops.gathers.piece (Some refusal) points' left' held' few stops.gathers.taken (stops.none, is) (inl same) added (whole-one streams'.held held' _ written)
  Served-refusal ended.WriteFault new after points' left' held' refusal few stops (added, front) same =
      behind new ended.WriteFault stops.gathers.piece (Some refusal) points' left' held' few stops.gathers.taken stops.none (inl same) added (cut-one streams'.held held' _ front)
  Served-refusal ended.Memory new after points' left' held' refusal few stops none same =
      rw (ap (λ (o : Output). o.points) none, ap (λ (o : Output). o.held) none)
      (Served-memory new left' stops.gathers.piece few stops.gathers.taken (inl same))
  Served-refusal _ new after points' left' held' refusal few stops is same = absurd is

-- behind a message that was answered
Served-step : (end : Ended) (old now next : Standing) (streams streams' : Streams) (unread rest : List ℕ) (points points' : List Point) (message : Message) (last : Bool) (left' held' : Option (List ℕ)) (step : Step)
    → (so_far : SoFar old now streams streams' unread points) → length points < 1000 → last ≡ ((length points + 1) == ANSWERS) → GivesMessage streams'.left left' unread rest message
    → Adds (record { message = message; last = last }) now next points points' step → EndsAs end (messages_of so_far.steps) (Some message) None rest left' → Wrote end streams'.held held' (step.reply ∷ [])
    → Served old next streams (record { left = left'; held = held' }) end points'
Served-step end old now next streams streams' unread rest points points' message last left' held' step so_far few last_is gives adds ends written =
    let more = one_more old now next streams streams' unread rest points points' message last left' step so_far last_is gives adds in
    let steps = so_far.steps ++ step ∷ [] in
    record {
      given = more.came.given;
      rest = rest;
      steps = steps;
      before = messages_of so_far.steps;
      last = Some message;
      told = None;
      mid = next;
      taken = more.came.taken;
      begin = HaveCome-begin more.came.given rest (messages_of steps) more.came.come;
      messages = more.messages;
      stay = so_far.stay;
      few = omega (arith, few, counted so_far.steps points so_far.all);
      ends = ends;
      run = more.run;
      stays = stays_of 0 old next steps more.run;
      asked = told_of 0 old next steps more.run;
      after = inl refl;
      all = more.all ∙ sym (append-nil (points_of steps));
      written =
          rw (append-nil (replies_of steps), more.replies)
          (Wrote-more end streams.held streams'.held held' (replies_of so_far.steps) (step.reply ∷ []) so_far.written written);
    }

pub Served-message : (end : Ended) (old now next : Standing) (streams streams' : Streams) (unread rest : List ℕ) (points points' : List Point) (message : Message) (last : Bool) (left' held' : Option (List ℕ))
    → SoFar old now streams streams' unread points → length points < 1000 → last ≡ ((length points + 1) == ANSWERS) → GivesMessage streams'.left left' unread rest message
    → MessageAs (record { message = message; last = last }) now next (record { points = points; held = streams'.held }) (record { points = points'; held = held' }) (Some end)
    → Served old next streams (record { left = left'; held = held' }) end points'
Served-message ended.Asked old now next streams streams' unread rest points points' message last left' held' so_far few last_is gives (step, adds, written, asks) =
    Served-step ended.Asked old now next streams streams' unread rest points points' message last left' held' step so_far few last_is gives adds asks (whole-one streams'.held held' step.reply written)
Served-message ended.WriteFault old now next streams streams' unread rest points points' message last left' held' so_far few last_is gives (step, adds, front) =
    Served-step ended.WriteFault old now next streams streams' unread rest points points' message last left' held' step so_far few last_is gives adds tt (cut-one streams'.held held' step.reply front)
Served-message ended.Memory old now next streams streams' unread rest points points' message last left' held' so_far few last_is gives (gives_up, same) =
    rw (ap (λ (o : Output). o.points) same, ap (λ (o : Output). o.held) same)
    (Served-memory old now streams streams' unread points so_far next left' gives.piece few gives.taken
    (inr (record {
      next = message;
      rest = rest;
      begin = HaveCome-begin (so_far.came.given ++ gives.piece) rest (messages_of so_far.steps ++ message ∷ [])
          (HaveCome-message streams'.left left' so_far.came.given unread rest (messages_of so_far.steps) message so_far.came.come gives);
      gave = gives_up;
    })))
Served-message _ old now next streams streams' unread rest points points' message last left' held' so_far few last_is gives is = absurd is
