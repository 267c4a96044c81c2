-- What a connection has met so far, as one message more is answered.
use Rattle.std.proofs.Common.{◌≡◌, ℕ, ◌+◌, ◌==◌, Bool, true, false, List, [], ◌∷◌, ◌++◌, length, length-append, append-nil, refl, sym, ap, ◌∙◌, arith, subst, map, Some, None}
use Rattle.std.specs.declared.option.Option.{Option}
use Rattle.std.specs.List.{concat}
use Rattle.std.specs.Io.KnownBytes.{Appends}
use Rattle.std.proofs.lemmas.List.{map-append, length-map}
use Rattle.std.proofs.lemmas.List.Elements.{All-nil, All-push}
use Rattle.std.proofs.lemmas.List.Folds.{concat-append}
use Rattle.shop_edges.specs.Streams.{AppendsFront}
use Rattle.shop_edges.proofs.cited.Known.{Appends-nothing, Appends-more, Consumes-nothing, Consumes-more}
use Rattle.shop_message.specs.declared.messages.Message.{Message}
use Rattle.shop_message.specs.Nexts.{GivesMessage}
use Rattle.shop_message.proofs.cited.Beginnings.{HaveCome-none, HaveCome-message}
use Rattle.shop_model.specs.declared.refusal.Refusal.{Refusal}
use Rattle.shop_model.specs.asked.Refusals.{status_of}
use Rattle.shop_engine.specs.declared.report.Ended.TheVariants as ended
use Rattle.shop_engine.specs.declared.report.Point.{Point}
use Rattle.shop_engine.specs.Connections.{Output, Turn, Adds, IsMade, Made, MakesRefusal, MessageAs, RefusalAs, Came, SoFar}
use Rattle.shop_engine.specs.Served.{Streams}
use Rattle.shop_engine.specs.Steps.{ANSWERS, Step, IsStep, AreSteps}
use Rattle.shop_engine.specs.Workers.{Standing}
pub use Rattle.shop_engine.proofs.ConnectionLemmas.{still_standing}

abbrev pub messages_of : List Step → List Message
messages_of steps = map (λ s. s.message) steps

abbrev pub points_of : List Step → List Point
points_of steps = map (λ s. s.point) steps

abbrev pub replies_of : List Step → List (List ℕ)
replies_of steps = map (λ s. s.reply) steps

-- nothing was met yet
pub nothing_met : (old : Standing) (streams : Streams) (unread : List ℕ) (points : List Point) → unread ≡ [] → points ≡ [] → SoFar old old streams streams unread points
nothing_met old streams unread points empty first = record {
  steps = [];
  came = record { given = []; taken = Consumes-nothing streams.left; come = rw empty (HaveCome-none []) };
  stay = All-nil (λ (m : Message). m.close ≡ false);
  run = refl;
  all = first;
  written = Appends-nothing streams.held;
}

-- as many messages were answered as there are points
pub counted : (steps : List Step) (points : List Point) → points ≡ points_of steps → length points ≡ length (messages_of steps)
counted steps points are = ap length are ∙ length-map steps (λ (s : Step). s.point) ∙ sym (length-map steps (λ (s : Step). s.message))

-- one reply alone
pub whole-one : (held held' : Option (List ℕ)) (reply : List ℕ) → Appends held held' reply → Appends held held' (concat (reply ∷ []))
whole-one held held' reply written = rw (append-nil reply) written

-- one message more

Steps-one : (answers : ℕ) (from now next : Standing) (steps : List Step) (step : Step) → AreSteps answers from steps now → IsStep ((answers + length steps + 1) == ANSWERS) now step next
    → AreSteps answers from (steps ++ step ∷ []) next
Steps-one answers from now next [] step same is =
    let one : IsStep ((answers + 1) == ANSWERS) now step next = subst (λ n. IsStep ((n + 1) == ANSWERS) now step next) (omega arith) is in
    (next, subst (λ (s : Standing). IsStep ((answers + 1) == ANSWERS) s step next) same one, refl)
Steps-one answers from now next (first ∷ steps) step (mid, begins, are) is =
    (mid, begins, Steps-one (answers + 1) mid now next steps step are (subst (λ n. IsStep ((n + 1) == ANSWERS) now step next) (omega arith) is))

-- what was met so far, and one step more, which answers this message
pub record OneMore (old next : Standing) (streams : Streams) (rest : List ℕ) (points : List Point) (left : Option (List ℕ)) (steps : List Step) (message : Message) (step : Step) : Type 0 where
  pub messages : messages_of (steps ++ step ∷ []) ≡ messages_of steps ++ message ∷ []
  pub came : Came streams.left left rest (messages_of (steps ++ step ∷ []))
  pub run : AreSteps 0 old (steps ++ step ∷ []) next
  pub all : points ≡ points_of (steps ++ step ∷ [])
  pub replies : replies_of (steps ++ step ∷ []) ≡ replies_of steps ++ step.reply ∷ []

pub one_more : (old now next : Standing) (streams streams' : Streams) (unread rest : List ℕ) (points points' : List Point) (message : Message) (last : Bool) (left' : Option (List ℕ)) (step : Step)
    → (so_far : SoFar old now streams streams' unread points) → last ≡ ((length points + 1) == ANSWERS) → GivesMessage streams'.left left' unread rest message
    → Adds (record { message = message; last = last }) now next points points' step → OneMore old next streams rest points' left' so_far.steps message step
one_more old now next streams streams' unread rest points points' message last left' step so_far last_is gives adds =
    let steps = so_far.steps in
    let messages : messages_of (steps ++ step ∷ []) ≡ messages_of steps ++ message ∷ []
    = map-append (λ (s : Step). s.message) steps (step ∷ []) ∙ ap (λ (m : Message). messages_of steps ++ m ∷ []) adds.message in
    let count : length points ≡ 0 + length steps = ap length so_far.all ∙ length-map steps (λ (s : Step). s.point) ∙ omega arith in
    record {
      messages = messages;
      came = rw messages (record {
        given = so_far.came.given ++ gives.piece;
        taken = Consumes-more streams.left streams'.left left' so_far.came.given gives.piece so_far.came.taken gives.taken;
        come = HaveCome-message streams'.left left' so_far.came.given unread rest (messages_of steps) message so_far.came.come gives;
      });
      run = Steps-one 0 old now next steps step so_far.run (subst (λ b. IsStep b now step next) (last_is ∙ ap (λ n. (n + 1) == ANSWERS) count) adds.is);
      all = adds.added ∙ ap (λ (l : List Point). l ++ step.point ∷ []) so_far.all ∙ sym (map-append (λ (s : Step). s.point) steps (step ∷ []));
      replies = map-append (λ (s : Step). s.reply) steps (step ∷ []);
    }

-- a message behind which the connection goes on
pub SoFar-message : (old now next : Standing) (streams streams' : Streams) (unread rest : List ℕ) (points points' : List Point) (message : Message) (last : Bool) (left' held' : Option (List ℕ))
    → SoFar old now streams streams' unread points → last ≡ ((length points + 1) == ANSWERS) → GivesMessage streams'.left left' unread rest message
    → MessageAs (record { message = message; last = last }) now next (record { points = points; held = streams'.held }) (record { points = points'; held = held' }) None
    → SoFar old next streams (record { left = left'; held = held' }) rest points'
SoFar-message old now next streams streams' unread rest points points' message last left' held' so_far last_is gives (step, adds, written, stays) =
    let more = one_more old now next streams streams' unread rest points points' message last left' step so_far last_is gives adds in
    record {
      steps = so_far.steps ++ step ∷ [];
      came = more.came;
      stay = rw more.messages (All-push (λ (m : Message). m.close ≡ false) (messages_of so_far.steps) message so_far.stay stays);
      run = more.run;
      all = more.all;
      written =
          rw (more.replies, concat-append (replies_of so_far.steps) (step.reply ∷ []))
          (Appends-more streams.held streams'.held held' (concat (replies_of so_far.steps)) (concat (step.reply ∷ [])) so_far.written (whole-one streams'.held held' step.reply written));
    }

pub one_point : (turn : Turn) (from to : Standing) (old new : Output) → MessageAs turn from to old new None → length new.points ≡ length old.points + 1
one_point turn from to old new (step, adds, written, stays) = ap length adds.added ∙ length-append old.points (step.point ∷ [])

-- an answer that was made, as it is written: whole, or a front of it where the sink fails

module _ (turn : Turn) (from to : Standing) (points : List Point) (made : Made) (held held' : Option (List ℕ)) (makes : IsMade turn from to points made) where
  pub MessageAs-on : Appends held held' made.reply → turn.message.close ≡ false → MessageAs turn from to (record { points = points; held = held }) (record { points = made.points; held = held' }) None
  MessageAs-on whole stays = (makes.step, makes.adds, subst (Appends held held') (sym makes.reply) whole, stays)

  pub MessageAs-asked : Appends held held' made.reply → turn.message.close ≡ true → MessageAs turn from to (record { points = points; held = held }) (record { points = made.points; held = held' }) (Some ended.Asked)
  MessageAs-asked whole asks = (makes.step, makes.adds, subst (Appends held held') (sym makes.reply) whole, asks)

  pub MessageAs-cut : AppendsFront held held' made.reply → MessageAs turn from to (record { points = points; held = held }) (record { points = made.points; held = held' }) (Some ended.WriteFault)
  MessageAs-cut front = (makes.step, makes.adds, subst (AppendsFront held held') (sym makes.reply) front)

-- and so the page of a refusal

module _ (refusal : Refusal) (points : List Point) (made : Made) (held held' : Option (List ℕ)) (makes : MakesRefusal refusal points made) where
  pub RefusalAs-told : Appends held held' made.reply → RefusalAs refusal (record { points = points; held = held }) (record { points = made.points; held = held' }) (ended.Refused (status_of refusal))
  RefusalAs-told whole = (refl, makes.added, subst (Appends held held') makes.reply whole)

  pub RefusalAs-cut : AppendsFront held held' made.reply → RefusalAs refusal (record { points = points; held = held }) (record { points = made.points; held = held' }) ended.WriteFault
  RefusalAs-cut front = (makes.added, subst (AppendsFront held held') makes.reply front)
