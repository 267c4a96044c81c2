-- How what a connection has met goes on from poll to poll.
use Rattle.std.proofs.Common.{◌≡◌, ℕ, ◌<◌, ◌≤◌, Bool, true, false, List, [], ◌++◌, take, drop, length, append-nil, refl, ap, ◌∙◌, inl, subst, Some}
use Rattle.std.specs.declared.option.Option.{Option}
use Rattle.std.specs.Io.KnownBytes.{Appends, Consumes}
use Rattle.shop_edges.proofs.cited.Known.{Appends-nothing, Appends-more, Consumes-nothing, Consumes-more}
use Rattle.shop_message.specs.Gatherings.{Gathering}
use Rattle.shop_message.specs.declared.messages.Message.{Message}
use Rattle.shop_message.specs.declared.messages.Next.{Next}
use Rattle.shop_message.specs.declared.messages.Next.TheVariants as next
use Rattle.shop_message.specs.Messages.{Refusing, after_line_ends}
use Rattle.shop_message.specs.Nexts.{Gathers, GivesMessage, Stops, IsNext}
use Rattle.shop_message.proofs.cited.Nexts.{IsNext-behind, gathers-then}
use Rattle.shop_model.specs.declared.refusal.Refusal.{Refusal}
use Rattle.shop_model.specs.asked.Refusals.{status_of}
use Rattle.shop_http.specs.Requests.{asked}
use Rattle.shop_engine.specs.declared.report.Ended.{Ended}
use Rattle.shop_engine.specs.declared.report.Ended.TheVariants as ended
use Rattle.shop_engine.specs.declared.report.Point.{Point}
use Rattle.shop_engine.specs.Connections.{IsMade, Made, MakesRefusal, SoFar, turn_behind}
use Rattle.shop_engine.specs.Steps.{GivesUp}
use Rattle.shop_engine.specs.Workers.{Standing}
use Rattle.shop_engine.proofs.cited.SoFar.{SoFar-message, nothing_met, MessageAs-on, MessageAs-asked, MessageAs-cut, RefusalAs-told, RefusalAs-cut}
use Rattle.shop_engine.proofs.cited.Served.{Served-closed, Served-inside, Served-broken, Served-memory, Served-spent, Served-message, Served-refusal}
use Rattle.shop_polled.specs.Polls.{EndsAt, Goes, Met, Place, Reads, Tells, behind_of, holding}
use Rattle.shop_polled.proofs.Fronts.{front-split, take-all}

-- more of a reply is written

appended : (held held' held'' : Option (List ℕ)) (reply : List ℕ) (from at : ℕ) → from ≤ at → Appends held held' (take from reply) → Appends held' held'' (drop from (take at reply)) → Appends held held'' (take at reply)
appended held held' held'' reply from at onward before more = rw (front-split reply from at onward) (Appends-more held held' held'' (take from reply) (drop from (take at reply)) before more)

module _ (first now : Place) (met : Met) (reply : List ℕ) (from at : ℕ) (behind : Option Ended) (held' : Option (List ℕ)) (onward : from ≤ at)
    (tells : Tells first now met reply from behind) (more : Appends now.streams.held held' (drop from (take at reply))) where
  written : Appends tells.held held' (take at reply)
  written = appended tells.held now.streams.held held' reply from at onward tells.written more

  pub tells-more : Tells first (holding now held') met reply at behind
  tells-more = record { held = tells.held; written = written; whole = tells.whole; cut = tells.cut }

  pub tells-whole : at ≡ length reply → Goes first (holding now held') met behind
  tells-whole all = tells.whole held' (subst (Appends tells.held held') (ap (λ n. take n reply) all ∙ take-all reply) written)

  pub tells-cut : at < length reply → EndsAt first (holding now held') met ended.WriteFault
  tells-cut short = tells.cut held' (record { count = at; within = short; written = written })

-- a message is awaited

nothing_gathered : (left : Option (List ℕ)) (held : List ℕ) → Gathers left left held held
nothing_gathered left held = record { piece = []; taken = Consumes-nothing left; same = λ more. ap (λ xs. after_line_ends (xs ++ more)) (append-nil held) }

pub begins : (now : Place) → Reads now now (record { gathering = record { held = []; ended = false }; points = [] })
begins now = record {
  left = now.streams.left;
  unread = [];
  so_far = nothing_met now.standing now.streams [] [] refl refl;
  gathers = nothing_gathered now.streams.left [];
}

-- what comes of a reading

abbrev pub after_read : Place → Option (List ℕ) → Place
after_read now left' = record { standing = now.standing; streams = record { left = left'; held = now.streams.held } }

abbrev pub met_with : Gathering → List Point → Met
met_with gathering points = record { gathering = gathering; points = points }

module _ (first now : Place) (met : Met) (reads : Reads first now met) (left' : Option (List ℕ)) (gathering : Gathering) where
  pub reads-more : Gathers now.streams.left left' met.gathering.held gathering.held → Reads first (after_read now left') (met_with gathering met.points)
  reads-more more = record {
    left = reads.left;
    unread = reads.unread;
    so_far = reads.so_far;
    gathers = gathers-then reads.left now.streams.left left' reads.unread met.gathering.held gathering.held reads.gathers more;
  }

  behind : (next : Next) → IsNext now.streams.left left' met.gathering.held gathering.held next → IsNext reads.left left' reads.unread gathering.held next
  behind = IsNext-behind reads.left now.streams.left left' reads.unread met.gathering.held gathering.held reads.gathers

  pub reads-message : (message : Message) → GivesMessage now.streams.left left' met.gathering.held gathering.held message → GivesMessage reads.left left' reads.unread gathering.held message
  reads-message message = behind (next.Message message)

  pub reads-refused : (refusal : Refusal) → Stops now.streams.left left' met.gathering.held gathering.held (Refusing refusal) → Stops reads.left left' reads.unread gathering.held (Refusing refusal)
  reads-refused refusal = behind (next.Bad refusal)

  module _ (few : length met.points < 1000) where
    pub ends-closed : IsNext now.streams.left left' met.gathering.held gathering.held next.End → EndsAt first (after_read now left') (met_with gathering met.points) ended.Closed
    ends-closed is = Served-closed _ _ _ _ _ _ reads.so_far gathering.held left' few (behind next.End is)

    pub ends-cut : IsNext now.streams.left left' met.gathering.held gathering.held next.Cut → EndsAt first (after_read now left') (met_with gathering met.points) ended.Cut
    ends-cut is = Served-inside _ _ _ _ _ _ reads.so_far gathering.held left' few (behind next.Cut is)

    pub ends-broken : IsNext now.streams.left left' met.gathering.held gathering.held next.ReadFault → EndsAt first (after_read now left') (met_with gathering met.points) ended.ReadFault
    ends-broken is = Served-broken _ _ _ _ _ _ reads.so_far gathering.held left' few (behind next.ReadFault is)

    pub ends-memory : (piece : List ℕ) → Consumes now.streams.left left' piece → EndsAt first (after_read now left') (met_with gathering met.points) ended.Memory
    ends-memory piece taken =
        Served-memory _ _ _ _ _ _ reads.so_far now.standing left' (reads.gathers.piece ++ piece) few
        (Consumes-more reads.left now.streams.left left' reads.gathers.piece piece reads.gathers.taken taken) (inl refl)

-- all answers are spent
pub ends-spent : (first now : Place) (met : Met) → Reads first now met → length met.points ≡ 1000 → EndsAt first now met ended.Spent
ends-spent first now met reads all = Served-spent _ _ _ _ _ _ reads.so_far now.streams.left reads.gathers.piece all reads.gathers.taken

-- a message is to be answered

module _ (first now : Place) (to : Standing) (points : List Point) (message : Message) (left : Option (List ℕ)) (unread : List ℕ) (gathering : Gathering)
    (so_far : SoFar first.standing now.standing first.streams (record { left = left; held = now.streams.held }) unread points)
    (few : length points < 1000) (gives : GivesMessage left now.streams.left unread gathering.held message) where
  -- memory ran out before the answer
  pub ends-unanswered : (points' : List Point) → points' ≡ points → GivesUp (asked message) now.standing to
      → EndsAt first (record { standing = to; streams = now.streams }) (met_with gathering points') ended.Memory
  ends-unanswered points' same gives_up =
      Served-message ended.Memory _ _ _ _ _ _ _ _ _ _ _ _ _ so_far few refl gives (gives_up, ap (λ (l : List Point). record { points = l; held = now.streams.held }) same)

  module _ (made : Made) (makes : IsMade (turn_behind points message) now.standing to points made) where
    whole_as : (close : Bool) → message.close ≡ close → (held' : Option (List ℕ)) → Appends now.streams.held held' made.reply
        → Goes first (record { standing = to; streams = record { left = now.streams.left; held = held' } }) (met_with gathering made.points) (behind_of close)
    whole_as true asks held' written =
        Served-message ended.Asked _ _ _ _ _ _ _ _ _ _ _ _ _ so_far few refl gives (MessageAs-asked _ _ _ _ made now.streams.held held' makes written asks)
    whole_as false stays held' written = record {
      left = now.streams.left;
      unread = gathering.held;
      so_far = SoFar-message _ _ _ _ _ _ _ _ _ _ _ _ _ so_far refl gives (MessageAs-on _ _ _ _ made now.streams.held held' makes written stays);
      gathers = nothing_gathered now.streams.left gathering.held;
    }

    pub tells-answer : Tells first (record { standing = to; streams = now.streams }) (met_with gathering made.points) made.reply 0 (behind_of message.close)
    tells-answer = record {
      held = now.streams.held;
      written = Appends-nothing now.streams.held;
      whole = whole_as message.close refl;
      cut = λ held' front. Served-message ended.WriteFault _ _ _ _ _ _ _ _ _ _ _ _ _ so_far few refl gives (MessageAs-cut _ _ _ _ made now.streams.held held' makes front);
    }

-- a message is to be refused

module _ (first now : Place) (to : Standing) (same : to ≡ now.standing) (points : List Point) (refusal : Refusal) (left : Option (List ℕ)) (unread : List ℕ) (gathering : Gathering)
    (so_far : SoFar first.standing now.standing first.streams (record { left = left; held = now.streams.held }) unread points)
    (few : length points < 1000) (stops : Stops left now.streams.left unread gathering.held (Refusing refusal)) where
  pub ends-untold : (points' : List Point) → points' ≡ points → EndsAt first (record { standing = to; streams = now.streams }) (met_with gathering points') ended.Memory
  ends-untold points' kept = rw kept (Served-memory _ _ _ _ _ _ so_far to now.streams.left stops.gathers.piece few stops.gathers.taken (inl same))

  pub tells-refusal : (made : Made) → MakesRefusal refusal points made
      → Tells first (record { standing = to; streams = now.streams }) (met_with gathering made.points) made.reply 0 (Some (ended.Refused (status_of refusal)))
  tells-refusal made makes = record {
    held = now.streams.held;
    written = Appends-nothing now.streams.held;
    whole = λ held' written.
        Served-refusal _ _ _ _ _ _ so_far (ended.Refused (status_of refusal)) to gathering.held made.points now.streams.left held' refusal few stops
        (RefusalAs-told refusal points made now.streams.held held' makes written) same;
    cut = λ held' front.
        Served-refusal _ _ _ _ _ _ so_far ended.WriteFault to gathering.held made.points now.streams.left held' refusal few stops
        (RefusalAs-cut refusal points made now.streams.held held' makes front) same;
  }
