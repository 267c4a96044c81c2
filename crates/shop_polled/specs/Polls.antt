-- How far a connection has come, by where its worker and its streams stand.
use Rattle.std.specs.Prelude.{ℕ, List, take, Bool, true, false, Option, Some, None}
use Rattle.std.specs.Io.KnownBytes.{Appends}
use Rattle.shop_edges.specs.Streams.{AppendsFront}
use Rattle.shop_message.specs.Gatherings.{Gathering}
use Rattle.shop_message.specs.Nexts.{Gathers}
use Rattle.shop_engine.specs.declared.report.Ended.{Ended}
use Rattle.shop_engine.specs.declared.report.Ended.TheVariants as ended
use Rattle.shop_engine.specs.declared.report.Point.{Point}
use Rattle.shop_engine.specs.Connections.{SoFar}
use Rattle.shop_engine.specs.Served.{Streams, Served}
use Rattle.shop_engine.specs.Workers.{Standing}

-- a worker, and the streams that it serves
pub record Place : Type 0 where
  pub standing : Standing
  pub streams : Streams

-- the sink holds this instead
abbrev pub holding : Place → Option (List ℕ) → Place
holding now held = record { standing = now.standing; streams = record { left = now.streams.left; held = held } }

-- what a connection has put together so far
pub record Met : Type 0 where
  pub gathering : Gathering
  pub points : List Point

-- the messages so far were answered, and a part of the next one may have come
pub record Reads (first now : Place) (met : Met) : Type 0 where
  pub left : Option (List ℕ)
  pub unread : List ℕ
  pub so_far : SoFar first.standing now.standing first.streams (record { left = left; held = now.streams.held }) unread met.points
  pub gathers : Gathers left now.streams.left unread met.gathering.held

-- it ended so
abbrev pub EndsAt : Place → Place → Met → Ended → Type 0
EndsAt first now met end = Served first.standing now.standing first.streams now.streams end met.points

-- it ended so, or goes on
abbrev pub Goes : Place → Place → Met → Option Ended → Type 0
Goes first now met None = Reads first now met
Goes first now met (Some end) = EndsAt first now met end

-- a front of a reply was written. Where all of it is, this comes behind it, and where the sink fails, that is the end
pub record Tells (first now : Place) (met : Met) (reply : List ℕ) (at : ℕ) (behind : Option Ended) : Type 0 where
  pub held : Option (List ℕ)
  pub written : Appends held now.streams.held (take at reply)
  pub whole : (held' : Option (List ℕ)) → Appends held held' reply → Goes first (holding now held') met behind
  pub cut : (held' : Option (List ℕ)) → AppendsFront held held' reply → EndsAt first (holding now held') met ended.WriteFault

-- what comes behind the answer to a message that asks for the end, or doesn't
abbrev pub behind_of : Bool → Option Ended
behind_of true = Some ended.Asked
behind_of false = None

-- no fault comes behind a reply that is written whole
abbrev pub FollowsReply : Option Ended → Type 0
FollowsReply (Some ended.ReadFault) = ⊥
FollowsReply (Some ended.WriteFault) = ⊥
FollowsReply _ = Unit {0}
