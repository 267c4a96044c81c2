-- A gateway that is asked over lines, as its callers see it.
use Rattle.std.specs.Prelude.{◌≡◌, ℕ, ◌+◌, ◌-◌, ◌^◌, ◌⊎◌, min, Bool, true, false, List, [], Option, Some, None}
use Rattle.std.specs.Io.KnownBytes.{Appends}
use Rattle.shop_edges.specs.Causes.{Rose, count_up}
use Rattle.shop_edges.specs.Charges.{ChargeValue}
use Rattle.shop_edges.specs.Streams.{AppendsFront}
use Rattle.shop_edges.specs.declared.gateway.Verdict.{Verdict}
use Rattle.shop_edges.specs.declared.gateway.Verdict.TheVariants.{Failed}
use Rattle.shop_gateway.specs.declared.remote.Reply.{Reply}
use Rattle.shop_gateway.specs.declared.remote.Reply.TheVariants as reply
use Rattle.shop_gateway.specs.Emulators.{IsSaid}
use Rattle.shop_gateway.specs.Lines.{IsLine, IsOpen, IsLong, EndsOpen, Gathers}
use Rattle.shop_gateway.specs.Protocol.{charge_line, ended, verdict_told}

-- its streams; the bytes that came and are not read; whether a request is left without its whole reply; and its own
-- faults: replies that tell no verdict, and calls since then
pub record RemoteValue (S K : Type 0) : Type 0 where
  pub source : S
  pub sink : K
  pub ahead : List ℕ
  pub broken : Bool
  pub own : ℕ

-- before the first call
abbrev pub fresh : {S K : Type 0} → S → K → RemoteValue S K
fresh source sink = record { source = source; sink = sink; ahead = []; broken = false; own = 0 }

-- the count of faults: those of its streams and its own
abbrev pub count : ℕ → ℕ → ℕ → ℕ
count reads writes own = min (reads + writes + own) (2 ^ 64 - 1)

-- what is known of a link: what its source has left and its sink holds, where known, how often each has failed, and the
-- bytes that came and are not read
pub record Link : Type 0 where
  pub left : Option (List ℕ)
  pub held : Option (List ℕ)
  pub reads : ℕ
  pub writes : ℕ
  pub ahead : List ℕ

abbrev pub link : Option (List ℕ) → Option (List ℕ) → ℕ → ℕ → List ℕ → Link
link left held reads writes ahead = record { left = left; held = held; reads = reads; writes = writes; ahead = ahead }

-- the link of a gateway, by what is known of its streams
abbrev pub link_of : {S K : Type 0} → (S → Option (List ℕ)) → (K → Option (List ℕ)) → (S → ℕ) → (K → ℕ) → RemoteValue S K → Link
link_of left held reads writes r = link (left r.source) (held r.sink) (reads r.source) (writes r.sink) r.ahead

-- ---- one call

-- the line that asks for a charge
abbrev pub request : ChargeValue → List ℕ
request charge = ended (charge_line charge)

-- bytes came behind those that are not read
abbrev pub Comes : Link → Link → List ℕ → Type 0
Comes at at' came = Gathers at.left at'.left at.ahead came

-- the first line of the bytes that are not read is the reply, which tells this
pub record Replies (at at' : Link) (told : Option Verdict) : Type 0 where
  pub came : List ℕ
  pub comes : Comes at at' came
  pub line : List ℕ
  pub first : IsLine came line at'.ahead
  pub tells : verdict_told line ≡ told

-- there is no whole reply since the source has ended or the line is too long
pub record EndsEarly (at at' : Link) : Type 0 where
  pub comes : Comes at at' at'.ahead
  pub why : EndsOpen at'.left at'.ahead ⊎ IsLong at'.ahead

-- there is no whole reply since the source failed
pub record ReadFails (at at' : Link) : Type 0 where
  pub comes : Comes at at' at'.ahead
  pub part : IsOpen at'.ahead
  pub fault : Rose at.reads at'.reads

-- there is no whole request since the sink failed, and no reply is read
pub record WriteFails (at at' : Link) (asked : List ℕ) : Type 0 where
  pub part : AppendsFront at.held at'.held asked
  pub left : at'.left ≡ at.left
  pub ahead : at'.ahead ≡ at.ahead
  pub fault : Rose at.writes at'.writes

-- what came of a request, which was written whole but where the sink failed
abbrev pub IsReply : Link → Link → List ℕ → Reply → Type 0
IsReply at at' asked (reply.Told verdict) = Appends at.held at'.held asked × Replies at at' (Some verdict)
IsReply at at' asked reply.Unread = Appends at.held at'.held asked × Replies at at' None
IsReply at at' asked reply.Early = Appends at.held at'.held asked × EndsEarly at at'
IsReply at at' asked reply.ReadFault = Appends at.held at'.held asked × ReadFails at at'
IsReply at at' asked reply.WriteFault = WriteFails at at' asked

-- what a whole line tells
abbrev pub IsTold : List ℕ → Reply → Type 0
IsTold line (reply.Told verdict) = verdict_told line ≡ Some verdict
IsTold line reply.Unread = verdict_told line ≡ None
IsTold line _ = ⊥

-- a verdict that is told is an approval or a denial
abbrev pub SaysWhole : Reply → Type 0
SaysWhole (reply.Told verdict) = IsSaid verdict
SaysWhole _ = Unit {0}

-- a reply that tells a verdict is the answer
abbrev pub verdict_of : Reply → Verdict
verdict_of (reply.Told verdict) = verdict
verdict_of _ = Failed

-- whether the request is left without its whole reply
abbrev pub is_left : Reply → Bool
is_left (reply.Told verdict) = false
is_left reply.Unread = false
is_left reply.Early = true
is_left reply.ReadFault = true
is_left reply.WriteFault = true

-- exactly a reply that came and tells no verdict counts a fault of its own, and one that ended early
abbrev pub own_after : Reply → ℕ → ℕ
own_after (reply.Told verdict) own = own
own_after reply.Unread own = count_up own
own_after reply.Early own = count_up own
own_after reply.ReadFault own = own
own_after reply.WriteFault own = own

-- the charge was asked for, and this came of it
pub record IsAsked {S K : Type 0} (at at' : Link) (old new : RemoteValue S K) (charge : ChargeValue) (result : Verdict) : Type 0 where
  pub reply : Reply
  pub is : IsReply at at' (request charge) reply
  pub verdict : result ≡ verdict_of reply
  pub broken : new.broken ≡ is_left reply
  pub own : new.own ≡ own_after reply old.own

-- nothing is asked where a request was left without its reply
pub record IsUnasked {S K : Type 0} (old new : RemoteValue S K) (result : Verdict) : Type 0 where
  pub verdict : result ≡ Failed
  pub own : new ≡ record old { own = count_up old.own }
