-- What a look at the front of the bytes says of the messages of all the bytes.
use Rattle.std.specs.Prelude.{◌≡◌, ℕ, ◌+◌, ◌<◌, ◌≤◌, ◌⊎◌, List, [], ◌++◌, length, take, drop}
use Rattle.httparse.specs.Grammar.{RequestHead, ReadsRequest}
use Rattle.shop_model.specs.declared.refusal.Refusal.{Refusal}
use Rattle.shop_model.specs.declared.refusal.Refusal.TheVariants.{BadRequest, LargeHead}
use Rattle.shop_message.specs.declared.frames.Frame.TheVariants.{Body, Refused}
use Rattle.shop_message.specs.declared.found.Found.{Found}
use Rattle.shop_message.specs.declared.found.Found.TheVariants as found
use Rattle.shop_message.specs.Heads.{BODY_LIMIT, fields_of, frame_of}
use Rattle.shop_message.specs.declared.gather.Look.{Look}
use Rattle.shop_message.specs.declared.gather.Look.TheVariants as look
use Rattle.shop_message.specs.declared.messages.Message.{Message}
use Rattle.shop_message.specs.Messages.{LINES_LIMIT, IsFirst, IsRefused, IsUnready, StandsFor, after_line_ends, line_feeds, message_from}

-- the first message is this, and the rest of the bytes follows it, whatever comes behind
pub record TakesFirst (before after : List ℕ) (message : Message) : Type 0 where
  pub shorter : length after < length before
  pub first : (more : List ℕ) → IsFirst (before ++ more) message (after ++ more)

-- there is no message yet: but for line ends, nothing is left, or a part of one, and so it stays until so many bytes came
pub record LeavesPart (before after : List ℕ) (wanted : ℕ) : Type 0 where
  pub short : length after < wanted
  pub few : wanted ≤ 32_768
  pub part : (piece : List ℕ) → length (after ++ piece) < wanted → IsUnready (after ++ piece)
  pub same : StandsFor before after

-- a message is taken, or refused, or left in parts
abbrev pub IsLook : List ℕ → List ℕ → Look → Type 0
IsLook before after (look.Message message) = TakesFirst before after message
IsLook before after (look.Refused refusal) = StandsFor before after × IsRefused (after_line_ends before) refusal
IsLook before after (look.Part wanted) = LeavesPart before after wanted
IsLook before after look.Memory = StandsFor before after

-- a head of this length and its body are this message, of so many bytes
pub record WholeAt (bytes : List ℕ) (len : ℕ) (message : Message) (total : ℕ) : Type 0 where
  pub head : RequestHead
  pub size : ℕ
  pub few : line_feeds (take len bytes) ≤ LINES_LIMIT
  pub reads : ReadsRequest (take len bytes) head []
  pub frame : frame_of (fields_of head) ≡ Body size
  pub whole : size ≤ length (drop len bytes)
  pub total_is : total ≡ len + size
  pub is : message ≡ message_from head (take size (drop len bytes))

-- a part of its body is there
pub record PartAt (bytes : List ℕ) (len total : ℕ) : Type 0 where
  pub head : RequestHead
  pub size : ℕ
  pub few : line_feeds (take len bytes) ≤ LINES_LIMIT
  pub reads : ReadsRequest (take len bytes) head []
  pub frame : frame_of (fields_of head) ≡ Body size
  pub small : size ≤ BODY_LIMIT
  pub part : length (drop len bytes) < size
  pub total_is : total ≡ len + size

-- its fields are refused so
pub record UnframedAt (bytes : List ℕ) (len : ℕ) (refusal : Refusal) : Type 0 where
  pub head : RequestHead
  pub few : line_feeds (take len bytes) ≤ LINES_LIMIT
  pub reads : ReadsRequest (take len bytes) head []
  pub frame : frame_of (fields_of head) ≡ Refused refusal

-- it is no head of the grammar
pub record BrokenAt (bytes : List ℕ) (len : ℕ) : Type 0 where
  pub few : line_feeds (take len bytes) ≤ LINES_LIMIT
  pub none : (head : RequestHead) → ¬ (ReadsRequest (take len bytes) head [])

-- why a head of this length is refused, and the refusal that says so
abbrev pub RefusedAt : List ℕ → ℕ → Refusal → Type 0
RefusedAt bytes len refusal =
    ((LINES_LIMIT < line_feeds (take len bytes)) × (refusal ≡ LargeHead)) ⊎ (BrokenAt bytes len × (refusal ≡ BadRequest)) ⊎ UnframedAt bytes len refusal

-- what a head of this length, and the bytes behind it, come to
abbrev pub IsFound : List ℕ → ℕ → Found → Type 0
IsFound bytes len (found.Whole message total) = WholeAt bytes len message total
IsFound bytes len (found.Refused refusal) = RefusedAt bytes len refusal
IsFound bytes len (found.Part total) = PartAt bytes len total
IsFound bytes len found.Memory = Unit {0}
