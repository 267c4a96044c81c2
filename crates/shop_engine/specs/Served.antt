-- What one connection met, and what it left.
use Rattle.std.specs.Prelude.{◌≡◌, ℕ, ◌+◌, ◌<◌, ◌⊎◌, List, [], ◌∷◌, ◌++◌, length, take, map, flat_map, sum_by, All, Option, Some, None, option_map, option_to_list, true, false}
use Rattle.std.specs.List.{concat}
use Rattle.std.specs.Io.KnownBytes.{Appends, Consumes, IsAtEnd}
use Rattle.shop_edges.specs.Gateways.{Answered}
use Rattle.shop_model.specs.declared.refusal.Refusal.{Refusal}
use Rattle.shop_model.specs.asked.Refusals.{page_of, status_of}
use Rattle.shop_pages.specs.Replies.{reply}
use Rattle.shop_message.specs.declared.messages.Message.{Message}
use Rattle.shop_message.specs.Messages.{Begin, Between, Inside, Refusing, StopsAt}
use Rattle.shop_http.specs.Requests.{asked}
use Rattle.shop_engine.specs.declared.report.Ended.{Ended}
use Rattle.shop_engine.specs.declared.report.Ended.TheVariants as ended
use Rattle.shop_engine.specs.declared.report.Point.{Point}
use Rattle.shop_engine.specs.Steps.{Step, AreSteps, GivesUp, ANSWERS, plain_point}
use Rattle.shop_engine.specs.Seats.{Stays}
use Rattle.shop_engine.specs.Workers.{Standing}

-- what the source has left and the sink holds, each where it is known
pub record Streams : Type 0 where
  pub left : Option (List ℕ)
  pub held : Option (List ℕ)

-- the reply that tells the refusal of a message, after which the connection ends
unfoldable pub told_page : Refusal → List ℕ
told_page refusal = reply (page_of refusal) (record { close = true; bodiless = false })

-- what each end says of the messages that the connection went on behind, of the last one, where it ended with its
-- answer, of the refusal that was told behind the messages, of what else is there, and of what the source has left
abbrev pub EndsAs : Ended → List Message → Option Message → Option Refusal → List ℕ → Option (List ℕ) → Type 0
EndsAs ended.Closed before None None rest left = StopsAt rest Between × IsAtEnd left
EndsAs ended.Cut before None None rest left = StopsAt rest Inside × IsAtEnd left
EndsAs ended.ReadFault before None None rest left = StopsAt rest Between ⊎ StopsAt rest Inside
EndsAs (ended.Refused status) before None (Some told) rest left = StopsAt rest (Refusing told) × (status ≡ status_of told)
EndsAs ended.WriteFault before None (Some told) rest left = StopsAt rest (Refusing told)
EndsAs ended.WriteFault before (Some last) None rest left = Unit {0}
EndsAs ended.Asked before (Some last) None rest left = last.close ≡ true
EndsAs ended.Spent before (Some last) None rest left = (last.close ≡ false) × (length before + 1 ≡ ANSWERS)
EndsAs ended.Memory before None None rest left = Unit {0}
EndsAs _ before last told rest left = ⊥

-- these replies were written and nothing else; where the sink failed, all but the last, and of that only a front
abbrev pub Wrote : Ended → Option (List ℕ) → Option (List ℕ) → List (List ℕ) → Type 0
Wrote ended.WriteFault held held' replies = (whole : List (List ℕ)) × (last : List ℕ) × (count : ℕ)
    × (replies ≡ whole ++ last ∷ []) × (count < length last) × Appends held held' (concat whole ++ take count last)
Wrote _ held held' replies = Appends held held' (concat replies)

-- memory ran out before the answer to the message that comes behind these
pub record IsAbandoned (given : List ℕ) (messages : List Message) (from to : Standing) : Type 0 where
  pub next : Message
  pub rest : List ℕ
  pub begin : Begin given (messages ++ next ∷ []) rest
  pub gave : GivesUp (asked next) from to

-- a worker served a connection to this end, and left these points
pub record Served (old new : Standing) (streams streams' : Streams) (end : Ended) (points : List Point) : Type 0 where
  pub given : List ℕ
  pub rest : List ℕ
  pub steps : List Step
  pub before : List Message
  pub last : Option Message
  pub told : Option Refusal
  pub mid : Standing
  -- the source gave these bytes; they begin with the messages that were answered, of which none but the last asks for
  -- the end, and the end says what follows
  pub taken : Consumes streams.left streams'.left given
  pub begin : Begin given (map (λ s. s.message) steps) rest
  pub messages : map (λ s. s.message) steps ≡ before ++ option_to_list last
  pub stay : All (λ m. m.close ≡ false) before
  pub few : length before < ANSWERS
  pub ends : EndsAs end before last told rest streams'.left
  -- each message was answered in a step, and the steps made these entries of the caller by so many settles; the
  -- gateway tells what it was asked in them, and said, in order; nothing came behind the last answer, but where
  -- memory ran out
  pub run : AreSteps 0 old steps mid
  pub stays : Stays old.seat mid.seat (flat_map (λ s. s.made) steps) (sum_by (λ s. s.point.tries) steps) mid.progress.last
  pub asked : Answered old.told mid.told (flat_map (λ s. s.answers) steps)
  pub after : (new ≡ mid) ⊎ ((end ≡ ended.Memory) × IsAbandoned given (map (λ s. s.message) steps) mid new)
  -- a step has a point, in order, and a refusal one more; the replies were written in the same order
  pub all : points ≡ map (λ s. s.point) steps ++ option_to_list (option_map (λ _. plain_point) told)
  pub written : Wrote end streams.held streams'.held (map (λ s. s.reply) steps ++ option_to_list (option_map told_page told))
