-- Answering one message after another.
use Rattle.std.specs.Prelude.{◌≡◌, ◌==◌, ◌||◌, ℕ, ◌+◌, ◌-◌, ◌≤◌, ◌⊎◌, Bool, min, max, List, [], ◌∷◌, length, Option, Some, None, Result, Ok, Err, codes}
use Rattle.std.specs.Str.{bytes_eq}
use Rattle.shop_edges.specs.Causes.{count_up}
use Rattle.shop_edges.specs.Clocks.{Tells}
use Rattle.shop_edges.specs.Gateways.{Answered as AnsweredBy}
use Rattle.shop_edges.specs.declared.charge.Call.{Call}
use Rattle.shop_edges.specs.declared.gateway.Answer.{Answer}
use Rattle.shop_message.specs.declared.messages.Message.{Message}
use Rattle.shop_model.specs.declared.page.Page.{Page}
use Rattle.shop_model.specs.declared.requests.Request.{Request}
use Rattle.shop_model.specs.rows.Limits.{stamp_limit}
use Rattle.shop_model.specs.asked.Refusals.{page_of}
use Rattle.shop_model.specs.population.Words.{word}
use Rattle.shop_history.specs.declared.acts.Entry.{Entry}
use Rattle.shop_history.specs.Logs.{tables}
use Rattle.shop_cache.specs.declared.cache.Kept.{Kept}
use Rattle.shop_cache.specs.declared.lines.ListLine.{ListLine}
use Rattle.shop_cache.specs.declared.keys.ListKey.{ListKey}
use Rattle.shop_cache.specs.Caches.{found, looked, with_kept}
use Rattle.shop_cache.specs.Keys.{key_asked}
use Rattle.shop_browse.specs.Lists.{AreLines, items_on, page_by}
use Rattle.shop_http.specs.declared.requests.Refusal.{Refusal}
use Rattle.shop_http.specs.Requests.{asked, told_by}
use Rattle.shop_pages.specs.declared.reply.Form.{Form}
use Rattle.shop_pages.specs.Replies.{reply}
use Rattle.shop_engine.specs.declared.report.Answered.{Answered}
use Rattle.shop_engine.specs.declared.report.Answered.TheVariants as answered
use Rattle.shop_engine.specs.declared.report.Point.{Point}
use Rattle.shop_engine.specs.declared.report.PointKind.{PointKind}
use Rattle.shop_engine.specs.declared.report.PointKind.TheVariants as kind
use Rattle.shop_engine.specs.declared.report.PointKind.TheVariants.{Plain}
use Rattle.shop_engine.specs.Decided.{Decision, IsDecided}
use Rattle.shop_engine.specs.Lists.{looked_for}
use Rattle.shop_engine.specs.Payments.{AreFor}
use Rattle.shop_engine.specs.Seats.{Stays}
use Rattle.shop_engine.specs.Workers.{Caller, Standing}

-- a message, its point, the entries that it made, what the gateway was asked for it, and said, and the reply
pub record Step : Type 0 where
  pub message : Message
  pub point : Point
  pub made : List Entry
  pub answers : List Answer
  pub reply : List ℕ

abbrev pub decision_of : Step → Decision
decision_of step = record { point = step.point; made = step.made; answers = step.answers }

-- the most answers of a connection; this project's own
abbrev pub ANSWERS : ℕ
ANSWERS = 1000

-- the table of drawn words that belongs to workers; a row of it is a caller's
abbrev pub WORKERS : ℕ
WORKERS = 16

-- the word that is drawn for a caller's request of this number, counted from 1
abbrev pub draw_of : Caller → ℕ → ℕ
draw_of caller call = word caller.seed caller.scale WORKERS caller.number (call - 1)

-- the clock was read once, for one more request of the same caller, whose moment is never before the last one, and
-- within what a date can show
pub record Accepts (from to : Standing) : Type 0 where
  pub reading : ℕ
  pub told : Tells from.clock to.clock reading
  pub accepted : to.progress.accepted ≡ count_up from.progress.accepted
  pub last : to.progress.last ≡ max from.progress.last (min reading stamp_limit)
  pub caller : to.caller ≡ from.caller

-- a list that is kept, and is young enough, is shown
pub record ShowsKept (key : ListKey) (from to : Standing) (request : Request) (point : Point) (page : Page) : Type 0 where
  pub kept : Kept
  pub is_found : found key point.moment from.kept ≡ Some kept
  pub front : point.front ≡ kept.front
  pub shows : page_by request kept.lines ≡ Some page
  pub is_looked : to.kept ≡ looked key from.kept

-- a list that is not is read, and kept then
pub record KeepsNew (key : ListKey) (from to : Standing) (point : Point) : Type 0 where
  pub none : found key point.moment from.kept ≡ None
  pub lines : List ListLine
  pub are : AreLines (tables to.seat.opening to.seat.seen) (items_on (tables to.seat.opening to.seat.seen) key) lines
  pub kept : to.kept ≡ with_kept key (record { front = point.front; taken = point.moment; lines = lines }) (looked key from.kept)

-- what becomes of the lists that are kept, by the list that is asked for, if one is: one that is young enough is the
-- answer, with its lines; one that is read anew is kept, with its front and moment
abbrev pub KeepsAs : Option ListKey → Standing → Standing → Request → Point → Page → PointKind → Type 0
KeepsAs None from to request point page _ = to.kept ≡ from.kept
KeepsAs (Some key) from to request point page kind.List = ShowsKept key from to request point page
KeepsAs (Some key) from to request point page kind.At = KeepsNew key from to point
KeepsAs (Some key) from to request point page _ = (found key point.moment from.kept ≡ None) × (to.kept ≡ looked key from.kept)

-- a request was answered: its point has the next call, its moment and its word, and tells what decided; the gateway
-- tells what it answered; the reply is around the page
pub record IsAnswered (form : Form) (from : Standing) (step : Step) (to : Standing) (request : Request) : Type 0 where
  pub accepts : Accepts from to
  pub call : step.point.call ≡ to.progress.accepted
  pub moment : step.point.moment ≡ to.progress.last
  pub draw : step.point.draw ≡ draw_of from.caller to.progress.accepted
  pub told : AnsweredBy from.told to.told step.answers
  pub page : Page
  pub decided : IsDecided from.seat to.seat request (decision_of step) page
  pub lists : KeepsAs (key_asked request) from to request step.point page step.point.kind
  pub reply : step.reply ≡ reply page form

abbrev pub plain_point : Point
plain_point = record { kind = Plain; front = 0; moment = 0; call = 0; draw = 0; tries = 0 }

-- a refusal was told that the message alone decides: no word was drawn, nobody was asked, and nothing else was done
pub record IsPlain (form : Form) (from : Standing) (step : Step) (to : Standing) (refusal : Refusal) : Type 0 where
  pub stands : to ≡ from
  pub point : step.point ≡ plain_point
  pub made : step.made ≡ []
  pub answers : step.answers ≡ []
  pub reply : step.reply ≡ reply (page_of (told_by refusal)) form

-- by what the message asks for
abbrev pub IsStepFor : Form → Standing → Step → Standing → Result Request Refusal → Type 0
IsStepFor form from step to (Ok request) = IsAnswered form from step to request
IsStepFor form from step to (Err refusal) = IsPlain form from step to refusal

-- the form of the reply to a message: the connection ends where the message asks for it, and behind the last
-- answer; to HEAD the page is left out (RFC 9110, section 9.3.2)
abbrev pub form_of : Message → Bool → Form
form_of message last = record { close = message.close || last; bodiless = bytes_eq message.method (codes "HEAD") }

-- a message was answered, for the last time on its connection or not
abbrev pub IsStep : Bool → Standing → Step → Standing → Type 0
IsStep last from step to = IsStepFor (form_of step.message last) from step to (asked step.message)

-- steps that follow one another behind so many answers
abbrev pub AreSteps : ℕ → Standing → List Step → Standing → Type 0
AreSteps answers from [] to = to ≡ from
AreSteps answers from (step ∷ steps) to =
    (next : Standing) × IsStep ((answers + 1) == ANSWERS) from step next × AreSteps (answers + 1) next steps to

-- the call of the request that was accepted last
abbrev pub last_call : Standing → Call
last_call s = record { caller = s.seat.caller; number = s.progress.accepted }

-- a request was accepted, and what the gateway was asked was for it alone; or nothing was begun
abbrev pub BeginsOn : Result Request Refusal → Standing → Standing → List Answer → Type 0
BeginsOn (Ok request) from to answers = (Accepts from to × AreFor request (last_call to) answers) ⊎ ((to ≡ from) × (answers ≡ []))
BeginsOn (Err refusal) from to answers = (to ≡ from) × (answers ≡ [])

-- memory ran out before the answer to what was asked: the settles, eight at most, made no entry, the gateway gave
-- eight answers at most, and of the lists that are kept one was looked for at most
pub record GivesUp (asks : Result Request Refusal) (from to : Standing) : Type 0 where
  pub answers : List Answer
  pub begins : BeginsOn asks from to answers
  pub settles : ℕ
  pub few : settles ≤ 8
  pub stays : Stays from.seat to.seat [] settles to.progress.last
  pub few_answers : length answers ≤ 8
  pub told : AnsweredBy from.told to.told answers
  pub key : Option ListKey
  pub kept : to.kept ≡ looked_for key from.kept

-- a request was answered by this point and this reply, whatever message asked for it
abbrev pub AnswersRequest : Form → Standing → Standing → Request → Point → List ℕ → Type 0
AnswersRequest form from to request point reply = (made : List Entry) × (answers : List Answer)
    × ((message : Message) → IsAnswered form from (record { message = message; point = point; made = made; answers = answers; reply = reply }) to request)

-- a message was answered in one step, by this point and this reply
abbrev pub Answers : Bool → Standing → Standing → Message → Point → List ℕ → Type 0
Answers last from to message point reply = (made : List Entry) × (answers : List Answer)
    × IsStep last from (record { message = message; point = point; made = made; answers = answers; reply = reply }) to

-- what became of a message
abbrev pub AnsweredAs : Bool → Standing → Standing → Message → Answered → Type 0
AnsweredAs last from to message (answered.Reply text point) = Answers last from to message point text
AnsweredAs last from to message answered.Memory = GivesUp (asked message) from to
