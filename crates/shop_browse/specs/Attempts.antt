-- What an attempt call answers, and writes.
use Rattle.std.specs.Prelude.{◌≡◌, ℕ, ◌≤◌, List, [], ◌∷◌, Option, Some, None}
use Rattle.shop_model.specs.declared.page.Page.{Page}
use Rattle.shop_model.specs.declared.requests.Request.{Request}
use Rattle.shop_model.specs.declared.tables.Tables.{Tables}
use Rattle.shop_model.specs.declared.tax.TaxRule.{TaxRule}
use Rattle.shop_model.specs.lists.Catalogues.{opened}
use Rattle.shop_model.specs.rows.Limits.{stamp_limit}
use Rattle.shop_model.specs.pages.Show.{show}
use Rattle.shop_history.specs.declared.acts.Act.{Act}
use Rattle.shop_history.specs.declared.acts.Act.TheVariants.{Confirm}
use Rattle.shop_history.specs.Acts.{play, IsActOf}
use Rattle.shop_history.specs.Drawing.{new_ids}
use Rattle.shop_cache.specs.declared.lines.ListLine.{ListLine}
use Rattle.shop_cache.specs.Keys.{key_asked}
use Rattle.shop_draft.specs.declared.draft.Draft.{Draft}
use Rattle.shop_draft.specs.Pages.{IsPage, Shows}
use Rattle.shop_attempt.specs.declared.attempts.Attempt.{Attempt}
use Rattle.shop_attempt.specs.declared.attempts.ReadOf.{ReadOf}
use Rattle.shop_attempt.specs.Faithful.{Faithful}
use Rattle.shop_attempt.specs.Reads.{Agrees, IsReadSince}
use Rattle.shop_attempt.specs.Seats.{Seat}
use Rattle.shop_browse.specs.declared.attempted.Ask.{Ask}
use Rattle.shop_browse.specs.declared.attempted.Attempted.{Attempted}
use Rattle.shop_browse.specs.declared.attempted.Attempted.TheVariants.{Ready, Listed, Pay, Contradiction, Memory}
use Rattle.shop_browse.specs.Baskets.{HasBasket}
use Rattle.shop_browse.specs.Footprints.{InFootprint}
use Rattle.shop_browse.specs.Lists.{AreListed}

-- an ask of the opening tables: its index is of their catalogue
abbrev pub Suits : Ask → Seat → Type 0
Suits ask seat = ask.index.now ≡ opened seat.opening

-- a request, its moment, the word that was drawn for it, and the rule of the tax, if it is a purchase
pub record Asking : Type 0 where
  pub request : Request
  pub moment : ℕ
  pub draw : ℕ
  pub tax : TaxRule

abbrev pub asking_of : Ask → Request → Asking
asking_of ask request = record { request = request; moment = ask.moment; draw = ask.draw; tax = ask.tax }

-- a read of this call, of a row that the request may read
pub record IsReadFor (start now : Seat) (asking : Asking) (read : ReadOf) : Type 0 where
  pub since : IsReadSince start now read
  pub footprint : InFootprint now.opening now.seen asking.request asking.draw read.key

abbrev pub AreReadFor : Seat → Seat → Asking → List ReadOf → Type 0
AreReadFor start now asking [] = Unit {0}
AreReadFor start now asking (read ∷ reads) = IsReadFor start now asking read × AreReadFor start now asking reads

-- a faithful attempt at this moment and with this word
pub record IsAttempt (start now : Seat) (asking : Asking) (attempt : Attempt) : Type 0 where
  pub at : attempt.moment ≡ asking.moment
  pub drew : attempt.draw ≡ asking.draw
  pub reads : AreReadFor start now asking attempt.reads
  pub faithful : Faithful now.opening now.seen attempt

-- the draft is of the page that the request shows in these tables, which it changes nothing of
pub record IsShownBy (t : Tables) (request : Request) (draw : ℕ) (draft : Draft) : Type 0 where
  pub page : Page
  pub shows : show t request draw ≡ Some page
  pub written : Shows draft (λ drawn. page)

-- the draft becomes the page that an act gives in these tables, with the ids that are drawn there
abbrev pub Becomes : Tables → ℕ → Act → Draft → Type 0
Becomes t stamp act draft =
    (front : ℕ)
    → IsPage draft (record { front = front; stamp = stamp; ids = new_ids t (play t stamp act).tables }) (play t stamp act).page

-- whichever tables agree with the reads, the draft is of the page that the request shows there; or of that of
-- its act, with the ids that are drawn there, at any stamp
abbrev pub IsDraftOf : Tables → Asking → List ReadOf → Draft → Option Act → Type 0
IsDraftOf opening asking reads draft None =
    (t : Tables) → Agrees opening t reads → IsShownBy t asking.request asking.draw draft
IsDraftOf opening asking reads draft (Some act) =
    IsActOf asking.request asking.draw asking.tax act
    × ((t : Tables) (stamp : ℕ) → Agrees opening t reads → stamp ≤ stamp_limit → Becomes t stamp act draft)

-- an attempt, and the draft of its page
pub record IsReady (start now : Seat) (asking : Asking) (draft : Draft) (attempt : Attempt) : Type 0 where
  pub attempts : IsAttempt start now asking attempt
  pub drafts : IsDraftOf now.opening asking attempt.reads draft attempt.act

-- an act, if any, for which nothing is to be paid
abbrev pub IsFree : Option Act → Type 0
IsFree (Some (Confirm asked draw auth tax)) = ⊥
IsFree _ = Unit {0}

-- an attempt for which nothing is to be paid; where it changes nothing, no list is asked for
pub record IsPlain (start now : Seat) (asking : Asking) (draft : Draft) (attempt : Attempt) : Type 0 where
  pub ready : IsReady start now asking draft attempt
  pub free : IsFree attempt.act
  pub unlisted : attempt.act ≡ None → key_asked asking.request ≡ None

-- an attempt at a list, which changes nothing: in whichever tables agree with the reads, these are its lines
pub record IsList (start now : Seat) (asking : Asking) (draft : Draft) (attempt : Attempt) (lines : List ListLine) : Type 0 where
  pub ready : IsReady start now asking draft attempt
  pub reading : attempt.act ≡ None
  pub listed : (t : Tables) → Agrees now.opening t attempt.reads → AreListed t asking.request lines

-- a purchase whose rows are read, by an attempt that changes nothing yet
pub record IsPayable (start now : Seat) (asking : Asking) (attempt : Attempt) : Type 0 where
  pub attempts : IsAttempt start now asking attempt
  pub reading : attempt.act ≡ None
  pub basket : HasBasket (opened now.opening) asking.tax asking.request attempt.reads

-- no tables agree with the reads
pub record IsContradiction (start now : Seat) (asking : Asking) (attempt : Attempt) : Type 0 where
  pub attempts : IsAttempt start now asking attempt
  pub reading : attempt.act ≡ None
  pub never : (t : Tables) → Agrees now.opening t attempt.reads → ⊥

-- what is answered, with the draft as the call leaves it
abbrev pub AttemptedAs : Seat → Seat → Asking → Draft → Attempted → Type 0
AttemptedAs start now asking draft (Ready attempt) = IsPlain start now asking draft attempt
AttemptedAs start now asking draft (Listed attempt lines) = IsList start now asking draft attempt lines
AttemptedAs start now asking draft (Pay attempt) = IsPayable start now asking attempt
AttemptedAs start now asking draft (Contradiction attempt) = IsContradiction start now asking attempt
AttemptedAs start now asking draft Memory = Unit {0}
