-- The driver of interactions: what one may do next by what it has read, and the attempt of what it decides.
use Rattle.std.specs.Prelude.{◌≡◌, ◌≢◌, ℕ, zero, suc, ◌≤◌, Bool, if◌then◌else◌, List, [], ◌∷◌, ◌++◌, take, All, Option, Some, None}
use Rattle.shop_model.specs.declared.requests.Request.{Request}
use Rattle.shop_model.specs.declared.tables.Tables.{Tables}
use Rattle.shop_model.specs.lists.Catalogues.{Catalogue, opened}
use Rattle.shop_model.specs.rows.Limits.{stamp_limit}
use Rattle.shop_model.specs.rows.Sound.{Sound}
use Rattle.shop_history.specs.declared.acts.Act.{Act}
use Rattle.shop_history.specs.declared.acts.Entry.{Entry}
use Rattle.shop_history.specs.declared.keys.Key.{Key}
use Rattle.shop_history.specs.declared.keys.Key.TheVariants.{Count}
use Rattle.shop_history.specs.Acts.{IsActOf}
use Rattle.shop_history.specs.Logs.{tables}
use Rattle.shop_cache.specs.Keys.{key_asked}
use Rattle.shop_draft.specs.declared.draft.Draft.{Draft}
use Rattle.shop_attempt.specs.declared.attempts.Attempt.{Attempt}
use Rattle.shop_attempt.specs.declared.attempts.ReadOf.{ReadOf}
use Rattle.shop_attempt.specs.declared.attempts.Write.{Write}
use Rattle.shop_attempt.specs.Faithful.{Makes}
use Rattle.shop_attempt.specs.Reads.{AreTrue, AreReadSince}
use Rattle.shop_attempt.specs.Seats.{Seat, IsSeat}
use Rattle.shop_browse.specs.declared.attempted.Ask.{Ask}
use Rattle.shop_browse.specs.declared.driver.Next.{Next}
use Rattle.shop_browse.specs.declared.driver.Next.TheVariants.{ReadOne, ReadTwo, Read, Show, ShowList, Change, Pay, Never}
use Rattle.shop_browse.specs.Attempts.{Becomes, IsShownBy, IsFree}
use Rattle.shop_browse.specs.Baskets.{IsBasketFor}
pub use Rattle.shop_browse.specs.Fitting.{keys_of, Fits, AreSeen}
use Rattle.shop_browse.specs.Footprints.{InFootprint}
use Rattle.shop_browse.specs.Lists.{AreListed}

-- a log over an opening of this catalogue, each beginning of which leaves sound tables, of which the reads are true
pub record WereRead (c : Catalogue) (opening : Tables) (log : List Entry) (reads : List ReadOf) : Type 0 where
  pub named : c ≡ opened opening
  pub sound : (front : ℕ) → Sound (tables opening (take front log))
  pub are : AreTrue opening log reads

-- after whichever log of which the reads are true, the request may read these rows
abbrev pub MayRead : Request → Ask → List ReadOf → List Key → Type 0
MayRead request ask reads keys =
    (opening : Tables) (log : List Entry)
    → WereRead ask.index.now opening log reads
    → All (InFootprint opening log request ask.draw) keys

-- the rows that are asked for after so many rounds: reads of them go on with those before, few rounds
-- are made, and the request may read them
pub record AsksFor (follows : ℕ → List ReadOf → Type 0) (request : Request) (ask : Ask) (round : ℕ) (reads : List ReadOf) (keys : List Key) : Type 0 where
  pub few : round ≤ 5
  pub goes_on : (more : List ReadOf) → keys_of more ≡ keys → follows (suc round) (reads ++ more)
  pub may : MayRead request ask reads keys

-- what is read before the first round
abbrev pub first_keys : Bool → List Key
first_keys counted = if counted then Count ∷ [] else []

-- these rows are read before the first round: the request may read them, and its rounds go on from reads of them
pub record Begins (first : List Key) (follows : ℕ → List ReadOf → Type 0) (request : Request) (ask : Ask) : Type 0 where
  pub may : (opening : Tables) (log : List Entry) → All (InFootprint opening log request ask.draw) first
  pub goes_on : (reads : List ReadOf) → keys_of reads ≡ first → follows 0 reads

-- after the first round this row was read
abbrev pub FollowsOne : Key → ℕ → List ReadOf → Type 0
FollowsOne k zero reads = reads ≡ []
FollowsOne k (suc more) reads = keys_of reads ≡ k ∷ []

-- the act does the request, nothing is to be paid for it, and the writes and the draft are those of the act in these tables, at any stamp
pub record IsChange (request : Request) (ask : Ask) (reads : List ReadOf) (draft : Draft) (act : Act) (writes : List Write) : Type 0 where
  pub does : IsActOf request ask.draw ask.tax act
  pub free : IsFree (Some act)
  pub makes : (t : Tables) (stamp : ℕ) → Fits ask.index.now t reads → stamp ≤ stamp_limit → Makes t stamp act writes
  pub becomes : (t : Tables) (stamp : ℕ) → Fits ask.index.now t reads → stamp ≤ stamp_limit → Becomes t stamp act draft

-- whichever tables fit what was read, the draft is of the page that the request shows there
abbrev pub IsPageFor : Request → Ask → List ReadOf → Draft → Type 0
IsPageFor request ask reads draft = (t : Tables) → Fits ask.index.now t reads → IsShownBy t request ask.draw draft

-- what is done next is right in whichever tables fit what was read, with the draft as it is then
abbrev pub IsNext : (ℕ → List ReadOf → Type 0) → Request → Ask → ℕ → List ReadOf → Draft → Next → Type 0
IsNext follows request ask round reads draft (ReadOne key) = AsksFor follows request ask round reads (key ∷ [])
IsNext follows request ask round reads draft (ReadTwo one other) = AsksFor follows request ask round reads (one ∷ other ∷ [])
IsNext follows request ask round reads draft (Read keys) = AsksFor follows request ask round reads keys
IsNext follows request ask round reads draft Show = (key_asked request ≡ None) × IsPageFor request ask reads draft
IsNext follows request ask round reads draft (ShowList lines) =
    ((t : Tables) → Fits ask.index.now t reads → AreListed t request lines) × IsPageFor request ask reads draft
IsNext follows request ask round reads draft (Change act writes) = IsChange request ask reads draft act writes
IsNext follows request ask round reads draft Pay = IsBasketFor ask.tax request reads
IsNext follows request ask round reads draft Never = (t : Tables) → Fits ask.index.now t reads → ⊥

-- these rows were read one after another, behind others, and each was shown by sound tables; where there is one, the seat is in order
pub record AddsReads (start now : Seat) (keys : List Key) (old new : List ReadOf) : Type 0 where
  pub more : List ReadOf
  pub added : new ≡ old ++ more
  pub keys_are : keys_of more ≡ keys
  pub since : AreReadSince start now more
  pub seen : AreSeen (opened now.opening) more
  pub valid : more ≢ [] → IsSeat now

-- the attempt with these reads, and with this act and its writes
abbrev pub attempt_with : Ask → List ReadOf → Option (List Write) → Option Act → Attempt
attempt_with ask reads writes act =
    record { reads = reads; moment = ask.moment; draw = ask.draw; writes = writes; act = act }
