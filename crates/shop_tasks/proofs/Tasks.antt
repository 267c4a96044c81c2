-- Tasks, one after another.
use Rattle.std.proofs.Common.{◌≡◌, ◌≤◌, ℕ, Bool, List, [], ◌∷◌, ◌++◌, length, map, get_or, Option, Some, Result, Ok, refl, sym, ap, ◌∙◌, subst, arith, true, append-nil, length-append, zero, suc, false}
use Rattle.std.specs.List.{All, AllZip, Contains}
use Rattle.std.proofs.lemmas.List.Elements.{All-contains, All-push, All-weaker, Contains-append_left, Contains-push}
use Rattle.std.proofs.lemmas.List.{map-append}
use Rattle.std.proofs.lemmas.Slice.Zip.{all_zipped_more}
use Rattle.shop_book.specs.Books.{BookValue}
use Rattle.shop_browsers.specs.Browsers.{BrowserState}
use Rattle.shop_drive.specs.declared.tally.Tally.{Tally}
use Rattle.shop_drive.specs.Drives.{Drives}
use Rattle.shop_drive.specs.Turns.{Stage}
use Rattle.shop_edges.specs.declared.gateway.Answer.{Answer}
use Rattle.shop_engine.specs.Workers.{WorkerState, standing}
use Rattle.shop_attempt.specs.Seats.{Seat}
use Rattle.shop_edges.specs.Starts.{Spawning}
use Rattle.shop_turn.specs.Desks.{DeskValue, IsOneShop, seat_of}
use Rattle.shop_text.specs.declared.memory.Memory.{Memory}
use Rattle.shop_edges.specs.Starts.{MayGive}
use Rattle.shop_edges.specs.declared.ticket.Begun.{Begun}
use Rattle.shop_places.specs.Counts.{counted}
use Rattle.shop_tasks.specs.TaskValues.{RacedValue, TaskValue}
use Rattle.shop_tasks.specs.Tasks.{AreDone, AreStopped, IsBack, IsGiven, IsTicketOf, Joins, Promises, Races, RanAs, Starts, ended, first_stage, stage_of}

-- the one element of a list
pub only : {A : Type 0} (xs : List A) (other : A) → length xs ≡ 1 → xs ≡ get_or xs 0 other ∷ []
only [] other one = absurd (omega (arith, one))
only (x ∷ []) other one = refl
only (x ∷ y ∷ xs) other one = absurd (omega (arith, one))

-- a gateway that is new has answered nothing
pub begun : (marked : ℕ → ℕ → Type 0) (worker : WorkerState DeskValue) (clock : Option (List ℕ)) (browser : BrowserState) (answers : List Answer) (after : Stage) (steps : ℕ) (tally : Tally) → answers ≡ []
    → Drives marked (record { worker = standing seat_of worker clock (Some answers); browsers = browser ∷ []; failures = 0 }) after steps (Ok tally)
    → Drives marked (stage_of worker clock browser) after steps (Ok tally)
begun marked worker clock browser answers after steps tally none =
    subst (λ (a : List Answer). Drives marked (record { worker = standing seat_of worker clock (Some a); browsers = browser ∷ []; failures = 0 }) after steps (Ok tally)) none

-- the desks that tickets gave, and one more

abbrev pub Gave : {C : Type 0} → (C → Option (List ℕ)) → List (Begun (TaskValue C) (Result RacedValue Memory)) → List DeskValue → Type 0
Gave readings tickets desks =
    (raced : List RacedValue) × AllZip (λ ticket one. MayGive (Promises readings) ticket (Ok one)) tickets raced × (desks ≡ map (λ one. one.desk) raced)

pub joined_more : {C : Type 0} (readings : C → Option (List ℕ)) (tickets : List (Begun (TaskValue C) (Result RacedValue Memory))) (desks more : List DeskValue) (ticket : Begun (TaskValue C) (Result RacedValue Memory)) (one : RacedValue) (desk : DeskValue)
    → Gave readings tickets desks → MayGive (Promises readings) ticket (Ok one) → more ≡ desks ++ desk ∷ [] → desk ≡ one.desk → Gave readings (tickets ++ ticket ∷ []) more
joined_more readings tickets desks more ticket one desk (raced, gave, are) given pushed is = (
  raced ++ one ∷ [],
  all_zipped_more (λ t o. MayGive (Promises readings) t (Ok o)) tickets raced ticket one gave given,
  pushed ∙ (λ i. are i ++ is i ∷ []) ∙ sym (map-append (λ (o : RacedValue). o.desk) raced (one ∷ [])),
)

pub given_later : {C : Type 0} (readings : C → Option (List ℕ)) (tickets : List (Begun (TaskValue C) (Result RacedValue Memory))) (ticket : Begun (TaskValue C) (Result RacedValue Memory)) (desks : List DeskValue)
    → All (IsGiven readings tickets) desks → All (IsGiven readings (tickets ++ ticket ∷ [])) desks
given_later readings tickets ticket desks all =
    All-weaker (IsGiven readings tickets) (IsGiven readings (tickets ++ ticket ∷ []))
    (λ desk given. (given.0, Contains-append_left tickets (ticket ∷ []) given.0 given.1, given.2, given.3, given.4)) desks all

pub given_more : {C : Type 0} (readings : C → Option (List ℕ)) (tickets : List (Begun (TaskValue C) (Result RacedValue Memory))) (desks more : List DeskValue) (ticket : Begun (TaskValue C) (Result RacedValue Memory)) (one : RacedValue) (desk : DeskValue)
    → All (IsGiven readings tickets) desks → MayGive (Promises readings) ticket (Ok one) → more ≡ desks ++ desk ∷ [] → desk ≡ one.desk → All (IsGiven readings (tickets ++ ticket ∷ [])) more
given_more readings tickets desks more ticket one desk all given pushed is =
    subst (All (IsGiven readings (tickets ++ ticket ∷ []))) (sym pushed)
    (All-push (IsGiven readings (tickets ++ ticket ∷ [])) desks desk (given_later readings tickets ticket desks all) (ticket, Contains-push tickets ticket, one, given, is))

-- what tasks promised, place by place
module _ {C : Type 0} (readings : C → Option (List ℕ)) where
  abbrev Kept : List (TaskValue C) → List RacedValue → Type 0
  Kept = AllZip (λ task one. Races (first_stage readings task) task.steps one)

  kept_by : (tasks : List (TaskValue C)) (tickets : List (Begun (TaskValue C) (Result RacedValue Memory))) (raced : List RacedValue)
      → AllZip (IsTicketOf readings) tasks tickets → AllZip (λ ticket one. MayGive (Promises readings) ticket (Ok one)) tickets raced → Kept tasks raced
  kept_by [] [] [] of gave = tt
  kept_by [] [] (one ∷ raced) of gave = absurd gave
  kept_by [] (ticket ∷ tickets) raced of gave = absurd of
  kept_by (task ∷ tasks) [] raced of gave = absurd of
  kept_by (task ∷ tasks) (ticket ∷ tickets) [] of gave = absurd gave
  kept_by (task ∷ tasks) (ticket ∷ tickets) (one ∷ raced) of gave = (of.0 (Ok one) gave.0, kept_by tasks tickets raced of.1 gave.1)

  ticket_task : (tasks : List (TaskValue C)) (tickets : List (Begun (TaskValue C) (Result RacedValue Memory))) (ticket : Begun (TaskValue C) (Result RacedValue Memory))
      → AllZip (IsTicketOf readings) tasks tickets → Contains tickets ticket → (task : TaskValue C) × Contains tasks task × IsTicketOf readings task ticket
  ticket_task [] [] ticket of has = absurd (omega (arith, has.1))
  ticket_task [] (first ∷ tickets) ticket of has = absurd of
  ticket_task (task ∷ tasks) [] ticket of has = absurd of
  ticket_task (task ∷ tasks) (first ∷ tickets) ticket of (zero, within, is) = (task, (0, omega arith, refl), subst (IsTicketOf readings task) is of.0)
  ticket_task (task ∷ tasks) (first ∷ tickets) ticket of (suc k, within, is) =
      let found = ticket_task tasks tickets ticket of.1 (k, omega (arith, within), is) in
      (found.0, (suc found.1.0, omega (arith, found.1.1), found.1.2), found.2)

  tickets_few : (begun : List (TaskValue C)) (tickets : List (Begun (TaskValue C) (Result RacedValue Memory))) → AllZip (IsTicketOf readings) begun tickets → length tickets ≡ length begun
  tickets_few [] [] of = refl
  tickets_few [] (ticket ∷ tickets) of = absurd of
  tickets_few (task ∷ begun) [] of = absurd of
  tickets_few (task ∷ begun) (ticket ∷ tickets) of = ap suc (tickets_few begun tickets of.1)

  -- there are no more tickets than tasks
  pub tickets_fit : (tasks : List (TaskValue C)) (tickets : List (Begun (TaskValue C) (Result RacedValue Memory))) (all : Bool) (old new : Spawning)
      → Starts readings tasks tickets all old new → length tickets ≤ length tasks
  tickets_fit tasks tickets all old new starts =
      omega (arith, tickets_few starts.begun tickets starts.are, ap length starts.split, length-append starts.begun starts.left)

  -- desks that came back, whether or not all tasks were started
  module _ (tasks : List (TaskValue C)) (tickets : List (Begun (TaskValue C) (Result RacedValue Memory))) (desks : List DeskValue) (old new : Spawning)
      (started driven : Bool) (starts : Starts readings tasks tickets started old new) (joins : Joins readings tickets desks driven) where
    is_back : (desk : DeskValue) → IsGiven readings tickets desk → IsBack readings tasks desk
    is_back desk (ticket, has, one, gave, is) =
        let found = ticket_task starts.begun tickets ticket starts.are has in
        let begun : Contains (starts.begun ++ starts.left) found.0 = Contains-append_left starts.begun starts.left found.0 found.1 in
        (found.0, subst (λ (l : List (TaskValue C)). Contains l found.0) (sym starts.split) begun, one, found.2 (Ok one) gave, is)

    pub all_back : All (IsBack readings tasks) desks
    all_back = All-weaker (IsGiven readings tickets) (IsBack readings tasks) is_back desks joins.each

    one_shop : (own : DeskValue) → All (λ task. IsOneShop own task.desk) tasks → (desk : DeskValue) → IsBack readings tasks desk → IsOneShop own desk
    one_shop own all desk (task, has, one, races, is) =
        subst (IsOneShop own) (sym is)
        (ap (λ (s : Seat). s.shop) (sym races.seat) ∙ races.drives.0.stays.follows.shop ∙ All-contains (λ (t : TaskValue C). IsOneShop own t.desk) tasks task all has)

    pub all_one_shop : (own : DeskValue) → All (λ task. IsOneShop own task.desk) tasks → All (IsOneShop own) desks
    all_one_shop own all = All-weaker (IsBack readings tasks) (IsOneShop own) (one_shop own all) desks all_back

  -- all tasks were started, and all gave their desks
  module _ (tasks : List (TaskValue C)) (tickets : List (Begun (TaskValue C) (Result RacedValue Memory))) (desks : List DeskValue) (old new : Spawning)
      (started driven : Bool) (all_started : started ≡ true) (all_driven : driven ≡ true) (starts : Starts readings tasks tickets started old new) (joins : Joins readings tickets desks driven) where
    all_begun : tasks ≡ starts.begun
    all_begun = starts.split ∙ ap (λ (l : List (TaskValue C)). starts.begun ++ l) (starts.whole all_started) ∙ append-nil starts.begun

    pub raced_all : (raced : List RacedValue) × Kept tasks raced × (desks ≡ map (λ one. one.desk) raced)
    raced_all =
        let gave = joins.given all_driven in
        (gave.0, subst (λ (l : List (TaskValue C)). Kept l gave.0) (sym all_begun) (kept_by starts.begun tickets gave.0 starts.are gave.1), gave.2)

    pub starts_all : new.starts ≡ counted (length tasks) old.starts
    starts_all = starts.starts ∙ ap (λ n. counted n old.starts) (sym (ap length all_begun))

  -- by what came of them
  pub ran_as : (own : DeskValue) (tasks : List (TaskValue C)) (old new : Spawning) (book : BookValue) (started driven : Bool)
      → (started ≡ true → driven ≡ true → AreDone readings own tasks old new book) → (started ≡ false → AreStopped readings own tasks old new book) → RanAs readings own tasks old new (ended started driven book)
  ran_as own tasks old new book true true done stopped = done refl refl
  ran_as own tasks old new book true false done stopped = tt
  ran_as own tasks old new book false driven done stopped = stopped refl
