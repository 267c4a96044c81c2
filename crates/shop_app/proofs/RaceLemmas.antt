-- What a race comes to, by its tasks and the close of their shop.
use Rattle.std.proofs.Common.{◌≡◌, ℕ, ◌+◌, ◌-◌, ◌≤◌, ◌<◌, List, [], ◌∷◌, ◌++◌, map, length, get_or, slice_get, Option, Some, refl, sym, ap, ◌∙◌, subst, arith, append_assoc, append-nil}
use Rattle.std.specs.Prelude.{flat_map}
use Rattle.std.specs.List.{All, concat, range_with_len}
use Rattle.std.proofs.lemmas.List.Folds.{concat-append}
use Rattle.std.proofs.lemmas.List.FromFn.{map-range_with_len_more}
use Rattle.std.proofs.lemmas.List.{get_or-map, length-map}
use Rattle.std.proofs.lemmas.List.Elements.{All-weaker}
use Rattle.std.proofs.lemmas.Option.{get_or_from_slice_get}
use Rattle.shop_log.specs.Histories.{Extends}
use Rattle.shop_edges.specs.Starts.{Spawning}
use Rattle.shop_edges.specs.declared.gateway.Answer.{Answer}
use Rattle.shop_gateway.specs.Verdicts.{AreVerdicts}
use Rattle.shop_gateway.proofs.cited.Verdicts.{all_first}
use Rattle.shop_history.specs.declared.acts.Entry.{Entry}
use Rattle.shop_history.specs.Logs.{entries_of}
use Rattle.shop_attempt.specs.Seats.{Seat, last_count}
use Rattle.shop_book.specs.Books.{BookValue}
use Rattle.shop_turn.specs.Views.{opening_view}
use Rattle.shop_turn.specs.Desks.{DeskValue, IsOneShop, marks_of, seat_of, shop_name}
use Rattle.shop_turn.specs.Shops.{Outlasts, new_desk}
use Rattle.shop_engine.specs.Workers.{at_first}
use Rattle.shop_drive.specs.Drives.{AreFresh, Drove, greatest_moment, points_of}
use Rattle.shop_drive.specs.Turns.{Stage, Turn}
use Rattle.shop_drive.proofs.cited.Charges.{charges_apart}
use Rattle.shop_drive.proofs.cited.Failures.{never_failed}
use Rattle.shop_drive.proofs.cited.Moments.{last_of, turns_count}
use Rattle.shop_tasks.specs.TaskValues.{RacedValue, TaskValue}
use Rattle.shop_tasks.specs.Tasks.{AreDone, Races, first_stage}
use Rattle.shop_browsers.specs.Browsers.{new_browser}
use Rattle.shop_words.specs.declared.command.Race.{Race}
use Rattle.shop_app.specs.NewShops.{caller_of, first_seat_at, new_book}
use Rattle.shop_app.specs.Racing.{IsFirstTask, OpensRace, RacedBy, RacedTo, first_stage_at}
use Rattle.shop_app.specs.Summaries.{race_lines}
use Rattle.shop_app.proofs.Closings.{IsWithinPlace, by_callers, count, desk_at, fresh_later, is_lawful, one_shop as one_shop_at, opened, outlasts, stamps_by as stamps_at}
use Rattle.shop_app.proofs.cited.Places.{PairAt, same_there, zip_at, zip_size, zip_then}

abbrev desk_of : RacedValue → DeskValue
desk_of one = one.desk

module _ {C : Type 0} (readings : C → Option (List ℕ)) (race : Race) (clock : Option (List ℕ)) (own : DeskValue) (tasks : List (TaskValue C))
    (opens : OpensRace readings race clock own tasks) where
  abbrev callers : ℕ
  callers = race.workers + 1

  abbrev Firsts : DeskValue → TaskValue C → Type 0
  Firsts = IsFirstTask readings race clock

  abbrev new : ℕ → DeskValue
  new = new_desk opens.opens.table (new_book race.shop) callers

  desks_count : length opens.desks ≡ race.workers
  desks_count = count race.shop race.workers opens.desks own opens.opens

  pub tasks_count : length tasks ≡ race.workers
  tasks_count = sym (zip_size Firsts opens.desks tasks opens.tasks_are) ∙ desks_count

  new_at_place : (k : ℕ) (desk : DeskValue) → k < race.workers → slice_get opens.desks k ≡ Some desk → desk ≡ new (k + 1)
  new_at_place k desk within there = sym (get_or_from_slice_get opens.desks k desk desk there) ∙ desk_at race.shop race.workers opens.desks own opens.opens k desk within

  -- all tasks are at desks of one shop
  pub one_shop : All (λ task. IsOneShop own task.desk) tasks
  one_shop k other within =
      let fits : k < race.workers = omega (arith, within, tasks_count) in
      let pair : PairAt Firsts opens.desks tasks k = zip_at Firsts opens.desks tasks k opens.tasks_are (omega (arith, fits, desks_count)) in
      let task : get_or tasks k other ≡ pair.1 = get_or_from_slice_get tasks k pair.1 other pair.3 in
      subst (IsOneShop own) (sym (ap (λ (t : TaskValue C). t.desk) task ∙ pair.4.desk_is))
      (one_shop_at race.shop race.workers opens.desks own opens.opens pair.0 (k + 1) (new_at_place k pair.0 fits pair.2))

  module _ (old now : Spawning) (book : BookValue) (done : AreDone readings own tasks old now book) (few : race.steps ≤ last_count) where
    abbrev backs : List DeskValue
    backs = map desk_of done.raced

    abbrev Kept : TaskValue C → RacedValue → Type 0
    Kept task one = Races (first_stage readings task) task.steps one

    -- a caller's task, and what it gave
    record Racer (number : ℕ) : Type 0 where
      pub task : TaskValue C
      pub one : RacedValue
      pub at : slice_get done.raced (number - 1) ≡ Some one
      pub first : Firsts (new number) task
      pub kept : Kept task one
      pub number_is : one.desk.number ≡ number

    racer : (number : ℕ) → 1 ≤ number → number ≤ race.workers → Racer number
    racer number least most =
        let k : ℕ = number - 1 in
        let within : k < race.workers = omega (arith, least, most) in
        let here : k + 1 ≡ number = omega (arith, least) in
        let Both : DeskValue → RacedValue → Type 0 = λ desk one. (task : TaskValue C) × Firsts desk task × Kept task one in
        let pair : PairAt Both opens.desks done.raced k = zip_at Both opens.desks done.raced k (zip_then Firsts Kept opens.desks tasks done.raced opens.tasks_are done.kept) (omega (arith, within, desks_count)) in
        let first : Firsts (new number) pair.4.0 = subst (λ (d : DeskValue). Firsts d pair.4.0) (new_at_place k pair.0 within pair.2 ∙ ap new here) pair.4.1 in
        let kept : Kept pair.4.0 pair.1 = pair.4.2 in
        record {
          task = pair.4.0;
          one = pair.1;
          at = pair.3;
          first = first;
          kept = kept;
          number_is = ap (λ (s : Seat). s.caller) (sym kept.seat) ∙ kept.drives.0.stays.follows.caller ∙ ap (λ (d : DeskValue). d.number) first.desk_is;
        }

    raced_size : length done.raced ≡ race.workers
    raced_size = sym (zip_size Kept tasks done.raced done.kept) ∙ tasks_count

    backs_size : length backs ≡ race.workers
    backs_size = length-map done.raced desk_of ∙ raced_size

    back_is : (number : ℕ) (least : 1 ≤ number) (most : number ≤ race.workers) (k : ℕ) (desk : DeskValue) → k + 1 ≡ number → get_or backs k desk ≡ (racer number least most).one.desk
    back_is number least most k desk here =
        let r = racer number least most in
        let place : number - 1 ≡ k = omega (arith, here) in
        let at : slice_get done.raced k ≡ Some r.one = subst (λ n. slice_get done.raced n ≡ Some r.one) place r.at in
        get_or-map desk_of done.raced k r.one desk (omega (arith, here, most, raced_size)) ∙ ap desk_of (get_or_from_slice_get done.raced k r.one r.one at)

    numbers : (k : ℕ) (desk : DeskValue) → k < race.workers → (get_or backs k desk).number ≡ k + 1
    numbers k desk within =
        let least : 1 ≤ k + 1 = omega arith in
        let most : k + 1 ≤ race.workers = omega (arith, within) in
        ap (λ (d : DeskValue). d.number) (back_is (k + 1) least most k desk refl) ∙ (racer (k + 1) least most).number_is

    -- where a caller begins
    stage_is : (number : ℕ) (task : TaskValue C) → Firsts (new number) task
        → first_stage readings task ≡ first_stage_at (shop_name opens.opens.table (opening_view (new_book race.shop) callers).origin) race number clock
    unfolding first_seat_at new_book
    stage_is number task first = λ i. record {
      worker = record {
        caller = first.caller i;
        progress = at_first;
        kept = [];
        seat = seat_of (first.desk_is i);
        clock = first.readings_are i;
        told = Some [];
      };
      browsers = new_browser (first.caller i).seed (first.caller i).number (first.mix_is i) (first.caller i).scale ∷ [];
      failures = 0;
    }

    raced_by : (number : ℕ) → 1 ≤ number → number ≤ race.workers → RacedBy race clock book.log number
    unfolding first_seat_at
    raced_by number least most =
        let r = racer number least most in
        let k : ℕ = number - 1 in
        let shop = shop_name opens.opens.table (opening_view (new_book race.shop) callers).origin in
        let after : Stage = r.kept.after in
        let begins : Stage = first_stage_at shop race number clock in
        let marked : ℕ → ℕ → Type 0 = marks_of r.one.desk in
        let moved : (drove : Drove begins after race.steps r.one.tally) × AreFresh marked after drove.turns
        = subst (λ (s : Stage × ℕ). (drove : Drove s.0 after s.1 r.one.tally) × AreFresh marked after drove.turns) (λ i. (stage_is number r.task r.first i, r.first.steps_are i)) r.kept.drives in
        let drove : Drove begins after race.steps r.one.tally = moved.0 in
        let answers : List Answer = flat_map (λ (t : Turn). t.step.answers) drove.turns in
        let told : r.kept.answers ≡ answers = same_there r.kept.told (drove.asked.told [] refl) in
        let fits : begins.worker.progress.accepted + length drove.turns ≤ last_count = omega (arith, turns_count drove.turns race.steps drove.order, few) in
        let seen : after.worker.seat.seen ≡ r.one.desk.seen = ap (λ (s : Seat). s.seen) r.kept.seat in
        let caller : after.worker.seat.caller ≡ r.one.desk.number = ap (λ (s : Seat). s.caller) r.kept.seat in
        let outlives : Outlasts book.log r.one.desk = subst (Outlasts book.log) (back_is number least most k r.one.desk (omega (arith, least)))
        (outlasts race.shop race.workers opens.desks own opens.opens backs book done.closes backs_size numbers k r.one.desk (omega (arith, least, most))) in
        record {
          shop = shop;
          after = after;
          tally = r.one.tally;
          drove = drove;
          grows = subst (λ (l : List Entry). Extends l book.log) (sym seen) outlives.grows;
          made = ap (λ n. entries_of n book.log) (sym r.number_is) ∙ outlives.mine ∙ (λ i. entries_of (sym caller i) (sym seen i)) ∙ drove.stays.mine;
          fresh = fresh_later after.worker.seat marked book.log (points_of drove.turns) outlives.marks moved.1;
          unfailing = never_failed begins after drove.turns drove.run r.kept.unfailing;
          verdicts = all_first answers (subst (AreVerdicts []) told r.kept.verdicts)
              (λ a b has has' keys. charges_apart begins after drove.turns drove.run fits a b has has' (ap (λ (k : ℕ × ℕ × ℕ). k.1) keys) (ap (λ (k : ℕ × ℕ × ℕ). k.2) keys));
        }

    -- moments at a caller's desk are no later than those of its answers
    settled_by : (number : ℕ) (least : 1 ≤ number) (most : number ≤ race.workers) → (seat_of (racer number least most).one.desk).greatest ≤ greatest_moment (points_of (raced_by number least most).drove.turns)
    unfolding first_seat_at raced_by racer
    settled_by number least most =
        let r = racer number least most in
        let by = raced_by number least most in
        let greatest : by.after.worker.seat.greatest ≡ (seat_of r.one.desk).greatest = ap (λ (s : Seat). s.greatest) r.kept.seat in
        omega (arith, greatest, by.drove.stays.greatest, last_of _ by.after by.drove.turns by.drove.run)

    abbrev IsOfPlace : ℕ → Type 0
    IsOfPlace = IsWithinPlace race.shop race.workers opens.desks own opens.opens backs book done.closes backs_size numbers

    -- so is a stamp no later than that of some answer
    stamp_of : (stamp : ℕ) → IsOfPlace stamp → (number : ℕ) × (least : 1 ≤ number) × (most : number ≤ race.workers) × (stamp ≤ greatest_moment (points_of (raced_by number least most).drove.turns))
    stamp_of stamp (k, within, no_later) =
        let least : 1 ≤ k + 1 = omega arith in
        let most : k + 1 ≤ race.workers = omega (arith, within) in
        let desk : DeskValue = (racer (k + 1) least most).one.desk in
        let here : (seat_of (get_or backs k desk)).greatest ≡ (seat_of desk).greatest = ap (λ (d : DeskValue). (seat_of d).greatest) (back_is (k + 1) least most k desk refl) in
        (k + 1, least, most, omega (arith, no_later desk, here, settled_by (k + 1) least most))

    pub raced_to : (lines : List ℕ) → lines ≡ race_lines race.workers book → RacedTo race clock lines
    raced_to lines printed = record {
      book = book;
      opened = opened race.shop race.workers opens.desks own opens.opens backs book done.closes backs_size numbers;
      lawful = is_lawful race.shop race.workers opens.desks own opens.opens backs book done.closes backs_size numbers;
      callers = by_callers race.shop race.workers opens.desks own opens.opens backs book done.closes backs_size numbers;
      each = raced_by;
      stamps = All-weaker (λ (e : Entry). IsOfPlace e.stamp) _ (λ e is. stamp_of e.stamp is) book.log
          (stamps_at race.shop race.workers opens.desks own opens.opens backs book done.closes backs_size numbers);
      printed = printed;
    }

-- the task of a desk
pub first_task : {C : Type 0} (readings : C → Option (List ℕ)) (race : Race) (clock : Option (List ℕ)) (desk : DeskValue) (number : ℕ) (task : TaskValue C) (twin : C)
    → task ≡ record { desk = desk; clock = twin; caller = caller_of race.shop number; mix = race.mix; steps = race.steps } → desk.number ≡ number → readings twin ≡ clock → IsFirstTask readings race clock desk task
first_task readings race clock desk number task twin is same told = record {
  desk_is = ap (λ (t : TaskValue _). t.desk) is;
  caller = ap (λ (t : TaskValue _). t.caller) is ∙ ap (caller_of race.shop) (sym same);
  readings_are = ap (λ (t : TaskValue _). readings t.clock) is ∙ told;
  mix_is = ap (λ (t : TaskValue _). t.mix) is;
  steps_are = ap (λ (t : TaskValue _). t.steps) is;
}

-- a line more
pub line_more : (front old new line : List ℕ) (of : ℕ → List ℕ) (count : ℕ) → old ≡ front ++ concat (map of (range_with_len 1 count)) → new ≡ old ++ line → line ≡ of (count + 1)
    → new ≡ front ++ concat (map of (range_with_len 1 (count + 1)))
line_more front old new line of count was added is =
    added ∙ (λ i. was i ++ is i)
    ∙ append_assoc front (concat (map of (range_with_len 1 count))) (of (count + 1))
    ∙ ap (λ (l : List ℕ). front ++ (concat (map of (range_with_len 1 count)) ++ l)) (sym (append-nil (of (count + 1))))
    ∙ ap (λ (l : List ℕ). front ++ l) (sym (concat-append (map of (range_with_len 1 count)) (of (count + 1) ∷ [])))
    ∙ ap (λ (ls : List (List ℕ)). front ++ concat ls) (sym (map-range_with_len_more of 1 count (count + 1) (omega arith)))
