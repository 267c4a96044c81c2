-- What served connections come to, by the stations and the close of their shop.
use Rattle.std.proofs.Common.{◌≡◌, ℕ, ◌+◌, ◌≤◌, ◌<◌, List, [], ◌++◌, map, length, get_or, Option, Some, None, refl, sym, ap, ◌∙◌, subst, arith}
use Rattle.std.specs.Prelude.{flat_map, option_map, IsSome}
use Rattle.std.specs.List.{All, Contains}
use Rattle.std.proofs.lemmas.List.{get_or-map, length-map}
use Rattle.std.proofs.lemmas.List.Elements.{All-weaker}
use Rattle.std.proofs.lemmas.Option.{get_or_from_slice_get}
use Rattle.shop_edges.specs.Links.{Links, opened as opens_port}
use Rattle.shop_history.specs.declared.acts.Entry.{Entry}
use Rattle.shop_history.specs.Logs.{entries_of}
use Rattle.shop_places.specs.Counts.{counted}
use Rattle.shop_places.specs.Listening.{Listening}
use Rattle.shop_places.specs.Outcomes.{AreDone}
use Rattle.shop_places.specs.Visits.{visits_at, went}
use Rattle.shop_turn.specs.Desks.{DeskValue, IsOneShop, marks_of, seat_of}
use Rattle.shop_turn.specs.Shops.{Outlasts, new_desk}
use Rattle.shop_engine.specs.Lists.{IsFreshPoint}
use Rattle.shop_engine.specs.Fresh.{IsFreshIn}
use Rattle.shop_engine.specs.Workers.{Standing, WorkerState}
use Rattle.shop_tasks.specs.InTurn.{Connection, ServedInTurn, made_in}
use Rattle.shop_tasks.specs.Serves.{Meanings, Serves, stands}
use Rattle.shop_tasks.specs.StationValues.{StationValue, desk_of}
use Rattle.shop_tasks.specs.Tills.{answers_of}
use Rattle.shop_tasks.proofs.cited.InTurn.{in_turn}
use Rattle.shop_words.specs.declared.command.Serve.{Serve}
use Rattle.shop_app.specs.NewShops.{first_seat_at, first_standing_at, new_book}
use Rattle.shop_app.specs.Serving.{IsFirstStation, IsServable, Listens, OpensStations, ServedBy, ServedLinks, TellsOfBook, dials, told_at_first}
use Rattle.shop_app.proofs.Closings.{IsWithinPlace, by_callers, count, desk_at, fresh_later, is_lawful, name, one_shop as one_shop_at, opened, outlasts, stamps_by as stamps_at}
use Rattle.shop_app.proofs.cited.Places.{PairAt, at_place, zip_at, zip_size}
use Rattle.shop_app.proofs.Visits.{visits_few}

module _ {C I O : Type 0} (by : Meanings C I O) (serve : Serve) (clock : Option (List ℕ)) (own : DeskValue) (firsts : List (StationValue C I O)) (opens : OpensStations by serve clock own firsts) where
  abbrev Station : Type 0
  Station = StationValue C I O

  abbrev Firsts : DeskValue → Station → Type 0
  Firsts = IsFirstStation by serve clock

  abbrev new : ℕ → DeskValue
  new = new_desk opens.opens.table (new_book serve.shop) (serve.workers + 1)

  abbrev shop : List ℕ
  shop = name serve.shop serve.workers opens.desks own opens.opens

  desks_count : length opens.desks ≡ serve.workers
  desks_count = count serve.shop serve.workers opens.desks own opens.opens

  firsts_count : length firsts ≡ serve.workers
  firsts_count = sym (zip_size Firsts opens.desks firsts opens.are) ∙ desks_count

  -- the station at a place begins at the new desk with its number
  first_at : (k : ℕ) (station : Station) → k < serve.workers → Firsts (new (k + 1)) (get_or firsts k station)
  first_at k station within =
      let pair : PairAt Firsts opens.desks firsts k = zip_at Firsts opens.desks firsts k opens.are (omega (arith, within, desks_count)) in
      let desk : pair.0 ≡ new (k + 1) =
      sym (get_or_from_slice_get opens.desks k pair.0 pair.0 pair.2) ∙ desk_at serve.shop serve.workers opens.desks own opens.opens k pair.0 within in
      subst (Firsts (new (k + 1))) (sym (get_or_from_slice_get firsts k pair.1 station pair.3)) (subst (λ (d : DeskValue). Firsts d pair.1) desk pair.4)

  desk_is : (k : ℕ) (station : Station) → k < serve.workers → desk_of (get_or firsts k station) ≡ new (k + 1)
  desk_is k station within = ap (λ (w : WorkerState DeskValue). w.store) (first_at k station within).worker

  first_shop : (k : ℕ) (station : Station) → k < serve.workers → IsOneShop own (desk_of (get_or firsts k station))
  first_shop k station within = one_shop_at serve.shop serve.workers opens.desks own opens.opens (desk_of (get_or firsts k station)) (k + 1) (desk_is k station within)

  -- where the station at a place stands before its first connection
  begins_at : (k : ℕ) (station : Station) → k < serve.workers → stands by (get_or firsts k station) ≡ first_standing_at shop serve.shop (k + 1) clock (told_at_first serve.gateway)
  unfolding first_seat_at new_book
  begins_at k station within =
      let first = first_at k station within in
      λ i. record {
        caller = (first.worker i).caller;
        progress = (first.worker i).progress;
        kept = (first.worker i).kept;
        seat = seat_of (first.worker i).store;
        clock = first.clock_is i;
        told = first.told i;
      }

  module _ (lasts : List Station) (start before after : Listening I O) (done : AreDone (Serves by) serve.connections 0 firsts lasts before after) where
    abbrev visits_of_place : ℕ → List (Connection C I O)
    visits_of_place k = visits_at k done.visits

    lasts_count : length lasts ≡ serve.workers
    lasts_count = done.are.size ∙ firsts_count

    turn : (k : ℕ) (first last : Station) → k < serve.workers → ServedInTurn by (get_or firsts k first) (visits_of_place k) (get_or lasts k last)
    turn k first last within = in_turn by (get_or firsts k first) (visits_of_place k) (get_or lasts k last) (done.are.chains k first last (omega (arith, within, lasts_count)))

    -- all stations are at desks of one shop
    pub one_shop : All (λ station. IsOneShop own (desk_of station)) lasts
    one_shop k other within =
        let fits : k < serve.workers = omega (arith, within, lasts_count) in
        (turn k other other fits).stays.follows.shop ∙ first_shop k other fits

    module _ (fits : IsServable serve) (listens : Listens (dials serve.gateway serve.workers) start before) (lines : List ℕ) (tells : TellsOfBook serve.workers own lasts lines) where
      abbrev backs : List DeskValue
      backs = map desk_of lasts

      backs_size : length backs ≡ serve.workers
      backs_size = length-map lasts desk_of ∙ lasts_count

      back_is : (k : ℕ) (last : Station) (desk : DeskValue) → k < serve.workers → get_or backs k desk ≡ desk_of (get_or lasts k last)
      back_is k last desk within = get_or-map desk_of lasts k last desk (omega (arith, within, lasts_count))

      number_at : (k : ℕ) (first last : Station) → k < serve.workers → (desk_of (get_or lasts k last)).number ≡ k + 1
      number_at k first last within = (turn k first last within).stays.follows.caller ∙ ap (λ (d : DeskValue). d.number) (desk_is k first within)

      -- a station that is there
      some : (k : ℕ) → k < serve.workers → Station
      some k within = (zip_at Firsts opens.desks firsts k opens.are (omega (arith, within, desks_count))).1

      numbers : (k : ℕ) (desk : DeskValue) → k < serve.workers → (get_or backs k desk).number ≡ k + 1
      numbers k desk within = let s = some k within in ap (λ (d : DeskValue). d.number) (back_is k s desk within) ∙ number_at k s s within

      abbrev own_told : Station → Type 0
      own_told station = answers_of station.till ≡ Some []

      served_by : (k : ℕ) (first last : Station) → k < serve.workers → ServedBy by serve clock shop tells.book.log (k + 1) (get_or firsts k first) (visits_of_place k) (get_or lasts k last)
      unfolding first_seat_at
      served_by k first last within =
          let t = turn k first last within in
          let began : Station = get_or firsts k first in
          let ended : Station = get_or lasts k last in
          let desk : DeskValue = desk_of ended in
          let begins = begins_at k first within in
          let log : List Entry = tells.book.log in
          let outlives : Outlasts log desk = subst (Outlasts log) (back_is k last desk within)
          (outlasts serve.shop serve.workers opens.desks own opens.opens backs tells.book tells.closes backs_size numbers k desk within) in
          let untold : serve.gateway ≡ 0 → own_told began = λ zero. (first_at k first within).told ∙ ap told_at_first zero in
          let none : began.worker.progress.accepted ≡ 0 = ap (λ (s : Standing). s.progress.accepted) begins in
          let unseen : entries_of (stands by began).seat.caller (stands by began).seat.seen ≡ [] = ap (λ (s : Standing). entries_of s.seat.caller s.seat.seen) begins in
          record {
            begins = begins;
            turn = t;
            grows = outlives.grows;
            made = ap (λ n. entries_of n log) (sym (number_at k first last within)) ∙ outlives.mine ∙ t.stays.mine ∙ ap (λ (es : List Entry). es ++ flat_map made_in t.accounts) unseen;
            fresh = All-weaker (λ (v : Connection C I O). All (IsFreshPoint (marks_of desk) (stands by ended).seat.seen) v.report.points) (λ (v : Connection C I O). All (IsFreshIn log) v.report.points)
                (λ v. fresh_later (stands by ended).seat (marks_of desk) log v.report.points outlives.marks) (visits_of_place k) t.fresh;
            unfailing = λ zero. t.unfailing (subst IsSome (sym (untold zero)) refl);
            verdicts = λ zero. t.verdicts (untold zero)
                (omega (arith, none, fits.connections, visits_few (Serves by) firsts lasts done.pairs done.visits serve.connections done.are k));
          }

      abbrev IsOfPlace : ℕ → Type 0
      IsOfPlace = IsWithinPlace serve.shop serve.workers opens.desks own opens.opens backs tells.book tells.closes backs_size numbers

      abbrev IsWithinLast : ℕ → Type 0
      IsWithinLast stamp = (last : Station) × Contains lasts last × (stamp ≤ last.worker.progress.last)

      stamp_of : (stamp : ℕ) → IsOfPlace stamp → IsWithinLast stamp
      unfolding first_seat_at
      stamp_of stamp (k, within, no_later) =
          let s = some k within in
          let last : Station = get_or lasts k s in
          let here : k < length lasts = omega (arith, within, lasts_count) in
          let t = turn k s s within in
          let none : (stands by (get_or firsts k s)).seat.greatest ≡ 0 = ap (λ (x : Standing). x.seat.greatest) (begins_at k s within) in
          let most : (seat_of (get_or backs k (desk_of last))).greatest ≡ (seat_of (desk_of last)).greatest = ap (λ (d : DeskValue). (seat_of d).greatest) (back_is k s (desk_of last) within) in
          (last, (k, here, at_place lasts k last s here), omega (arith, no_later (desk_of last), most, none, t.stays.greatest))

      links_are : after.links ≡ option_map (λ (l : Links I O). went done.pairs done.visits (opens_port l)) start.links
      links_are = done.links ∙ ap (option_map (went done.pairs done.visits)) listens.links ∙ both start.links
        where
          both : (links : Option (Links I O)) → option_map (went done.pairs done.visits) (option_map opens_port links) ≡ option_map (λ (l : Links I O). went done.pairs done.visits (opens_port l)) links
          both None = refl
          both (Some l) = refl

      pub served_links : ServedLinks by serve clock start after lines
      served_links = record {
        book = tells.book;
        opened_at = opened serve.shop serve.workers opens.desks own opens.opens backs tells.book tells.closes backs_size numbers;
        lawful = is_lawful serve.shop serve.workers opens.desks own opens.opens backs tells.book tells.closes backs_size numbers;
        callers = by_callers serve.shop serve.workers opens.desks own opens.opens backs tells.book tells.closes backs_size numbers;
        pairs = done.pairs;
        visits = done.visits;
        firsts = firsts;
        lasts = lasts;
        served = done.are;
        links = links_are;
        shop = shop;
        each = served_by;
        stamps = All-weaker (λ (e : Entry). IsOfPlace e.stamp) (λ (e : Entry). IsWithinLast e.stamp) (λ e is. stamp_of e.stamp is) tells.book.log
            (stamps_at serve.shop serve.workers opens.desks own opens.opens backs tells.book tells.closes backs_size numbers);
        accepted = done.accepted ∙ (λ i. counted (sum i) (listens.accepted i));
        dialled = done.dialled ∙ listens.dialled;
        printed = tells.printed;
      }
        where
          sum : serve.connections + 0 ≡ serve.connections
          sum = omega arith
