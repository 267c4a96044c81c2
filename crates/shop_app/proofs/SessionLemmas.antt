-- The status of a session by the end of its connection.
use Rattle.std.proofs.Common.{◌≡◌, ℕ, ◌≤◌, inl, inr, List, [], map, Option, subst, refl, sym, ap, ◌∙◌, arith, All}
use Rattle.std.specs.Prelude.{flat_map}
use Rattle.shop_edges.specs.Causes.{Rose}
use Rattle.shop_edges.specs.declared.gateway.Answer.{Answer}
use Rattle.shop_model.specs.declared.tables.Tables.{Tables}
use Rattle.shop_model.specs.lists.Catalogues.{Catalogue, opened}
use Rattle.shop_model.specs.population.Population.{populated}
use Rattle.shop_history.specs.declared.acts.Entry.{Entry}
use Rattle.shop_history.specs.Lawful.{IsLawful}
use Rattle.shop_attempt.specs.Seats.{IsSeat}
use Rattle.shop_book.specs.Books.{BookValue}
use Rattle.shop_book.specs.Solos.{SoloValue, seated, seat_of}
use Rattle.shop_engine.specs.declared.report.Ended.{Ended}
use Rattle.shop_engine.specs.declared.report.Ended.TheVariants as ended
use Rattle.shop_engine.specs.declared.report.Point.{Point}
use Rattle.shop_engine.specs.Failures.{RoseBy, failures}
use Rattle.shop_engine.specs.Fresh.{IsFreshIn}
use Rattle.shop_engine.specs.Served.{Served}
use Rattle.shop_engine.specs.Steps.{Step}
use Rattle.shop_engine.specs.Workers.{Standing, WorkerState, at_first, standing}
use Rattle.shop_engine.specs.Posts.{IsPosted}
use Rattle.shop_words.specs.declared.command.Session.{Session}
use Rattle.shop_app.specs.Outside.{Run}
use Rattle.shop_app.specs.Session.{IsFirst, IsSession, ServedTo, first_caller, first_seat, first_standing}
use Rattle.shop_app.specs.Statuses.{status_of}
use Rattle.shop_app.proofs.cited.Alone.{IsAlone, all_at_once, log_made, none_later, opening_same, stamps_are}

pub standing_first : (session : Session) (worker : WorkerState SoloValue) (clock : Option (List ℕ)) (told : Option (List Answer)) → IsFirst session worker
    → standing seat_of worker clock told ≡ first_standing session clock told
standing_first session worker clock told first =
    ap (λ c. record { caller = c; progress = worker.progress; kept = worker.kept; seat = seat_of worker.store; clock = clock; told = told }) first.caller
    ∙ ap (λ p. record { caller = first_caller session; progress = p; kept = worker.kept; seat = seat_of worker.store; clock = clock; told = told }) first.progress
    ∙ ap (λ k. record { caller = first_caller session; progress = at_first; kept = k; seat = seat_of worker.store; clock = clock; told = told }) first.kept
    ∙ ap (λ s. record { caller = first_caller session; progress = at_first; kept = []; seat = s; clock = clock; told = told }) first.seat

-- a session whose worker was the first one, and whose connection was served to an end
module _ (session : Session) (before after : Standing) (old new : Run) (points : List Point) (is_first : before ≡ first_standing session old.outside.clock old.outside.told) (clock : after.clock ≡ new.outside.clock)
    (told : after.told ≡ new.outside.told) (failed : RoseBy old.outside.failures (failures points) new.outside.failures) (kept : old.outside.failures ≤ new.outside.failures) (lawful : IsLawful after.seat.opening after.seat.seen) (fresh : All (IsFreshIn after.seat.seen) points) where
  served_to : (end : Ended) → Served before after old.streams new.streams end points → ServedTo session old new end
  unfolding first_seat
  served_to end given =
      let served : Served (first_standing session old.outside.clock old.outside.told) after old.streams new.streams end points = rw is_first at given in
      let alone : IsAlone 0 (first_standing session old.outside.clock old.outside.told) = record { stamp = 0; latest = refl; since = omega arith; within = omega arith } in
      let log : after.seat.seen ≡ flat_map (λ (s : Step). s.made) served.steps = log_made 0 (first_standing session old.outside.clock old.outside.told) after old.streams new.streams end points served alone in
      record {
        points = points;
        after = after;
        served = served;
        clock = clock;
        told = told;
        failed = failed;
        kept = kept;
        alone = all_at_once 0 (first_standing session old.outside.clock old.outside.told) after old.streams new.streams end points served alone;
        lawful = subst (λ (t : Tables). IsLawful t after.seat.seen) (opening_same 0 (first_standing session old.outside.clock old.outside.told) after old.streams new.streams end points served alone) lawful;
        fresh = fresh;
        log = log;
        stamps = ap (map (λ (e : Entry). e.stamp)) log ∙ stamps_are 0 (first_standing session old.outside.clock old.outside.told) after old.streams new.streams end points served alone ∙ none_later _;
      }

  pub session-by-end : (end : Ended) → Served before after old.streams new.streams end points
      → (end ≡ ended.ReadFault → Rose old.reads new.reads) → (end ≡ ended.WriteFault → Rose old.writes new.writes) → IsSession session old new (status_of end)
  session-by-end ended.Closed served read write = inl (served_to ended.Closed served)
  session-by-end ended.Asked served read write = inr (served_to ended.Asked served)
  session-by-end ended.Cut served read write = inl (served_to ended.Cut served)
  session-by-end (ended.Refused status) served read write = inr (inl (status, served_to (ended.Refused status) served))
  session-by-end ended.Spent served read write = inr (inr (served_to ended.Spent served))
  session-by-end ended.ReadFault served read write = (read refl, served_to ended.ReadFault served)
  session-by-end ended.WriteFault served read write = (write refl, served_to ended.WriteFault served)
  session-by-end ended.Memory served read write = inr (served_to ended.Memory served)

-- a new seat over a new book of the session's shop is the first seat, and its caller is posted there
module _ (session : Session) (t : Tables) (solo : SoloValue) (book : BookValue) (is_solo : solo ≡ seated book 1)
    (is_book : book ≡ record { opening = record { tables = t; limit = session.limit }; log = []; latest = 0 }) (is_drawn : t ≡ populated session.seed session.scale) where
  solo_is : solo ≡ seated (record { opening = record { tables = populated session.seed session.scale; limit = session.limit }; log = []; latest = 0 }) 1
  solo_is = is_solo ∙ ap (λ (b : BookValue). seated b 1) (is_book ∙ ap (λ (u : Tables). record { opening = record { tables = u; limit = session.limit }; log = []; latest = 0 }) is_drawn)

  pub posted : (index : Catalogue) → index ≡ opened t → IsSeat (seat_of solo) → IsPosted (seat_of solo) index (record { number = 1; seed = session.seed; scale = session.scale })
  posted index is_index valid =
      subst (λ (s : SoloValue). IsPosted (seat_of s) index (record { number = 1; seed = session.seed; scale = session.scale })) (sym solo_is)
      (record {
        valid = subst (λ (s : SoloValue). IsSeat (seat_of s)) solo_is valid;
        number = refl;
        named = is_index ∙ ap opened is_drawn;
      })

  pub is_first : (worker : WorkerState SoloValue) → worker ≡ record { store = solo; caller = record { number = 1; seed = session.seed; scale = session.scale }; progress = at_first; kept = []; reply = [] } → IsFirst session worker
  unfolding first_caller first_seat
  is_first worker is = record {
    caller = ap (λ (w : WorkerState SoloValue). w.caller) is;
    progress = ap (λ (w : WorkerState SoloValue). w.progress) is;
    kept = ap (λ (w : WorkerState SoloValue). w.kept) is;
    seat = ap (λ (w : WorkerState SoloValue). seat_of w.store) is ∙ ap seat_of solo_is;
  }
