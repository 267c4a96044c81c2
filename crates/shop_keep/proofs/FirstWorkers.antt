-- A worker over the log that a file has.
use Rattle.std.proofs.Common.{◌≡◌, ℕ, List, [], refl, sym, ◌∙◌, ap, subst, arith}
use Rattle.std.proofs.lemmas.List.{length-take}
use Rattle.shop_log.proofs.cited.Legality.{legal_front}
use Rattle.shop_model.specs.declared.tables.Tables.{Tables}
use Rattle.shop_model.specs.lists.Catalogues.{Catalogue, opened}
use Rattle.shop_model.specs.population.Population.{populated}
use Rattle.shop_history.specs.declared.acts.Entry.{Entry}
use Rattle.shop_history.specs.Logs.{MayFollow}
use Rattle.shop_attempt.specs.Seats.{IsSeat}
use Rattle.shop_book.specs.declared.opening.Opening.{Opening}
use Rattle.shop_book.specs.Books.{BookValue}
use Rattle.shop_book.specs.Solos.{SoloValue, seat_of, seated}
use Rattle.shop_replay.specs.Replays.{IsFirstIllegal, IsLog, book_of}
use Rattle.shop_engine.specs.Posts.{IsPosted}
use Rattle.shop_engine.specs.Workers.{WorkerState, at_first}
use Rattle.shop_words.specs.declared.command.Session.{Session}
use Rattle.shop_app.specs.Session.{first_caller}
use Rattle.shop_keep.specs.Files.{opening_of}
use Rattle.shop_keep.specs.Workers.{IsKeptFirst, kept_seat}

-- a log of which a front is none is none
pub none_of : (opening : Opening) (entries : List Entry) (number : ℕ) → IsFirstIllegal opening entries number → IsLog opening entries → ⊥
none_of opening entries number illegal log =
    illegal.with_it (record { legal = legal_front (MayFollow opening.tables) entries log.legal number; short = omega (arith, log.short, illegal.within, length-take number entries) })

-- over tables that are the population of the shop
module _ (session : Session) (t : Tables) (is_drawn : t ≡ populated session.seed session.scale) where
  same_opening : record { tables = t; limit = session.limit } ≡ opening_of session
  same_opening = ap (λ (u : Tables). record { tables = u; limit = session.limit }) is_drawn

  pub log_of : (entries : List Entry) → IsLog (record { tables = t; limit = session.limit }) entries → IsLog (opening_of session) entries
  log_of entries log = subst (λ (o : Opening). IsLog o entries) same_opening log

  pub no_log : (entries : List Entry) (number : ℕ) → IsFirstIllegal (record { tables = t; limit = session.limit }) entries number → IsLog (opening_of session) entries → ⊥
  no_log entries number illegal log =
      none_of (record { tables = t; limit = session.limit }) entries number illegal (subst (λ (o : Opening). IsLog o entries) (sym same_opening) log)

  module _ (first : List Entry) (solo : SoloValue) (book : BookValue) (is_solo : solo ≡ seated book 1) (is_book : book ≡ book_of (record { tables = t; limit = session.limit }) first) where
    solo_is : solo ≡ seated (book_of (opening_of session) first) 1
    solo_is = is_solo ∙ ap (λ (b : BookValue). seated b 1) (is_book ∙ ap (λ (o : Opening). book_of o first) same_opening)

    pub posted : (index : Catalogue) → index ≡ opened t → IsSeat (seat_of solo) → IsPosted (seat_of solo) index (record { number = 1; seed = session.seed; scale = session.scale })
    posted index is_index valid =
        subst (λ (s : SoloValue). IsPosted (seat_of s) index (record { number = 1; seed = session.seed; scale = session.scale })) (sym solo_is)
        (record {
          valid = subst (λ (s : SoloValue). IsSeat (seat_of s)) solo_is valid;
          number = refl;
          named = is_index ∙ ap opened is_drawn;
        })

    pub is_first : (worker : WorkerState SoloValue) → worker ≡ record { store = solo; caller = record { number = 1; seed = session.seed; scale = session.scale }; progress = at_first; kept = []; reply = [] }
        → IsKeptFirst session first worker
    unfolding first_caller kept_seat
    is_first worker is = record {
      caller = ap (λ (w : WorkerState SoloValue). w.caller) is;
      progress = ap (λ (w : WorkerState SoloValue). w.progress) is;
      kept = ap (λ (w : WorkerState SoloValue). w.kept) is;
      seat = ap (λ (w : WorkerState SoloValue). seat_of w.store) is ∙ ap seat_of solo_is;
    }
