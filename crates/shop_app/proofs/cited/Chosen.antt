-- What words may ask for, and that a shop may open so.
use Rattle.std.proofs.Common.{◌≡◌, ⊎_elim, ℕ, ◌+◌, ◌≤◌, List, length, Some, arith}
use Rattle.shop_model.specs.declared.tables.Tables.{Tables}
use Rattle.shop_model.specs.rows.Sound.{Room, Sound}
use Rattle.shop_history.proofs.cited.GoodTables.{room_less}
use Rattle.shop_book.specs.Openings.{IsOpening, most_entries}
use Rattle.shop_text.specs.Numbers.{number_of}
use Rattle.shop_words.specs.declared.command.Race.{Race}
use Rattle.shop_words.specs.declared.command.Serve.{Serve}
use Rattle.shop_words.specs.Commands.{IsRace, IsServe}
use Rattle.shop_words.specs.Values.{steps_of}
use Rattle.shop_words.proofs.cited.Chosen.{chosen_is, connections_chosen, limit_chosen, within_is, workers_chosen}
use Rattle.shop_app.specs.Racing.{IsWithin}
use Rattle.shop_app.specs.Serving.{IsServable}

pub within_words : (words : List (List ℕ)) (race : Race) → IsRace words race → IsWithin race
within_words words race is =
    let workers = workers_chosen 2 _ race.workers (omega arith) (omega arith) is.chooses.workers in
    let steps : race.steps ≤ 100_000 = ⊎_elim
    (λ (hundred : race.steps ≡ 100). omega (arith, hundred))
    (λ (given : (text : List ℕ) × (steps_of text ≡ Some race.steps)). (within_is 1 100_000 (number_of given.0) race.steps given.1).1)
    (chosen_is steps_of 100 _ race.steps is.chooses.workload.steps) in
    record { one = workers.0; workers = workers.1; steps = steps; limit = limit_chosen _ race.shop is.chooses.workload.shop }

pub servable_words : (words : List (List ℕ)) (serve : Serve) → IsServe words serve → IsServable serve
servable_words words serve is =
    let workers = workers_chosen 4 _ serve.workers (omega arith) (omega arith) is.chooses.workers in
    record { one = workers.0; workers = workers.1; connections = connections_chosen _ serve.connections is.chooses.connections; limit = limit_chosen _ serve.shop is.chooses.shop }

-- so a book opens over a population
pub opens_at : (t : Tables) (limit : ℕ) → limit ≤ most_entries → Sound t → Room t 1_000_001 → t.born_orders ≡ length t.orders → t.born_items ≡ length t.items → IsOpening (record { tables = t; limit = limit })
opens_at t limit most sound room born born_items = record {
  good = record { sound = sound; room_for = room_less t 1_000_001 (limit + 1) (omega (arith, most)) room };
  born = born;
  born_items = born_items;
  bound = most;
}
