-- How turns went.
use Rattle.std.specs.Prelude.{min, Bool, true, false, not, List, length, count_by}
use Rattle.shop_attempt.specs.Seats.{last_count}
use Rattle.shop_edges.specs.Causes.{count_up}
use Rattle.shop_drive.specs.declared.tally.Tally.{Tally}
use Rattle.shop_drive.specs.Turns.{Turn, is_page}

-- the requests, those that got a page with status 200, and the others
abbrev pub tally_of : List Turn → Tally
tally_of turns = record {
  requests = min (length turns) last_count;
  pages = min (count_by (λ t. is_page t.step.reply) turns) last_count;
  refused = min (count_by (λ t. not (is_page t.step.reply)) turns) last_count;
}

abbrev pub no_requests : Tally
no_requests = record { requests = 0; pages = 0; refused = 0 }

-- after one request more
abbrev pub counted : Tally → Bool → Tally
counted tally true = record { requests = count_up tally.requests; pages = count_up tally.pages; refused = tally.refused }
counted tally false = record { requests = count_up tally.requests; pages = tally.pages; refused = count_up tally.refused }
