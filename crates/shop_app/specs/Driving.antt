-- What a drive does, by its status.
use Rattle.std.specs.Prelude.{◌≡◌, ◌≤◌, ◌⊎◌, ℕ, List, [], map, All, Option, Some}
use Rattle.std.specs.List.{flat_map, range_with_len}
use Rattle.std.specs.Io.KnownBytes.{Appends}
use Rattle.shop_edges.specs.Causes.{Rose}
use Rattle.shop_edges.specs.Gateways.{Answered}
use Rattle.shop_edges.specs.Streams.{AppendsFront}
use Rattle.shop_edges.specs.declared.gateway.Answer.{Answer}
use Rattle.shop_gateway.specs.Notes.{firsts}
use Rattle.shop_model.specs.population.Population.{populated}
use Rattle.shop_history.specs.Lawful.{IsLawful}
use Rattle.shop_book.specs.Books.{BookValue}
use Rattle.shop_browsers.specs.Browsers.{BrowserState, new_browser}
use Rattle.shop_engine.specs.Fresh.{IsFreshIn}
use Rattle.shop_engine.specs.Steps.{plain_point}
use Rattle.shop_drive.specs.declared.tally.Tally.{Tally}
use Rattle.shop_drive.specs.Drives.{Drove, StoppedAmid, points_of}
use Rattle.shop_drive.specs.Turns.{Stage}
use Rattle.shop_words.specs.declared.command.Drive.{Drive}
use Rattle.shop_app.specs.declared.status.Status.{Status}
use Rattle.shop_app.specs.declared.status.Status.TheVariants as status
use Rattle.shop_app.specs.Outside.{Outside, Run}
use Rattle.shop_app.specs.Session.{IsAtOnce, first_standing, moments_of}
use Rattle.shop_app.specs.Summaries.{drive_lines}

-- the browsers that the words name, from number 1 on; none made a request yet
abbrev pub first_browsers : Drive → List BrowserState
first_browsers drive = map (λ n. new_browser drive.shop.seed n drive.mix drive.shop.scale) (range_with_len 1 drive.browsers)

-- where they and their worker stand before they are driven; no answer of the gateway was noted yet
abbrev pub first_stage : Drive → Option (List ℕ) → ℕ → Stage
first_stage drive clock failures =
    record { worker = first_standing drive.shop clock (Some []); browsers = first_browsers drive; failures = failures }

-- the browsers took all their turns over the shop of the words: no settle was stale, the log is lawful, and it is what
-- the changes made, each with its moment as its stamp; each list that was kept is fresh of it. The lines tell how the requests went, what the log came to, and
-- how many charges were approved in these turns for which no order came
pub record DroveTo (drive : Drive) (old new : Outside) (lines : List ℕ) : Type 0 where
  pub after : Stage
  pub tally : Tally
  pub drove : Drove (first_stage drive old.clock old.failures) after drive.steps tally
  pub clock : after.worker.clock ≡ new.clock
  pub failed : after.failures ≡ new.failures
  pub kept : old.failures ≤ new.failures
  pub told : Answered old.told new.told (flat_map (λ t. t.step.answers) drove.turns)
  pub alone : All (λ p. (p ≡ plain_point) ⊎ IsAtOnce p) (points_of drove.turns)
  pub lawful : IsLawful (populated drive.shop.seed drive.shop.scale) after.worker.seat.seen
  pub log : after.worker.seat.seen ≡ flat_map (λ t. t.step.made) drove.turns
  pub fresh : All (IsFreshIn after.worker.seat.seen) (points_of drove.turns)
  pub stamps : map (λ e. e.stamp) after.worker.seat.seen ≡ moments_of (points_of drove.turns)
  pub book : BookValue
  pub opened : book.opening.tables ≡ populated drive.shop.seed drive.shop.scale
  pub entries : book.log ≡ after.worker.seat.seen
  pub printed : lines ≡ drive_lines tally (firsts (flat_map (λ t. t.step.answers) drove.turns)) book

-- memory ran out amid the turns, or behind them: how far they went, and what the gateway answered until then
pub record BreaksOff (drive : Drive) (old new : Outside) : Type 0 where
  pub after : Stage
  pub all : List Answer
  pub went : StoppedAmid (first_stage drive old.clock old.failures) after drive.steps
      ⊎ ((tally : Tally) × Drove (first_stage drive old.clock old.failures) after drive.steps tally)
  pub noted : after.worker.told ≡ Some all
  pub told : Answered old.told new.told all
  pub clock : after.worker.clock ≡ new.clock
  pub failed : after.failures ≡ new.failures
  pub kept : old.failures ≤ new.failures

-- memory ran out, before any turn or later
abbrev pub Unfinished : Drive → Outside → Outside → Type 0
Unfinished drive old new = (new ≡ old) ⊎ BreaksOff drive old new

-- what the status of a drive says; nothing is read, and where memory runs out nothing is written
abbrev pub IsDriven : Drive → Run → Run → Status → Type 0
IsDriven drive old new status.Done = (lines : List ℕ) × DroveTo drive old.outside new.outside lines
    × Appends old.streams.held new.streams.held lines × (new.streams.left ≡ old.streams.left)
IsDriven drive old new status.WriteFault = (lines : List ℕ) × DroveTo drive old.outside new.outside lines
    × AppendsFront old.streams.held new.streams.held lines × (new.streams.left ≡ old.streams.left) × Rose old.writes new.writes
IsDriven drive old new status.Memory = Unfinished drive old.outside new.outside × (new.streams ≡ old.streams)
IsDriven drive old new _ = ⊥
