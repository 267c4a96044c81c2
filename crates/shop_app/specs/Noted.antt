-- What came of a drive whose answers were noted.
use Rattle.std.specs.Prelude.{◌≡◌, ℕ, List, Result, Ok, Err}
use Rattle.shop_edges.specs.declared.gateway.Answer.{Answer}
use Rattle.shop_gateway.specs.Notes.{firsts}
use Rattle.shop_book.specs.Books.{BookValue}
use Rattle.shop_drive.specs.Drives.{AreFresh, Drove, StoppedAmid}
use Rattle.shop_drive.specs.Turns.{Stage}
use Rattle.shop_text.specs.declared.memory.Memory.{Memory}
use Rattle.shop_app.specs.declared.driven.Driven.{Driven}
use Rattle.shop_app.specs.Summaries.{drive_lines}

-- browsers were driven from one stage to another, where the store keeps these marks, and these were the first answers
-- among all that the gateway gave; or memory ran out
abbrev pub NotedAs : (ℕ → ℕ → Type 0) → List Answer → Stage → Stage → ℕ → Result Driven Memory → Type 0
NotedAs marked all from to steps (Ok driven) =
    (drove : Drove from to steps driven.tally) × AreFresh marked to drove.turns × (driven.answers ≡ firsts all)
NotedAs marked all from to steps (Err memory) = StoppedAmid from to steps

-- the browsers were driven, and the lines tell of it over this book
abbrev pub TellsOf : Result Driven Memory → BookValue → List ℕ → Type 0
TellsOf result book lines = (driven : Driven) × (result ≡ Ok driven) × (lines ≡ drive_lines driven.tally driven.answers book)
