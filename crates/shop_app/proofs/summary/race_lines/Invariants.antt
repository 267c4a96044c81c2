use Rattle.std.proofs.Common.{◌≡◌, ◌++◌, map}
use Rattle.std.specs.List.{concat, range_with_len}
use Rattle.shop_book.specs.Summaries.{summary_of}
use Rattle.shop_app.specs.Summaries.{caller_line, log_lines}
use Rattle.shop_app.proofs.summary.race_lines.Given as goal

abbrev pub invariant-loop-before : goal.invariant-loop-before
invariant-loop-before l = l.text ≡ log_lines (summary_of l.book) ++ concat (map (caller_line l.book) (range_with_len 1 l.before))
