use Rattle.std.proofs.Common.{refl}
use Rattle.shop_book.specs.Summaries.{summary_of}
use Rattle.shop_app.specs.Summaries.{caller_line, log_lines}
use Rattle.shop_app.proofs.RaceLemmas.{line_more}
use Rattle.shop_app.proofs.summary.race_lines.Goals as goal

pub loop-before-preserved : goal.loop-before-preserved
loop-before-preserved c =
    line_more (log_lines (summary_of c.args.book.now)) _ _ _ (caller_line c.args.book.now) c.loop-before.before c.loop-before.invariant c.in_ok-push_caller.ensures refl
