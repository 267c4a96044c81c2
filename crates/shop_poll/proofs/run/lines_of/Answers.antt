use Rattle.std.proofs.lemmas.Result.{IfOk-weaker}
use Rattle.shop_poll.proofs.run.lines_of.Goals as goal

pub returns : goal.returns
returns g c =
    IfOk-weaker c.race_lines.result _ _ (λ text printed. record { book = c.in_ok-book.book; closes = c.in_ok-book.ensures; printed = printed }) c.race_lines.ensures
