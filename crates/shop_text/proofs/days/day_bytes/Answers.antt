use Rattle.std.proofs.Common.{rules}
use Rattle.shop_text.proofs.Dates.{day_text-date_text}
use Rattle.shop_text.proofs.days.day_bytes.Goals as goal

pub returns : goal.returns
returns c =
    let e = day_text-date_text c.date_of-date.result c.args.day c.date_of-date.ensures in
    rw e (search (rules, c.unsigned_abs.ensures.value))
