use Rattle.std.proofs.Common.{sym}
use Rattle.shop_book.proofs.Stamping.{same_stamped}
use Rattle.shop_book.proofs.puts.puts_at.Goals as goal

pub returns-then-stamp-was : goal.returns-then-stamp-was
returns-then-stamp-was c = rw c.if-stamp-was.true (sym (same_stamped c.args.was c.args.puts.items c.requires.was))
