use Rattle.std.proofs.Common.{rules}
use Rattle.shop_pages.proofs.reading.page_of.Goals as goal

pub returns-then-eq-clause-page : goal.returns-then-eq-clause-page
returns-then-eq-clause-page c = search rules
