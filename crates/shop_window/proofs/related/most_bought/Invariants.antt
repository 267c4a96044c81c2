use Rattle.shop_window.proofs.Offering.{IsWalked}
use Rattle.shop_window.proofs.related.most_bought.Given as goal

abbrev pub invariant-loop-place : goal.invariant-loop-place
invariant-loop-place l = IsWalked l.pairs l.item l.items l.place l.sale l.top.items
