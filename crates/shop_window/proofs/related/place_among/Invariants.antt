use Rattle.std.proofs.Common.{◌≡◌, ◌++◌, take, drop}
use Rattle.shop_model.specs.lists.Rankings.{better, put_among}
use Rattle.shop_window.proofs.related.place_among.Given as goal

abbrev pub invariant-loop-place : goal.invariant-loop-place
invariant-loop-place l = take l.place l.others ++ put_among better l.sale (drop l.place l.others) ≡ put_among better l.sale l.others
