use Rattle.std.proofs.Common.{◌≡◌, map}
use Rattle.std.specs.List.{range_with_len}
use Rattle.shop_browsers.specs.Browsers.{new_browser}
use Rattle.shop_app.proofs.driven.first_browsers.Given as goal

abbrev pub invariant-loop-before : goal.invariant-loop-before
invariant-loop-before l = l.browsers.items ≡ map (λ n. new_browser l.asked.shop.seed n l.asked.mix l.asked.shop.scale) (range_with_len 1 l.before)
