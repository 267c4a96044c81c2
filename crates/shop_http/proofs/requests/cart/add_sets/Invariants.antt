use Rattle.std.proofs.Common.{◌≡◌, map}
use Rattle.form_urlencoded.specs.Parse.{raw_pairs_left}
use Rattle.shop_http.specs.Forms.{decoded, pairs}
use Rattle.shop_http.specs.Sets.{sets_behind}
use Rattle.shop_http.proofs.requests.cart.add_sets.Given as goal

abbrev pub invariant-loop-name : goal.invariant-loop-name
invariant-loop-name l = sets_behind l.sets (map decoded (raw_pairs_left l.name-iterator)) ≡ sets_behind l.fn.before (pairs l.encoded)
