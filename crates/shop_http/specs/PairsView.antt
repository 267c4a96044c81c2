-- The pairs of a message as contracts see them.
use Rattle.std.specs.Prelude.{List, ◌++◌}
use Rattle.shop_http.specs.declared.requests.pairs.Pairs.TheInside.{Inside}
use Rattle.shop_http.specs.Forms.{Pair, pairs}

abbrev pub pairs_of : Inside → List Pair
pairs_of inside = pairs inside.query.now ++ pairs inside.form.now
