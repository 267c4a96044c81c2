use Rattle.std.proofs.Common.{◌≡◌, false, map}
use Rattle.form_urlencoded.specs.Parse.{raw_pairs_left}
use Rattle.shop_http.specs.Firsts.{behind}
use Rattle.shop_http.specs.Forms.{decoded, pairs}
use Rattle.shop_http.specs.Sets.{SetNothing}
use Rattle.shop_http.specs.ValuesView.{firsts_kept}
use Rattle.shop_http.proofs.requests.values.Values.read_pairs.Given as goal

abbrev pub invariant-loop-name : goal.invariant-loop-name
invariant-loop-name l =
    (behind (firsts_kept l.self) (map decoded (raw_pairs_left l.name-iterator)) ≡ behind (firsts_kept l.fn.self) (pairs l.encoded))
    × (l.self.has_others ≡ false → (l.fn.self.has_others ≡ false)
    × (SetNothing (map decoded (raw_pairs_left l.name-iterator)) → SetNothing (pairs l.encoded)))
