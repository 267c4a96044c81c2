use Rattle.std.proofs.Common.{◌≡◌, [], length, eqb-true, sym, ap, ◌∙◌}
use Rattle.std.specs.List.{filter_map}
use Rattle.shop_http.specs.Firsts.{behind}
use Rattle.shop_http.specs.Forms.{pairs}
use Rattle.shop_http.specs.Sets.{set_asked}
use Rattle.shop_http.specs.ValuesView.{firsts_kept}
use Rattle.shop_http.proofs.FirstLemmas.{behind-nil}
use Rattle.shop_http.proofs.Pairs.{pairs-empty}
use Rattle.shop_http.proofs.requests.values.Values.read.Goals as goal

pub returns-then-is_empty : goal.returns-then-is_empty
returns-then-is_empty c =
    let firsts = firsts_kept c.args.self.now in
    let none : pairs c.args.encoded.now ≡ [] =
    pairs-empty c.args.encoded.now (eqb-true (length c.args.encoded.now) 0 (sym c.is_empty.ensures ∙ c.if-is_empty.true)) in
    record {
      values = sym (behind-nil firsts) ∙ ap (behind firsts) (sym none);
      others = λ known. (known, ap (filter_map set_asked) none);
    }
