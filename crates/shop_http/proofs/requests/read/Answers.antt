use Rattle.std.proofs.Common.{[], ◌++◌, ap, ◌∙◌}
use Rattle.std.specs.List.{filter_map}
use Rattle.std.proofs.lemmas.List.Elements.{filter_map-append}
use Rattle.shop_http.specs.Firsts.{firsts_of, behind}
use Rattle.shop_http.specs.Forms.{pairs}
use Rattle.shop_http.specs.Sets.{set_asked}
use Rattle.shop_http.proofs.FirstLemmas.{behind-append}
use Rattle.shop_http.proofs.requests.read.Goals as goal

pub of-pairs-requires : goal.of-pairs-requires
of-pairs-requires c =
    let query = pairs c.args.query.now in
    let form = pairs c.args.form.now in
    record {
      values =
          c.in_ok-read-2.ensures.values
          ∙ ap (λ firsts. behind firsts form) (c.in_ok-read.ensures.values ∙ ap (λ firsts. behind firsts query) c.none-values.ensures.values)
          ∙ behind-append (firsts_of []) query form;
      others = λ none.
          let later = c.in_ok-read-2.ensures.others none in
          let first = c.in_ok-read.ensures.others later.0 in
          filter_map-append set_asked query form ∙ ap (λ sets. sets ++ filter_map set_asked form) first.1 ∙ later.1;
    }
