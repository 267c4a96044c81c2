use Rattle.std.proofs.Common.{◌≡◌, [], map, refl, ap, sym, ◌∙◌, subst}
use Rattle.std.specs.List.{filter_map}
use Rattle.form_urlencoded.specs.Parse.{raw_pairs_left}
use Rattle.shop_http.specs.Firsts.{behind}
use Rattle.shop_http.specs.Forms.{decoded}
use Rattle.shop_http.specs.Sets.{set_asked, SetNothing}
use Rattle.shop_http.specs.ValuesView.{firsts_kept}
use Rattle.shop_http.proofs.FirstLemmas.{behind-nil, behind-next}
use Rattle.shop_http.proofs.Pairs.{pairs-decoded}
use Rattle.shop_http.proofs.SetLemmas.{nothing-next}
use Rattle.shop_http.proofs.requests.values.Values.read_pairs.Goals as goal

pub loop-name-init : goal.loop-name-init
loop-name-init c =
    let all = pairs-decoded c.args.encoded.now in
    rw (c.into_iter-name-iterator.ensures.into_iter_gives, c.raw_pairs-name-items.ensures.value)
    (ap (behind _) all, λ none. (none, λ nothing. subst SetNothing all nothing))

pub loop-name-preserved : goal.loop-name-preserved
loop-name-preserved c =
    let steps = c.in-Some.ensures.steps in (
      ap (λ firsts. behind firsts (map decoded (raw_pairs_left c.next.new.self))) c.in_ok-add.ensures.values
          ∙ behind-next (firsts_kept c.loop-name.self) _ _ _ _ _ steps refl ∙ c.loop-name.invariant.0,
      λ none.
          let one = c.in_ok-add.ensures.others none in
          let before = c.loop-name.invariant.1 one.0 in
          (before.0, λ nothing. before.1 (nothing-next _ _ _ _ steps one.1 nothing)),
    )

pub returns : goal.returns
returns c =
    let ended : raw_pairs_left c.loop-name.name-iterator ≡ [] = c.in-None.ensures.steps.0 in
    record {
      values = sym (behind-nil (firsts_kept c.loop-name.self)) ∙ rw ended at c.loop-name.invariant.0;
      others = λ none.
          let before = c.loop-name.invariant.1 none in
          (before.0, before.1 (ap (λ left. filter_map set_asked (map decoded left)) ended));
    }
