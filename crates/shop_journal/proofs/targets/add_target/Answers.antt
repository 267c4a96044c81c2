use Rattle.std.proofs.Common.{◌++◌, ap, subst}
use Rattle.shop_model.specs.declared.requests.IdsAsked.{IdsAsked}
use Rattle.shop_model.specs.declared.requests.Interaction.TheVariants as interaction
use Rattle.shop_model.specs.asked.AddAsked.{AddAsked}
use Rattle.shop_model.specs.asked.Interactions.{path_of}
use Rattle.shop_journal.specs.Pairs.{Adds}
use Rattle.shop_journal.specs.Targets.{add_pairs, described_pairs, ids_pairs, priced_pairs, titled_pairs}
use Rattle.shop_journal.proofs.Marks.{adds_both, target_is}
use Rattle.shop_journal.proofs.targets.add_target.Goals as goal

pub returns-clause-target : goal.returns-clause-target
returns-clause-target c =
    let asked = c.args.asked.now in
    let ids = subst (λ (l : IdsAsked). Adds (ids_pairs l) c.add_priced.new.target c.add_ids.new.target) (ap (λ (a : AddAsked). a.ids) c.asked.view_is) c.in_ok-add_ids.ensures in
    let priced = adds_both (priced_pairs asked) (ids_pairs asked.ids) _ _ _ c.in_ok-add_priced.ensures ids in
    let described = adds_both (described_pairs asked) (priced_pairs asked ++ ids_pairs asked.ids) _ _ _ c.in_ok-add_described.ensures priced in
    let all = adds_both (titled_pairs asked) (described_pairs asked ++ (priced_pairs asked ++ ids_pairs asked.ids)) _ _ _ c.in_ok-add_titled.ensures described in
    target_is (path_of interaction.AdminAdd) (add_pairs asked) _ _ c.in_ok-target.ensures all
