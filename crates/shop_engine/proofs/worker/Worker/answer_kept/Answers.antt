use Rattle.std.proofs.Common.{◌≡◌, None, refl, sym, ◌∙◌, subst}
use Rattle.shop_engine.specs.Keeping.{found_for}
use Rattle.shop_engine.specs.Lists.{looked_for}
use Rattle.shop_engine.proofs.KeptLemmas.{none_listed}
use Rattle.shop_engine.proofs.worker.Worker.answer_kept.Goals as goal

-- no list is asked for

pub returns-else-asks_list-clause-found : goal.returns-else-asks_list-clause-found
returns-else-asks_list-clause-found g c =
    let old = c.args.self.now in
    subst (λ key. found_for key old.progress.last old.kept ≡ None) (sym (none_listed _ (sym c.asks_list.ensures ∙ c.if-asks_list.false))) refl

pub returns-else-asks_list-clause-looked : goal.returns-else-asks_list-clause-looked
returns-else-asks_list-clause-looked g c =
    let old = c.args.self.now in
    subst (λ key. old.kept ≡ looked_for key old.kept) (sym (none_listed _ (sym c.asks_list.ensures ∙ c.if-asks_list.false))) refl
