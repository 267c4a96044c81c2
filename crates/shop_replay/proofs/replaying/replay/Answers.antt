use Rattle.std.proofs.Common.{◌≡◌, refl, sym, ◌∙◌, ap, subst}
use Rattle.shop_book.specs.declared.opening.Opening.{Opening}
use Rattle.shop_book.specs.Books.{BookValue}
use Rattle.shop_book.specs.Solos.{SoloValue}
use Rattle.shop_replay.specs.Replays.{AreAdded}
use Rattle.shop_replay.proofs.OneByOne.{given_again}
use Rattle.shop_replay.proofs.replaying.replay.Goals as goal

pub returns-in-Ok-add_all-clause-replayed : goal.returns-in-Ok-add_all-clause-replayed
returns-in-Ok-add_all-clause-replayed c =
    let opening : Opening = record { tables = c.args.tables; limit = c.args.limit } in
    let entries = c.args.entries.now in
    let opening_is : c.new-solo.result.book.opening ≡ opening
    = ap (λ (s : SoloValue). s.book.opening) c.new-solo.ensures.value ∙ ap (λ (b : BookValue). b.opening) c.in-Ok.ensures.value in
    c.replayed_by.ensures opening entries
    (subst (λ (o : Opening). AreAdded o entries c.into_book.result c.in-Ok-add_all.added) opening_is
    (subst (λ (b : BookValue). AreAdded c.new-solo.result.book.opening entries b c.in-Ok-add_all.added) (sym c.into_book.ensures) c.in-Ok-add_all.ensures))
    refl

pub returns-in-Ok-add_all-clause-again : goal.returns-in-Ok-add_all-clause-again
returns-in-Ok-add_all-clause-again c b is opening log = given_again b _ _ c.replayed_by.result is opening log (returns-in-Ok-add_all-clause-replayed c)
