use Rattle.std.proofs.Common.{◌≡◌, ap, subst, sym, ◌∙◌}
use Rattle.std.specs.Arc.{arc_value}
use Rattle.shop_book.specs.Books.{BookValue, IsBook}
use Rattle.shop_book.specs.Preparing.{IsPrepared}
use Rattle.shop_book.specs.Settles.{SettledAs}
use Rattle.shop_turn.specs.Shared.{at_stamp}
use Rattle.shop_turn.proofs.Founds.{raised_book}
use Rattle.shop_turn.proofs.share.Share.commit.Goals as goal

pub returns-in-Some-get_mut : goal.returns-in-Some-get_mut
returns-in-Some-get_mut g c =
    let book = c.deref_mut.ensures.value ∙ ap (λ b. b.value) (c.in-Some-get_mut.ensures.value ∙ ap (λ i. arc_value i.book) c.loop.invariant.3) ∙ c.self.view_is in
    let raised = raised_book c.args.latest c.args.self.now _ _ book c.raise.ensures.value c.requires.after in
    let is : c.deref_mut-in-Some-get_mut.result.now ≡ at_stamp c.args.latest c.args.self.now = c.deref_mut-in-Some-get_mut.ensures.value ∙ raised in
    record {
      was = subst IsBook raised c.raise.ensures.kept;
      kept = c.commit.ensures.kept;
      settles = λ caller number attempt prepared. subst (λ (b : BookValue). SettledAs b c.commit.new.self caller number attempt c.commit.result) is
          (c.commit.ensures.settled caller number attempt (subst (λ (b : BookValue). IsPrepared b.opening b.log caller number attempt c.args.prepared) (sym is) prepared));
    }
