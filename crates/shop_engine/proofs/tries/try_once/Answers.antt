use Rattle.std.proofs.Common.{refl, sym, ◌∙◌, ap}
use Rattle.shop_model.specs.declared.tables.Tables.{Tables}
use Rattle.shop_model.specs.lists.Catalogues.{opened}
use Rattle.shop_engine.proofs.Payments.{free_paid}
use Rattle.shop_engine.proofs.TriesLemmas.{unasked}
use Rattle.shop_engine.proofs.tries.try_once.Goals as goal

pub returns-in-Ready-clause-tried : goal.returns-in-Ready-clause-tried
returns-in-Ready-clause-tried g c =
    let looked = c.attempt.ensures.looks.looked in
    unasked _ _ _ _ _ refl refl
    (λ before has. c.settle_page.ensures.tried _ before looked (record {
      caller = looked.follows.caller ∙ c.requires.caller;
      kept = c.args.kept.now;
      asked = has;
      ready = c.in-Ready.ensures.attempted.ready;
      unlisted = c.in-Ready.ensures.attempted.unlisted;
      paid = λ t agrees. free_paid c.in-Ready.attempt.act c.in-Ready.ensures.attempted.free t _ before;
    }))

pub returns-in-Ready-clause-failed : goal.returns-in-Ready-clause-failed
returns-in-Ready-clause-failed g c failed = absurd (c.settle_page.ensures.never failed)

-- what is not at a page alone

pub try_other-requires-clause-attempted : goal.try_other-requires-clause-attempted
try_other-requires-clause-attempted g c = (_, c.attempt.ensures.attempted)

pub try_other-requires-clause-suits : goal.try_other-requires-clause-suits
try_other-requires-clause-suits g c =
    c.requires.suits ∙ ap (λ (t : Tables). opened t) (sym c.attempt.ensures.looks.looked.follows.opening)

pub returns-in_default-clause-tried : goal.returns-in_default-clause-tried
returns-in_default-clause-tried g c =
    c.try_other.ensures.tried _ (record {
      looked = c.attempt.ensures.looks.looked;
      valid = c.requires.valid;
      caller = c.requires.caller;
      made = c.attempt.ensures.attempted;
    })
