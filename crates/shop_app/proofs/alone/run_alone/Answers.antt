use Rattle.shop_app.proofs.Faultless.{faultless}
use Rattle.shop_app.proofs.alone.run_alone.Goals as goal

pub returns-clause-complete : goal.returns-clause-complete
returns-clause-complete g c good = faultless c.args.words.now _ _ c.run-status.result good (c.run-status.ensures.run good)
