use Rattle.std.proofs.Common.{[], ◌∷◌, ◌++◌, ap, ◌∙◌}
use Rattle.shop_engine.specs.declared.report.Point.{Point}
use Rattle.shop_engine.specs.Served.{told_page}
use Rattle.shop_engine.proofs.connection.refuse_next.Goals as goal

pub returns-clause-refused : goal.returns-clause-refused
unfolding told_page
returns-clause-refused g c = record {
  added = c.in_ok-push.ensures.items ∙ ap (λ (p : Point). c.args.points.now.items ++ p ∷ []) c.plain_point.ensures;
  reply = c.in_ok-refuse.ensures.reply;
}
