use Rattle.std.proofs.Common.{inl, refl, sym, ap, List}
use Rattle.shop_engine.specs.declared.report.Point.{Point}
use Rattle.shop_keep.proofs.Turns.{answer_kept, answer_lost, answer_withheld, keeps_abandoned}
use Rattle.shop_keep.proofs.connection.serve_one.Goals as goal

pub returns-in_default-clause-turned : goal.returns-in_default-clause-turned
returns-in_default-clause-turned g c =
    rw c.into_disk.ensures
    (inl (
      (c.in_default.ensures.memory, ap (λ (l : List Point). record { points = l; held = g.K.Sink.held c.args.sink.now }) c.in_default.ensures.unanswered),
      keeps_abandoned _ _ _ _ c.in_default.ensures.memory refl,
    ))

pub returns-in-None-clause-turned : goal.returns-in-None-clause-turned
returns-in-None-clause-turned g c = (
  c.in-None.ensures.told _ _ _ _ _ c.in-Ok.ensures.answered (sym c.reply.ensures),
  answer_kept g.D.Disk.state _ _ _ _ _ _ (g.K.Sink.held c.args.sink.now) _ c.in-Ok.ensures.answered refl c.size_of-before.ensures _ c.in-Done.ensures.noted,
)

pub returns-in-Some-clause-turned : goal.returns-in-Some-clause-turned
returns-in-Some-clause-turned g c =
    rw c.into_disk-in-Some.ensures
    (inl (
      c.in-Some.ensures.told _ _ _ _ _ c.in-Ok.ensures.answered (sym c.reply.ensures),
      answer_kept g.D.Disk.state _ _ _ _ _ _ (g.K.Sink.held c.args.sink.now) _ c.in-Ok.ensures.answered refl c.size_of-before.ensures _ c.in-Done.ensures.noted,
    ))

pub returns-in-Failed-clause-turned : goal.returns-in-Failed-clause-turned
returns-in-Failed-clause-turned g c =
    answer_lost g.D.Disk.state _ _ _ _ _ _ (g.K.Sink.held c.args.sink.now) _ c.in-Ok.ensures.answered refl c.size_of-before.ensures _ c.in-Failed.ensures.noted

pub returns-in-Memory-clause-turned : goal.returns-in-Memory-clause-turned
returns-in-Memory-clause-turned g c =
    answer_withheld g.D.Disk.state _ _ _ _ _ _ (g.K.Sink.held c.args.sink.now) _ c.in-Ok.ensures.answered refl c.size_of-before.ensures _ _ c.into_disk-in-Memory.ensures c.in-Memory.ensures.noted
