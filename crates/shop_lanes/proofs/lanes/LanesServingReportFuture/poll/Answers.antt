use Rattle.std.proofs.Common.{◌∙◌}
use Rattle.shop_lanes.proofs.lanes.LanesServingReportFuture.poll.Goals as goal

pub returns-in-Pending-clause-same : goal.returns-in-Pending-clause-same
returns-in-Pending-clause-same g c = λ landed gives.
    let now = c.in-Pending.ensures in
    rw c.in-Some.is (
      λ start total since. gives.0 start total (now.since start total since),
      λ closed. gives.1 (now.closed closed).0 ∙ (now.closed closed).1,
    )

pub returns-in-Ready-clause-value : goal.returns-in-Ready-clause-value
returns-in-Ready-clause-value g c =
    let now = c.in-Ready.ensures in
    rw c.in-Some.is (
      λ start total since. c.land.ensures.0 start total (now.since start total since),
      λ closed. c.land.ensures.1 (now.closed closed).0 ∙ (now.closed closed).1,
    )
