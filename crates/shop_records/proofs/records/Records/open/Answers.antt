use Rattle.std.proofs.Common.{sym, ◌∙◌, ap, subst}
use Rattle.shop_records.specs.Runs.{Leaves}
use Rattle.shop_records.proofs.Finding.{finds_just}
use Rattle.shop_records.proofs.Looks.{looks_first, looks_more, looks_on}
use Rattle.shop_records.proofs.Runs.{opened_on}
use Rattle.shop_records.proofs.records.Records.open.Goals as goal

pub returns-in-Ok-clause-exact : goal.returns-in-Ok-clause-exact
returns-in-Ok-clause-exact g c = λ header payloads file is keeps.
    finds_just g.D.Disk.state c.found_in.result header payloads file
    (ap (λ d. (g.D.Disk.state d).told) c.found_in.ensures.disk ∙ c.read_all.ensures.looks.told ∙ c.sync.ensures.told ∙ is) keeps c.found_in.ensures.found

pub returns-in_default-clause-run : goal.returns-in_default-clause-run
returns-in_default-clause-run g c = λ run so_far.
    let old = g.D.Disk.state c.args.disk in
    let new = g.D.Disk.state c.sync.new.self in
    let looks = looks_more old old new (looks_first old (g.D.Disk.is_disk c.args.disk)) c.sync.ensures.told c.sync.ensures.crash c.sync.ensures.time c.sync.ensures.cause.later in
    opened_on old new run so_far looks.any_moment looks.told (g.D.Disk.is_disk c.args.disk) (g.D.Disk.is_disk c.sync.new.self)

pub returns-in-Err-Failed-clause-run : goal.returns-in-Err-Failed-clause-run
returns-in-Err-Failed-clause-run g c = λ run so_far.
    let old = g.D.Disk.state c.args.disk in
    let mid = g.D.Disk.state c.sync.new.self in
    let new = g.D.Disk.state c.read_all.new.disk in
    let synced = looks_more old old mid (looks_first old (g.D.Disk.is_disk c.args.disk)) c.sync.ensures.told c.sync.ensures.crash c.sync.ensures.time c.sync.ensures.cause.later in
    let looks = looks_on old mid new synced c.read_all.ensures.looks in
    opened_on old new run so_far looks.any_moment looks.told (g.D.Disk.is_disk c.args.disk) (g.D.Disk.is_disk c.read_all.new.disk)

pub returns-in-Err-Memory-clause-run : goal.returns-in-Err-Memory-clause-run
returns-in-Err-Memory-clause-run g c = λ run so_far.
    let old = g.D.Disk.state c.args.disk in
    let mid = g.D.Disk.state c.sync.new.self in
    let new = g.D.Disk.state c.read_all.new.disk in
    let synced = looks_more old old mid (looks_first old (g.D.Disk.is_disk c.args.disk)) c.sync.ensures.told c.sync.ensures.crash c.sync.ensures.time c.sync.ensures.cause.later in
    let looks = looks_on old mid new synced c.read_all.ensures.looks in
    opened_on old new run so_far looks.any_moment looks.told (g.D.Disk.is_disk c.args.disk) (g.D.Disk.is_disk c.read_all.new.disk)

pub returns-in-Ok-clause-run : goal.returns-in-Ok-clause-run
returns-in-Ok-clause-run g c = λ run so_far.
    let old = g.D.Disk.state c.args.disk in
    let mid = g.D.Disk.state c.sync.new.self in
    let new = g.D.Disk.state c.read_all.new.disk in
    let synced = looks_more old old mid (looks_first old (g.D.Disk.is_disk c.args.disk)) c.sync.ensures.told c.sync.ensures.crash c.sync.ensures.time c.sync.ensures.cause.later in
    let looks = looks_on old mid new synced c.read_all.ensures.looks in
    subst (λ d. Leaves (g.D.Disk.state d) run) (sym c.found_in.ensures.disk)
    (opened_on old new run so_far looks.any_moment looks.told (g.D.Disk.is_disk c.args.disk) (g.D.Disk.is_disk c.read_all.new.disk))
