use Rattle.std.proofs.Common.{◌≡◌, List, ℕ, length, take, sym, ◌∙◌, subst, rules}
use Rattle.shop_disk.specs.Calls.{ReadsAt}
use Rattle.shop_disk.specs.declared.disk.Got.TheVariants as got
use Rattle.shop_journal.proofs.Looks.{looks_first, looks_more}
use Rattle.shop_journal.proofs.Pieces.{front_more, whole_at_end}
use Rattle.shop_journal.proofs.fronts.read_by.Goals as goal

pub loop-init : goal.loop-init
loop-init g c = record { looks = looks_first (g.D.Disk.state c.args.disk.now) (g.D.Disk.is_disk c.args.disk.now); front = λ file is. search rules }

pub returns-in-End-clause-bytes : goal.returns-in-End-clause-bytes
returns-in-End-clause-bytes g c =
    let state = g.D.Disk.state in
    whole_at_end (state c.args.disk.now).told c.loop.bytes.items c.loop.invariant.front c.read_at.new.into
    (subst (λ t. ReadsAt t (length c.loop.bytes.items) got.End c.read_at.new.into) c.loop.invariant.looks.told
    (subst (λ (n : ℕ). ReadsAt (state c.loop.disk).told n got.End c.read_at.new.into) (c.len.ensures ∙ c.loop.bytes.ok.0) c.in-End.ensures.bytes))

pub loop-preserved : goal.loop-preserved
loop-preserved g c =
    let state = g.D.Disk.state in
    let read = subst (λ t. ReadsAt t (length c.loop.bytes.items) (got.Bytes c.in-Bytes.count) c.read_at.new.into) c.loop.invariant.looks.told
    (subst (λ (n : ℕ). ReadsAt (state c.loop.disk).told n (got.Bytes c.in-Bytes.count) c.read_at.new.into) (c.len.ensures ∙ c.loop.bytes.ok.0) c.in-Bytes.ensures.bytes) in
    record {
      looks = looks_more (state c.args.disk.now) (state c.loop.disk) (state c.read_at.new.self) c.loop.invariant.looks c.read_at.ensures.told c.read_at.ensures.crash c.read_at.ensures.time c.read_at.ensures.cause.later;
      front = λ file is. subst (λ (l : List ℕ). l ≡ take (length l) file) (sym c.in_ok-extend_from_slice-in-Bytes.ensures.items)
          (front_more (state c.args.disk.now).told c.loop.bytes.items c.read_at.new.into c.in-Bytes.count c.loop.invariant.front c.in-Bytes.ensures.fits.1 read file is);
    }

pub returns-in-End-clause-looks : goal.returns-in-End-clause-looks
returns-in-End-clause-looks g c =
    let state = g.D.Disk.state in
    looks_more (state c.args.disk.now) (state c.loop.disk) (state c.read_at.new.self) c.loop.invariant.looks c.read_at.ensures.told c.read_at.ensures.crash c.read_at.ensures.time c.read_at.ensures.cause.later

pub returns-in-Failed-clause-looks : goal.returns-in-Failed-clause-looks
returns-in-Failed-clause-looks g c =
    let state = g.D.Disk.state in
    looks_more (state c.args.disk.now) (state c.loop.disk) (state c.read_at.new.self) c.loop.invariant.looks c.read_at.ensures.told c.read_at.ensures.crash c.read_at.ensures.time c.read_at.ensures.cause.later

pub returns-in_err-extend_from_slice-in-Bytes-clause-looks : goal.returns-in_err-extend_from_slice-in-Bytes-clause-looks
returns-in_err-extend_from_slice-in-Bytes-clause-looks g c =
    let state = g.D.Disk.state in
    looks_more (state c.args.disk.now) (state c.loop.disk) (state c.read_at.new.self) c.loop.invariant.looks c.read_at.ensures.told c.read_at.ensures.crash c.read_at.ensures.time c.read_at.ensures.cause.later
