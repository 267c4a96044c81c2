use Rattle.std.proofs.Common.{◌+◌, ◌≤◌, length, arith, length-take}
use Rattle.shop_draft.proofs.Heads.{over_taken}
use Rattle.shop_draft.proofs.flat.Flat.write_at.Goals as goal

pub returns : goal.returns
returns c =
    let at = c.self.inside.at in
    let bytes = c.self.inside.bytes.items in
    let more = c.args.bytes.now in
    let fits : c.args.start + length more ≤ at = omega (arith, rw (← c.self.view_is) at c.requires, length-take at bytes) in
    rw (c.write_over.ensures, ← c.self.view_is) (over_taken bytes more c.args.start at fits c.self.invariant)
