use Rattle.std.proofs.Common.{[]}
use Rattle.shop_records.proofs.Scans.{none_read, some_more}
use Rattle.shop_records.proofs.scanning.scan.Goals as goal

pub loop-after-init : goal.loop-after-init
loop-after-init c = record { payloads = []; read = none_read c.args.bytes.now }

pub loop-after-preserved : goal.loop-after-preserved
loop-after-preserved c = some_more c.args.bytes.now c.loop-after.rest.now c.in-Record.after.now c.in-Record.field-0.now c.loop-after.invariant c.in-Record.ensures.0 c.in-Record.ensures.1
