use Rattle.std.proofs.Common.{ap}
use Rattle.std.specs.Prelude.{Err}
use Rattle.shop_journal.proofs.Breaks.{front_long, log_breaks, record_breaks}
use Rattle.shop_journal.proofs.opening.broken_place.Goals as goal

pub returns-in-Ok : goal.returns-in-Ok
returns-in-Ok c = λ none.
    let bytes = c.args.bytes.now in
    let place = front_long c.args.at c.min-front.result bytes none c.min-front.ensures c.if-front-lt-HEADER.false in
    log_breaks c.args.format c.args.at c.min-front.result bytes place c.in-Ok.field-0.head c.in-Ok.field-0.entries
    (c.in-Ok.ensures.log place.broken.header place.broken.payloads (c.in_ok-contents.ensures place.broken.header place.broken.payloads place.keeps))

pub returns-in-Err-Broken : goal.returns-in-Err-Broken
returns-in-Err-Broken c = λ none.
    let bytes = c.args.bytes.now in
    let place = front_long c.args.at c.min-front.result bytes none c.min-front.ensures c.if-front-lt-HEADER.false in
    record_breaks c.args.format c.args.at c.min-front.result bytes place c.in-Err-Broken.place
    (c.in-Err-Broken.ensures.broken place.broken.header place.broken.payloads c.in-Err-Broken.place (c.in_ok-contents.ensures place.broken.header place.broken.payloads place.keeps)
    (ap (λ x. Err x) c.in-Err-Broken.field-0-is))
