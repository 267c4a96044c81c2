use Rattle.std.proofs.Common.{◌++◌, arith}
use Rattle.shop_text.specs.Texts.{escape}
use Rattle.shop_pages.proofs.PartLemmas.{failed_as, inside, ends_more, ends_long}
use Rattle.shop_pages.proofs.reading.texts.read_tagged.Goals as goal

pub returns-in_err-rest-clause-read : goal.returns-in_err-rest-clause-read
returns-in_err-rest-clause-read c = λ text rest is.
    failed_as c.from_residual.result _ text rest c.from_residual.ensures.1
    (c.in_err-rest.ensures.read _ (inside c.args.front.now (escape text) c.args.end.now rest _ is))

pub returns-in_err-text-clause-read : goal.returns-in_err-text-clause-read
returns-in_err-text-clause-read c = λ text rest is.
    failed_as c.from_residual-in_err-text.result _ text rest c.from_residual-in_err-text.ensures.1
    (let front = c.in_ok-rest.ensures.read _ (inside c.args.front.now (escape text) c.args.end.now rest _ is) in
    c.in_err-text.ensures.read text (c.args.end.now ++ rest) (ends_more c.args.end.now rest c.requires) front)

pub returns-in_err-rest-2-clause-read : goal.returns-in_err-rest-2-clause-read
returns-in_err-rest-2-clause-read c = λ text rest is.
    failed_as c.from_residual-in_err-rest-2.result _ text rest c.from_residual-in_err-rest-2.ensures.1
    (let front = c.in_ok-rest.ensures.read _ (inside c.args.front.now (escape text) c.args.end.now rest _ is) in
    let read = c.in_ok-text.ensures.read text (c.args.end.now ++ rest) (ends_more c.args.end.now rest c.requires) front in
    c.in_err-rest-2.ensures.read rest read.1)

pub returns-clause-read : goal.returns-clause-read
returns-clause-read c = λ text rest is.
    let front = c.in_ok-rest.ensures.read _ (inside c.args.front.now (escape text) c.args.end.now rest _ is) in
    let read = c.in_ok-text.ensures.read text (c.args.end.now ++ rest) (ends_more c.args.end.now rest c.requires) front in
    (read.0, c.in_ok-rest-2.ensures.read rest read.1)

pub returns-clause-shorter : goal.returns-clause-shorter
returns-clause-shorter c =
    omega (arith, ends_long c.args.end.now c.requires, c.in_ok-rest.ensures.within, c.in_ok-text.ensures.within, c.in_ok-rest-2.ensures.within)
