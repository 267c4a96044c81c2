use Rattle.std.proofs.Common.{length, sym, ◌∙◌}
use Rattle.std.proofs.lemmas.List.{take_rest}
use Rattle.shop_gateway.proofs.ProtocolLemmas.{before-first, before-none, after-first, after-none}
use Rattle.shop_gateway.proofs.charge_line.cut.Goals as goal

pub returns-in-Some-clause-before : goal.returns-in-Some-clause-before
returns-in-Some-clause-before c = sym (before-first _ _ _ c.in-Some.ensures.0.high c.in-Some.ensures.0.before c.in-Some.ensures.1)

pub returns-in-Some-clause-after : goal.returns-in-Some-clause-after
returns-in-Some-clause-after c = take_rest c.args.bytes.now _ ∙ after-first c.args.byte c.args.bytes.now _ c.in-Some.ensures

pub returns-in-None-clause-before : goal.returns-in-None-clause-before
returns-in-None-clause-before c = sym (before-none _ _ c.in-None.ensures)

pub returns-in-None-clause-after : goal.returns-in-None-clause-after
returns-in-None-clause-after c =
    take_rest c.args.bytes.now (length c.args.bytes.now)
    ∙ after-none c.args.byte c.args.bytes.now c.in-None.ensures
