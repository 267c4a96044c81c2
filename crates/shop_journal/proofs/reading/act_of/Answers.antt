use Rattle.std.proofs.Common.{◌≡◌, Some, sym, ◌∙◌, ap, subst}
use Rattle.shop_model.specs.rows.AuthIds.{IsAuthId}
use Rattle.shop_history.specs.declared.acts.Act.{Act}
use Rattle.shop_history.specs.declared.acts.Act.TheVariants.{Confirm}
use Rattle.shop_journal.specs.Payloads.{IsActIn, rule_of, tax_byte, tax_of}
use Rattle.shop_journal.proofs.Acts.{confirm_act, purchase_kind, rule_again}
use Rattle.shop_journal.proofs.reading.act_of.Goals as goal

pub returns-in-Some-clause-kept : goal.returns-in-Some-clause-kept
returns-in-Some-clause-kept c = λ e is parts same.
    let format = c.args.format in
    let found = sym c.in-Some.is ∙ c.auth_of.ensures (subst IsAuthId (sym parts.auth) is.bounded.auth) in
    let auth : c.in-Some.auth ≡ c.args.parts.now.auth.now = cc found in
    let tax : tax_byte c.rule_of-rule.result ≡ tax_of e.act = ap tax_byte (c.rule_of-rule.ensures ∙ ap (rule_of format) parts.tax) ∙ rule_again format e.act is.kind in
    ap (λ (a : Act). Some a)
    (confirm_act e.act c.in-BuyConfirm.asked c.args.parts.now.draw c.in-Some.auth c.rule_of-rule.result (sym c.in-BuyConfirm.is ∙ same) parts.draw (auth ∙ parts.auth) tax)

pub returns-in-Some-clause-kind : goal.returns-in-Some-clause-kind
returns-in-Some-clause-kind c =
    let format = c.args.format in
    subst (λ rule. IsActIn format (Confirm c.in-BuyConfirm.asked c.args.parts.now.draw c.in-Some.auth rule)) (sym c.rule_of-rule.ensures)
    (purchase_kind format c.in-BuyConfirm.asked c.args.parts.now.draw c.in-Some.auth c.args.parts.now.tax)
