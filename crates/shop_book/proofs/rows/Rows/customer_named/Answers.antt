use Rattle.std.proofs.Common.{◌≡◌, Some, None, sym, ◌∙◌, ap, arith}
use Rattle.std.specs.Option.{option_copied}
use Rattle.shop_model.specs.rows.Lookups.{row_numbered}
use Rattle.shop_model.specs.rows.Rows.{CustomerRow}
use Rattle.shop_book.proofs.NamedLemmas.{id_none, id_there, id_absent}
use Rattle.shop_book.proofs.rows.Rows.customer_named.Goals as goal

pub returns-in-None : goal.returns-in-None
returns-in-None c = id_none c.args.self.now.customers.items c.requires c.args.user.now (λ n fits spelled. c.in-None.ensures.none n fits (c.bytes.ensures ∙ sym spelled))

pub returns-in-None-row_numbered : goal.returns-in-None-row_numbered
returns-in-None-row_numbered c =
    let customers = c.args.self.now.customers.items in
    let gone : row_numbered customers c.in-Some.id ≡ None = ap (λ rows. row_numbered rows c.in-Some.id) (sym c.deref.ensures.value) ∙ sym c.row_numbered.ensures ∙ ap option_copied c.in-None-row_numbered.is in
    id_absent customers c.requires c.args.user.now c.in-Some.id (omega arith) (sym c.in-Some.ensures.some ∙ c.bytes.ensures) gone

pub returns-in-Some-row_numbered : goal.returns-in-Some-row_numbered
returns-in-Some-row_numbered c =
    let customers = c.args.self.now.customers.items in
    let row : CustomerRow = c.in-Some-row_numbered.field-0.now in
    let there : row_numbered customers c.in-Some.id ≡ Some row = ap (λ rows. row_numbered rows c.in-Some.id) (sym c.deref.ensures.value) ∙ sym c.row_numbered.ensures ∙ ap option_copied c.in-Some-row_numbered.is in
    id_there customers c.requires c.args.user.now c.in-Some.id (omega arith) (sym c.in-Some.ensures.some ∙ c.bytes.ensures) row there
