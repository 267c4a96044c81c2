use Rattle.std.proofs.Common.{◌∙◌, true, not, cond, [], ◌∷◌, ◌++◌, ap}
use Rattle.std.specs.HashSet.{contains}
use Rattle.shop_edges.specs.declared.gateway.Answer.{Answer}
use Rattle.shop_gateway.specs.declared.charge_key.ChargeKey.{ChargeKey}
use Rattle.shop_gateway.specs.Notes.{alike}
use Rattle.shop_gateway.proofs.Noted.{noted_more}
use Rattle.shop_gateway.proofs.notes.Notes.note.Goals as goal

pub invariant_of-self : goal.invariant_of-self
invariant_of-self c =
    let all = c.self.inside.all.items in
    let notes = c.self.inside.firsts.items in
    let has = contains alike c.self.inside.charges in
    let answer : Answer = record { charge = c.args.charge.now; verdict = c.args.verdict.now } in
    noted_more all notes has answer _ _ _ c.in-Ok.is_first c.self.invariant
    (c.in-Ok.ensures.added ∙ ap (λ (key : ChargeKey). not (has key)) c.of.ensures)
    (c.push_reserved.ensures.items ∙ ap (λ (again : Answer). all ++ again ∷ []) c.answer_to-again.ensures)
    (c.push_first.ensures ∙ ap (λ (first : Answer). cond c.in-Ok.is_first (notes ++ first ∷ []) notes) c.answer_to-first.ensures)
    (λ asked. c.in-Ok.ensures.updates.0 asked ∙ ap (λ (key : ChargeKey). cond (alike key asked) true (has asked)) c.of.ensures)
