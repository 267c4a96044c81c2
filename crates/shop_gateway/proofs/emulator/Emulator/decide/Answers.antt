use Rattle.std.proofs.Common.{◌≡◌, ◌∙◌, sym, ap, subst, List, [], ◌∷◌, ◌++◌, Option, Some}
use Rattle.std.specs.Option.{IfSome}
use Rattle.std.specs.HashMap.{get}
use Rattle.shop_edges.specs.declared.gateway.Answer.{Answer}
use Rattle.shop_gateway.specs.Verdicts.{key_of, same_key, entry_at, next_verdict}
use Rattle.shop_gateway.specs.Emulators.{EmulatorValue, IsSaid}
use Rattle.shop_gateway.proofs.Ledgers.{decided_next, told}
use Rattle.shop_gateway.proofs.emulator.Emulator.decide.Goals as goal

pub invariant_of-self-2 : goal.invariant_of-self-2
invariant_of-self-2 c =
    let ledger = c.self.inside.ledger.items in
    let answers = c.self.inside.answers.items in
    let entry = c.in-Some.entry.now in
    let answer = c.in_ok-answer.answer in
    let charge = c.args.charge.now in
    let got : get same_key c.self.inside.entries (key_of charge) ≡ Some entry =
    ap (get same_key c.self.inside.entries) (sym c.key_of.ensures) ∙ sym c.in-Some.ensures.value in
    let there : entry_at ledger (key_of answer.charge) ≡ Some entry =
    ap (λ (a : Answer). entry_at ledger (key_of a.charge)) c.in_ok-answer.ensures ∙ sym (c.self.invariant.found (key_of charge)) ∙ got in
    let verdict : answer.verdict ≡ next_verdict entry answer.charge =
    ap (λ (a : Answer). a.verdict) c.in_ok-answer.ensures ∙ ap (λ (a : Answer). next_verdict entry a.charge) (sym c.in_ok-answer.ensures) in
    let items : c.push_reserved.new.self.items ≡ answers ++ answer ∷ [] =
    c.push_reserved.ensures.items ∙ ap (λ (xs : List Answer). xs ++ answer ∷ []) c.reserve.ensures.items in
    rw items (told ledger answers entry answer (get same_key c.self.inside.entries) c.self.invariant there verdict)

pub returns-clause-ok : goal.returns-clause-ok
returns-clause-ok c =
    let old = c.args.self.now in
    let new : EmulatorValue = record { ledger = c.self.inside.ledger.items; answers = c.push_reserved.new.self.items } in
    let entry = c.in-Some.entry.now in
    let charge = c.args.charge.now in
    let ledger : new.ledger ≡ old.ledger = ap (λ (v : EmulatorValue). v.ledger) c.self.view_is in
    let got : get same_key c.self.inside.entries (key_of charge) ≡ Some entry =
    ap (get same_key c.self.inside.entries) (sym c.key_of.ensures) ∙ sym c.in-Some.ensures.value in
    let there : entry_at old.ledger (key_of charge) ≡ Some entry =
    ap (λ (l : List Answer). entry_at l (key_of charge)) (sym ledger) ∙ sym (c.self.invariant.found (key_of charge)) ∙ got in
    let said : IsSaid entry.verdict = subst (λ (o : Option Answer). IfSome o (λ e. IsSaid e.verdict)) got (c.self.invariant.said (key_of charge)) in
    let answers =
    c.push_reserved.ensures.items
    ∙ ap (λ (xs : List Answer). xs ++ c.in_ok-answer.answer ∷ []) (c.reserve.ensures.items ∙ ap (λ (v : EmulatorValue). v.answers) c.self.view_is)
    ∙ ap (λ (a : Answer). old.answers ++ a ∷ []) c.in_ok-answer.ensures in
    let verdict : c.get-2.result.now.verdict ≡ next_verdict entry charge = ap (λ (a : Answer). a.verdict) (c.get-2.ensures ∙ c.in_ok-answer.ensures) in
    rw verdict (decided_next old new entry charge there said ledger answers)
