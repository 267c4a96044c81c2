use Rattle.std.proofs.Common.{◌≡◌, ◌∙◌, sym, ap, cond, List, [], ◌∷◌, ◌++◌, Option, Some, None}
use Rattle.std.specs.HashMap.{get}
use Rattle.shop_edges.specs.declared.gateway.Answer.{Answer}
use Rattle.shop_gateway.specs.Verdicts.{Key, key_of, same_key, entry_at, first_verdict}
use Rattle.shop_gateway.specs.Emulators.{EmulatorValue}
use Rattle.shop_gateway.proofs.Ledgers.{entered}
use Rattle.shop_gateway.proofs.emulator.Emulator.enter.Goals as goal

pub invariant_of-self-2 : goal.invariant_of-self-2
invariant_of-self-2 c =
    let ledger = c.self.inside.ledger.items in
    let entry = c.in_ok-entry.entry in
    let asked = key_of c.args.charge.now in
    let roomy = get same_key c.reserve-3.new.self in
    let key : key_of entry.charge ≡ asked = ap (λ (a : Answer). key_of a.charge) c.in_ok-entry.ensures.answer in
    let items : c.push_reserved.new.self.items ≡ ledger ++ entry ∷ [] =
    c.push_reserved.ensures.items ∙ ap (λ (xs : List Answer). xs ++ entry ∷ []) c.reserve.ensures.items in
    let told : c.push_reserved-2.new.self.items ≡ c.self.inside.answers.items ++ entry ∷ [] =
    c.push_reserved-2.ensures.items ∙ ap (λ (xs : List Answer). xs ++ c.in_ok-told.told ∷ []) c.reserve-2.ensures.items
    ∙ ap (λ (a : Answer). c.self.inside.answers.items ++ a ∷ []) c.in_ok-told.ensures in
    let first : entry.verdict ≡ first_verdict entry.charge =
    ap (λ (a : Answer). a.verdict) c.in_ok-entry.ensures.answer ∙ ap (λ (a : Answer). first_verdict a.charge) (sym c.in_ok-entry.ensures.answer) in
    let absent : entry_at ledger (key_of entry.charge) ≡ None =
    ap (entry_at ledger) key ∙ ap (λ (v : EmulatorValue). entry_at v.ledger asked) c.self.view_is ∙ c.requires in
    rw (items, told)
    (entered ledger c.self.inside.answers.items entry (get same_key c.self.inside.entries) (get same_key c.insert.new.self) c.self.invariant absent first c.in_ok-entry.ensures.said
    (λ q.
    c.in-Ok.ensures.updates.0 q
    ∙ ap (λ (k : Key). cond (same_key k q) (Some c.in_ok-found.found) (roomy q)) (c.key_of.ensures ∙ sym key)
    ∙ ap (λ (a : Answer). cond (same_key (key_of entry.charge) q) (Some a) (roomy q)) c.in_ok-found.ensures
    ∙ ap (λ (o : Option Answer). cond (same_key (key_of entry.charge) q) (Some entry) o) (c.reserve-3.ensures.entries.2 q)))
