use Rattle.std.proofs.Common.{◌≡◌, [], codes, Some, sym, ◌∙◌, ap}
use Rattle.shop_history.specs.declared.acts.Entry.{Entry}
use Rattle.shop_history.specs.Acts.{request_of}
use Rattle.shop_http.specs.Requests.{asked_of}
use Rattle.shop_journal.proofs.Kept.{written_again}
use Rattle.shop_journal.proofs.reading.entry_of.Goals as goal

pub returns-in-Refuse-clause-kept : goal.returns-in-Refuse-clause-kept
returns-in-Refuse-clause-kept c = λ e is parts.
    let asked = ap (λ t. asked_of (codes "GET") t []) parts.target ∙ written_again e.act is.bounded.form in
    let refused = sym c.in-Refuse.ensures ∙ asked in
    absurd (cc refused)

pub returns-in-Some-clause-kept : goal.returns-in-Some-clause-kept
returns-in-Some-clause-kept c = λ e is parts.
    let asked = ap (λ t. asked_of (codes "GET") t []) parts.target ∙ written_again e.act is.bounded.form in
    let same = sym c.in-Request.ensures ∙ asked in
    let request : c.in-Request.request ≡ request_of e.act = cc same in
    let found = sym c.in-Some.is ∙ c.act_of.ensures.kept e is parts request in
    let act : c.in-Some.act ≡ e.act = cc found in
    ap (λ (x : Entry). Some x) (λ i. record { caller = parts.caller i; number = parts.number i; stamp = parts.stamp i; act = act i })

pub returns-in-None-clause-kept : goal.returns-in-None-clause-kept
returns-in-None-clause-kept c = λ e is parts.
    let asked = ap (λ t. asked_of (codes "GET") t []) parts.target ∙ written_again e.act is.bounded.form in
    let same = sym c.in-Request.ensures ∙ asked in
    let request : c.in-Request.request ≡ request_of e.act = cc same in
    let found = sym c.in-None.is ∙ c.act_of.ensures.kept e is parts request in
    absurd (cc found)
