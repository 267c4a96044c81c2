use Rattle.std.proofs.Common.{◌≡◌, inl, inr, List, ℕ, map, length, IfSome, sym, ◌∙◌, ap, subst}
use Rattle.std.specs.Borrow.{Bor}
use Rattle.std.specs.Prelude.{Err}
use Rattle.shop_journal.specs.declared.logs.ReadError.TheVariants as read_error
use Rattle.shop_journal.specs.Headers.{IsHead, header_of}
use Rattle.shop_journal.specs.Journals.{StopsAt}
use Rattle.shop_journal.proofs.logs.log_in.Goals as goal

pub head_in-requires : goal.head_in-requires
head_in-requires c = let kept = c.header.ensures.kept in ap (λ (l : List ℕ). length l) (c.header.ensures.header kept.header kept.payloads kept.keeps) ∙ kept.keeps.headed

pub returns-in_default-clause-broken : goal.returns-in_default-clause-broken
returns-in_default-clause-broken c = λ header payloads at keeps same.
    let zero : 0 ≡ at = cc same in
    inl (sym zero, λ head is header_is. c.in_default.not-Some head (c.in_ok-head.ensures.kept head is (c.header.ensures.header header payloads keeps ∙ header_is)))

pub returns-clause-broken : goal.returns-clause-broken
returns-clause-broken c = λ header payloads at keeps same.
    let format = c.args.format in
    let fault : c.in-Err.fault ≡ read_error.Broken at = cc same in
    let some = subst (λ o. IfSome o (λ h. IsHead h × (c.header.result.now ≡ header_of format h))) c.in-Some.is c.in_ok-head.ensures.some in
    let listed : map (λ (p : Bor (List ℕ)). p.now) c.deref.result.now ≡ payloads = ap (map (λ (p : Bor (List ℕ)). p.now)) c.deref.ensures.value ∙ c.in_ok-payloads.ensures.payloads header payloads keeps in
    inr (record {
      head = c.in-Some.head;
      head_is = some.0;
      header_same = sym (c.header.ensures.header header payloads keeps) ∙ some.1;
      stops = subst (StopsAt format at) listed (c.in-Err.ensures.stops at (ap (λ x. Err x) fault));
    })

pub returns-in-Ok-clause-log : goal.returns-in-Ok-clause-log
returns-in-Ok-clause-log c = λ header payloads keeps.
    let format = c.args.format in
    let some = subst (λ o. IfSome o (λ h. IsHead h × (c.header.result.now ≡ header_of format h))) c.in-Some.is c.in_ok-head.ensures.some in
    let listed : map (λ (p : Bor (List ℕ)). p.now) c.deref.result.now ≡ payloads = ap (map (λ (p : Bor (List ℕ)). p.now)) c.deref.ensures.value ∙ c.in_ok-payloads.ensures.payloads header payloads keeps in
    record {
      head_is = some.0;
      each = c.in-Ok.ensures.each;
      header_same = sym (c.header.ensures.header header payloads keeps) ∙ some.1;
      payloads_same = sym listed ∙ c.in-Ok.ensures.payloads;
    }
