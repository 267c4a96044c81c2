-- A ledger with one entry more, and what comes of a charge.
use Rattle.std.proofs.Common.{◌≡◌, ◌≢◌, ℕ, zero, suc, ◌<◌, Bool, true, false, cond, List, [], ◌∷◌, ◌++◌, length, get_or, Option, Some, None, refl, sym, ◌∙◌, ap, subst, arith}
use Rattle.std.specs.List.{find}
use Rattle.std.specs.Option.{option_or, IfSome}
use Rattle.std.proofs.lemmas.List.Folds.{find-append}
use Rattle.std.proofs.lemmas.List.Quantifiers.{all_pairs_push}
use Rattle.std.proofs.lemmas.List.Sums.{fold_push}
use Rattle.shop_edges.specs.Charges.{ChargeValue}
use Rattle.shop_edges.specs.declared.gateway.Answer.{Answer}
use Rattle.shop_edges.specs.declared.gateway.Reason.TheVariants.{Reused}
use Rattle.shop_edges.specs.declared.gateway.Verdict.{Verdict}
use Rattle.shop_edges.specs.declared.gateway.Verdict.TheVariants.{Approved, Denied, Failed, Memory}
use Rattle.shop_gateway.specs.Verdicts.{Key, AreVerdicts, key_of, same_key, same_charge, entry_at, verdict, verdict_by, ledger_after, ledger_by, ledger_left, first_verdict, first_answer, next_verdict, next_answer}
use Rattle.shop_gateway.specs.Emulators.{EmulatorValue, IsSaid, IsLedger, IsDecided, IsAuthorized}
use Rattle.shop_gateway.proofs.Charges.{same_key_is, same_key_self}

or_none : (found : Option Answer) → option_or found None ≡ found
or_none None = refl
or_none (Some entry) = refl

passed_by : (b : Bool) (entry : Answer) (rest : Option Answer) → cond b (Some entry) rest ≡ None → (b ≡ false) × (rest ≡ None)
passed_by true entry rest is = absurd cc
passed_by false entry rest is = (refl, is)

-- where none is found, none passes
none_passes : (test : Answer → Bool) (entries : List Answer) → find test entries ≡ None → (k : ℕ) (d : Answer) → k < length entries → test (get_or entries k d) ≡ false
none_passes test [] is k d within = absurd (omega arith)
none_passes test (entry ∷ entries) is zero d within = (passed_by (test entry) entry (find test entries) is).0
none_passes test (entry ∷ entries) is (suc k) d within =
    none_passes test entries (passed_by (test entry) entry (find test entries) is).1 k d (omega arith)

-- answers, and one more by the ledger that they left
verdicts_more : (ledger answers : List Answer) (answer : Answer) → AreVerdicts ledger answers → answer.verdict ≡ verdict (ledger_left ledger answers) answer.charge
    → AreVerdicts ledger (answers ++ answer ∷ [])
verdicts_more ledger [] answer are is = (is, tt)
verdicts_more ledger (one ∷ answers) answer are is = (are.0, verdicts_more (ledger_after ledger one.charge) answers answer are.1 is)

left_more : (ledger answers : List Answer) (answer : Answer) → ledger ≡ ledger_left [] answers → ledger_after ledger answer.charge ≡ ledger_left [] (answers ++ answer ∷ [])
left_more ledger answers answer left =
    ap (λ (before : List Answer). ledger_after before answer.charge) left
    ∙ sym (fold_push (λ (before : List Answer) (a : Answer). ledger_after before a.charge) [] answers answer)

-- an answer by an entry leaves the ledger as it was
pub told : (ledger answers : List Answer) (entry answer : Answer) (entries : Key → Option Answer) → IsLedger ledger answers entries → entry_at ledger (key_of answer.charge) ≡ Some entry
    → answer.verdict ≡ next_verdict entry answer.charge → IsLedger ledger (answers ++ answer ∷ []) entries
told ledger answers entry answer entries was there is = record {
  left = ap (λ (o : Option Answer). ledger_by o ledger answer.charge) (sym there) ∙ left_more ledger answers answer was.left;
  verdicts = verdicts_more [] answers answer was.verdicts
      (is ∙ ap (λ (o : Option Answer). verdict_by o answer.charge) (sym there) ∙ ap (λ (before : List Answer). verdict before answer.charge) was.left);
  found = was.found;
  said = was.said;
  apart = was.apart;
}

-- an entry with a new key is found by it, and the others as before
pub entered : (ledger answers : List Answer) (entry : Answer) (entries later : Key → Option Answer) → IsLedger ledger answers entries → entry_at ledger (key_of entry.charge) ≡ None
    → entry.verdict ≡ first_verdict entry.charge → IsSaid entry.verdict → ((q : Key) → later q ≡ cond (same_key (key_of entry.charge) q) (Some entry) (entries q))
    → IsLedger (ledger ++ entry ∷ []) (answers ++ entry ∷ []) later
entered ledger answers entry entries later was absent first said changes =
    record {
      left =
          ap (λ v. let a : Answer = record { charge = entry.charge; verdict = v } in ledger ++ a ∷ []) first
          ∙ ap (λ (o : Option Answer). ledger_by o ledger entry.charge) (sym absent)
          ∙ left_more ledger answers entry was.left;
      verdicts = verdicts_more [] answers entry was.verdicts
          (first ∙ ap (λ (o : Option Answer). verdict_by o entry.charge) (sym absent) ∙ ap (λ (before : List Answer). verdict before entry.charge) was.left);
      found = λ q. changes q ∙ found_at q (same_key (key_of entry.charge) q) refl;
      said = λ q. subst (λ (o : Option Answer). IfSome o (λ e. IsSaid e.verdict)) (sym (changes q)) (said_at q (same_key (key_of entry.charge) q));
      apart = all_pairs_push (λ (one other : Answer). key_of one.charge ≢ key_of other.charge) ledger entry was.apart
          (λ k d within same.
          let differ = none_passes (λ (e : Answer). same_key (key_of e.charge) (key_of entry.charge)) ledger absent k d within in
          let alike : same_key (key_of (get_or ledger k d).charge) (key_of entry.charge) ≡ true =
          ap (λ (q : Key). same_key q (key_of entry.charge)) same ∙ same_key_self (key_of entry.charge) in
          cc);
    }
  where
    found_at : (q : Key) (b : Bool) → same_key (key_of entry.charge) q ≡ b → cond b (Some entry) (entries q) ≡ entry_at (ledger ++ entry ∷ []) q
    found_at q true here =
        let none : entry_at ledger q ≡ None = ap (entry_at ledger) (sym (same_key_is (key_of entry.charge) q here)) ∙ absent in
        sym (find-append (λ (e : Answer). same_key (key_of e.charge) q) ledger (entry ∷ [])
        ∙ ap (λ (o : Option Answer). option_or o (entry_at (entry ∷ []) q)) none
        ∙ ap (λ (b : Bool). cond b (Some entry) None) here)
    found_at q false apart =
        was.found q
        ∙ sym (find-append (λ (e : Answer). same_key (key_of e.charge) q) ledger (entry ∷ [])
        ∙ ap (λ (b : Bool). option_or (entry_at ledger q) (cond b (Some entry) None)) apart
        ∙ or_none (entry_at ledger q))

    said_at : (q : Key) (b : Bool) → IfSome (cond b (Some entry) (entries q)) (λ e. IsSaid e.verdict)
    said_at q true = said
    said_at q false = was.said q

decided : (old new : EmulatorValue) (charge : ChargeValue) (result : Verdict) → IsSaid result → IsDecided old new charge result → IsAuthorized old new charge result
decided old new charge (Approved auth) said is = is
decided old new charge (Denied reason) said is = is
decided old new charge Failed said is = absurd said
decided old new charge Memory said is = absurd said

-- a new key is entered
pub decided_first : (old new : EmulatorValue) (charge : ChargeValue) → entry_at old.ledger (key_of charge) ≡ None → IsSaid (first_verdict charge)
    → new.ledger ≡ old.ledger ++ first_answer charge ∷ [] → new.answers ≡ old.answers ++ first_answer charge ∷ [] → IsAuthorized old new charge (first_verdict charge)
decided_first old new charge absent said ledger answers =
    decided old new charge (first_verdict charge) said
    (record {
      verdict = ap (λ (o : Option Answer). verdict_by o charge) (sym absent);
      ledger = ledger ∙ ap (λ (o : Option Answer). ledger_by o old.ledger charge) (sym absent);
      answers = answers;
    })

said_next : (b : Bool) (entry : Answer) → IsSaid entry.verdict → IsSaid (cond b entry.verdict (Denied Reused))
said_next true entry said = said
said_next false entry said = tt

-- a key that an entry has leaves the ledger as it was
pub decided_next : (old new : EmulatorValue) (entry : Answer) (charge : ChargeValue) → entry_at old.ledger (key_of charge) ≡ Some entry → IsSaid entry.verdict
    → new.ledger ≡ old.ledger → new.answers ≡ old.answers ++ next_answer entry charge ∷ [] → IsAuthorized old new charge (next_verdict entry charge)
decided_next old new entry charge there said ledger answers =
    decided old new charge (next_verdict entry charge) (said_next (same_charge entry.charge charge) entry said)
    (record {
      verdict = ap (λ (o : Option Answer). verdict_by o charge) (sym there);
      ledger = ledger ∙ ap (λ (o : Option Answer). ledger_by o old.ledger charge) (sym there);
      answers = answers;
    })
