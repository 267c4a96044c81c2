-- What a caller of a gateway that decides by its ledger concludes from its answers.
use Rattle.std.proofs.Common.{◌≡◌, ◌∙◌, Bool, true, false, cond, List, [], ◌∷◌, Option, Some, None, refl, sym, ap, subst}
use Rattle.std.specs.List.{All, AllByRecursion, Contains, find}
use Rattle.std.proofs.lemmas.List.Elements.{All-from_recursion, All-push, recursion_from_All, All-contains_itself, All-nil, All-weaker}
use Rattle.shop_edges.specs.Charges.{ChargeValue}
use Rattle.shop_edges.specs.declared.gateway.Answer.{Answer}
use Rattle.shop_edges.specs.declared.gateway.Reason.TheVariants.{Reused}
use Rattle.shop_edges.specs.declared.gateway.Verdict.TheVariants.{Denied}
use Rattle.shop_gateway.specs.Verdicts.{AreVerdicts, key_of, same_key, entry_at, verdict, verdict_by, ledger_after, ledger_by, first_verdict, first_answer}
use Rattle.shop_gateway.proofs.Charges.{same_charge_self, same_key_is}

-- what is found is one of all, and passes the test
found : {X : Type 0} (P : X → Type 0) (test : X → Bool) (xs : List X) (x : X) → AllByRecursion P xs → find test xs ≡ Some x → P x × (test x ≡ true)
found P test [] x all is = absurd cc
found P test (y ∷ ys) x all is = by (found P test ys x all.1) (test y) refl is
  where
    by : (find test ys ≡ Some x → P x × (test x ≡ true)) → (b : Bool) → test y ≡ b → cond b (Some y) (find test ys) ≡ Some x → P x × (test x ≡ true)
    by later true here is = let same : y ≡ x = cc in (subst P same all.0, ap test (sym same) ∙ here)
    by later false here is = later is

module _ (P : ChargeValue → Type 0) (one : (a b : ChargeValue) → P a → P b → key_of a ≡ key_of b → a ≡ b) where
  -- an entry of one of these charges, with its first verdict
  record IsFirst (entry : Answer) : Type 0 where
    of : P entry.charge
    first : entry.verdict ≡ first_verdict entry.charge

  -- a ledger of such entries gives the first verdict, and stays one
  first_by : (ledger : List Answer) (charge : ChargeValue) → All IsFirst ledger → P charge
      → (verdict ledger charge ≡ first_verdict charge) × All IsFirst (ledger_after ledger charge)
  first_by ledger charge all of = by (entry_at ledger (key_of charge)) refl
    where
      by : (o : Option Answer) → entry_at ledger (key_of charge) ≡ o → (verdict_by o charge ≡ first_verdict charge) × All IsFirst (ledger_by o ledger charge)
      by None is = (refl, All-push IsFirst ledger (first_answer charge) all (record { of = of; first = refl }))
      by (Some entry) is =
          let parts = found IsFirst (λ e. same_key (key_of e.charge) (key_of charge)) ledger entry (recursion_from_All IsFirst ledger all) is in
          let same : entry.charge ≡ charge = one entry.charge charge parts.0.of of (same_key_is (key_of entry.charge) (key_of charge) parts.1) in
          let told : verdict_by (Some entry) entry.charge ≡ entry.verdict = ap (λ b. cond b entry.verdict (Denied Reused)) (same_charge_self entry.charge) in
          (ap (verdict_by (Some entry)) (sym same) ∙ told ∙ parts.0.first ∙ ap first_verdict same, all)

  firsts : (ledger answers : List Answer) → All IsFirst ledger → AllByRecursion (λ (a : Answer). P a.charge) answers → AreVerdicts ledger answers
      → AllByRecursion (λ (a : Answer). a.verdict ≡ first_verdict a.charge) answers
  firsts ledger [] all of are = tt
  firsts ledger (answer ∷ answers) all of are =
      let first = first_by ledger answer.charge all of.0 in
      (are.0 ∙ first.0, firsts (ledger_after ledger answer.charge) answers first.1 of.1 are.1)

-- where no two charges share a key, each answer is the verdict of the empty ledger
pub all_first : (answers : List Answer) → AreVerdicts [] answers
    → ((a b : Answer) → Contains answers a → Contains answers b → key_of a.charge ≡ key_of b.charge → a.charge ≡ b.charge)
    → All (λ a. a.verdict ≡ verdict [] a.charge) answers
all_first answers are one =
    All-from_recursion (λ (a : Answer). a.verdict ≡ verdict [] a.charge) answers
    (firsts IsAsked agree [] answers (All-nil (IsFirst IsAsked agree))
    (recursion_from_All (λ (a : Answer). IsAsked a.charge) answers
    (All-weaker (Contains answers) (λ (a : Answer). IsAsked a.charge) (λ a there. (a, there, refl)) answers (All-contains_itself answers)))
    are)
  where
    IsAsked : ChargeValue → Type 0
    IsAsked charge = (a : Answer) × Contains answers a × (a.charge ≡ charge)

    agree : (c d : ChargeValue) → IsAsked c → IsAsked d → key_of c ≡ key_of d → c ≡ d
    agree c d asked other same =
        sym asked.2 ∙ one asked.0 other.0 asked.1 other.1 (ap key_of asked.2 ∙ same ∙ ap key_of (sym other.2)) ∙ other.2
