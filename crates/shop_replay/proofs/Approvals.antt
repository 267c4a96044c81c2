-- What is kept of a gateway that approves with one authorisation alone.
use Rattle.std.proofs.Common.{◌≡◌, ℕ, ◌≤◌, List, [], ◌∷◌, ◌++◌, length, map, Option, Some, None, refl, ◌∙◌, ap, subst, arith}
use Rattle.shop_model.specs.asked.PurchaseAsked.{PurchaseAsked}
use Rattle.shop_edges.specs.declared.charge.Call.{Call}
use Rattle.shop_edges.specs.declared.gateway.Answer.{Answer}
use Rattle.shop_edges.specs.declared.gateway.Reason.{Reason}
use Rattle.shop_edges.specs.declared.gateway.Verdict.TheVariants.{Approved, Denied}
use Rattle.shop_edges.specs.Charges.{ChargeValue}
use Rattle.shop_edges.specs.Payments.{AsksOnce, Keeps}
use Rattle.shop_replay.specs.declared.approver.Approver.{Approver}
use Rattle.shop_replay.specs.Approvals.{approval, no_charge, told}

same_list : (one other : List Answer) → Some one ≡ Some other → one ≡ other
same_list one other same = cc

same_rest : (first last : Answer) (one other : List Answer) → first ∷ one ≡ last ∷ other → one ≡ other
same_rest first last one other same = cc

-- what stands behind some of its answers has the same verdict
behind : (auth : List ℕ) (charges : List ChargeValue) (before : List Answer) (answer : Answer) → map (approval auth) charges ≡ before ++ answer ∷ [] → answer.verdict ≡ Approved auth
behind auth [] [] answer is = absurd cc
behind auth [] (first ∷ before) answer is = absurd cc
behind auth (charge ∷ charges) [] answer is = cc
behind auth (charge ∷ charges) (first ∷ before) answer is =
    behind auth charges before answer (same_rest (approval auth charge) first (map (approval auth) charges) (before ++ answer ∷ []) is)

-- and its first answer tells which
same_auth : (one other : List ℕ) → Approved one ≡ Approved other → one ≡ other
same_auth one other same = cc

same_first : (first last : Answer) (one other : List Answer) → first ∷ one ≡ last ∷ other → first ≡ last
same_first first last one other same = cc

first_is : (one other : List ℕ) (charge : ChargeValue) (answers more : List Answer) → approval other charge ∷ answers ≡ approval one charge ∷ more → other ≡ one
first_is one other charge answers more is =
    same_auth other one (ap (λ (a : Answer). a.verdict) (same_first (approval other charge) (approval one charge) answers more is))

kept_one : (answers : List Answer) (kept : Answer) → length answers ≤ 1 → Keeps None answers (Some kept) → answers ≡ kept ∷ []
kept_one [] kept few keeps = absurd cc
kept_one (answer ∷ []) kept few keeps = let last : Some kept ≡ Some answer = keeps.1 in cc
kept_one (answer ∷ other ∷ answers) kept few keeps = absurd (omega (arith, few))

pub kept_approval : (old new : Approver) (asked : PurchaseAsked) (call : Call) (kept : Answer) → AsksOnce asked call None (Some kept) (told old) (told new) → kept.verdict ≡ Approved old.auth
kept_approval old new asked call kept asks =
    let was : List Answer = map (approval old.auth) (no_charge ∷ old.charges) in
    let listed : map (approval new.auth) (no_charge ∷ new.charges) ≡ was ++ kept ∷ []
    = same_list (map (approval new.auth) (no_charge ∷ new.charges)) (was ++ asks.answers) (asks.answered.told was refl)
    ∙ ap (λ (more : List Answer). was ++ more) (kept_one asks.answers kept asks.few asks.keeps) in
    behind new.auth (no_charge ∷ new.charges) was kept listed
    ∙ ap Approved (first_is old.auth new.auth no_charge (map (approval new.auth) new.charges) (map (approval old.auth) old.charges ++ kept ∷ []) listed)

pub never_denied : (old new : Approver) (asked : PurchaseAsked) (call : Call) (kept : Option Answer) (charge : ChargeValue) (reason : Reason) → AsksOnce asked call None kept (told old) (told new)
    → kept ≡ Some (record { charge = charge; verdict = Denied reason }) → ⊥
never_denied old new asked call kept charge reason asks is =
    let answer : Answer = record { charge = charge; verdict = Denied reason } in
    absurd (cc (kept_approval old new asked call answer (subst (λ (k : Option Answer). AsksOnce asked call None k (told old) (told new)) is asks)))

pub approved_is : (old new : Approver) (asked : PurchaseAsked) (call : Call) (kept : Option Answer) (charge : ChargeValue) (auth : List ℕ) → AsksOnce asked call None kept (told old) (told new)
    → kept ≡ Some (record { charge = charge; verdict = Approved auth }) → auth ≡ old.auth
approved_is old new asked call kept charge auth asks is =
    let answer : Answer = record { charge = charge; verdict = Approved auth } in
    same_auth auth old.auth (kept_approval old new asked call answer (subst (λ (k : Option Answer). AsksOnce asked call None k (told old) (told new)) is asks))
