use Rattle.std.proofs.Common.{◌≡◌, ℕ, List, [], ◌++◌, Option, Some, None, sym, ap, ◌∙◌, subst}
use Rattle.std.specs.Option.{option_and_then, ok_or}
use Rattle.std.specs.Prelude.{Ok, Err}
use Rattle.shop_model.specs.declared.parameter.Parameter.TheVariants.{Qty}
use Rattle.shop_http.specs.Answers.{Reads}
use Rattle.shop_http.specs.Forms.{Pair}
use Rattle.shop_http.specs.Sets.{few, sets_behind, sets_asked}
use Rattle.shop_http.specs.declared.requests.fault.Fault.{Fault}
use Rattle.shop_http.specs.declared.requests.fault.Fault.TheVariants as fault
use Rattle.shop_http.proofs.AnswerLemmas.{carried}
use Rattle.shop_http.proofs.SetBounds.{found_is}
use Rattle.shop_http.proofs.SetLemmas.{sets_behind-append, asked-behind, sets_asked-many, sets_asked-few}
use Rattle.shop_http.proofs.requests.cart.sets_among.Goals as goal

-- a fault stays one, whatever was to follow
still : {A B : Type 0} (next : A → Option B) (asked : Option A) (why : Fault) → Reads (ok_or asked Qty) (Err why) → Reads (ok_or (option_and_then next asked) Qty) (Err why)
still next None (fault.Parameter parameter) reads =
    let same : Qty ≡ parameter = cc in
    ap Err same
still next None fault.Memory reads = tt
still next (Some x) (fault.Parameter parameter) reads = cc
still next (Some x) fault.Memory reads = tt

-- all sets of two texts, where those of the first were read, and where those of both were

two : (before one : List (ℕ × ℕ)) (pairs others : List Pair) → before ≡ [] → ok_or (sets_behind before pairs) Qty ≡ Ok one
    → sets_behind [] (pairs ++ others) ≡ sets_behind one others
two before one pairs others none front =
    sets_behind-append [] pairs others
    ∙ ap (option_and_then (λ more. sets_behind more others)) (ap (λ sets. sets_behind sets pairs) (sym none) ∙ found_is _ one front)

both : (before one all : List (ℕ × ℕ)) (pairs others : List Pair) → before ≡ [] → ok_or (sets_behind before pairs) Qty ≡ Ok one
    → ok_or (sets_behind one others) Qty ≡ Ok all → sets_behind [] (pairs ++ others) ≡ Some all
both before one all pairs others none front behind = two before one pairs others none front ∙ found_is _ all behind

-- a fault of all the sets is one of what is asked
fault-all : (pairs : List Pair) (found : Option (List (ℕ × ℕ))) (why : Fault) → sets_behind [] pairs ≡ found
    → Reads (ok_or found Qty) (Err why) → Reads (ok_or (sets_asked pairs) Qty) (Err why)
fault-all pairs found why all reads =
    subst (λ asked. Reads (ok_or asked Qty) (Err why)) (ap (option_and_then few) (sym all) ∙ sym (asked-behind pairs)) (still few found why reads)

fault-first : (before : List (ℕ × ℕ)) (pairs others : List Pair) (why : Fault) → before ≡ []
    → Reads (ok_or (sets_behind before pairs) Qty) (Err why) → Reads (ok_or (sets_asked (pairs ++ others)) Qty) (Err why)
fault-first before pairs others why none reads =
    let next = λ (more : List (ℕ × ℕ)). sets_behind more others in
    fault-all (pairs ++ others) (option_and_then next (sets_behind before pairs)) why
    (sets_behind-append [] pairs others ∙ ap (λ sets. option_and_then next (sets_behind sets pairs)) (sym none)) (still next (sets_behind before pairs) why reads)

fault-second : (before one : List (ℕ × ℕ)) (pairs others : List Pair) (why : Fault) → before ≡ [] → ok_or (sets_behind before pairs) Qty ≡ Ok one
    → Reads (ok_or (sets_behind one others) Qty) (Err why) → Reads (ok_or (sets_asked (pairs ++ others)) Qty) (Err why)
fault-second before one pairs others why none front reads =
    fault-all (pairs ++ others) (sets_behind one others) why (two before one pairs others none front) reads

pub returns-in_err-sets : goal.returns-in_err-sets
returns-in_err-sets c =
    rw (c.texts.ensures, carried _ _ c.from_residual.ensures.1) (fault-first c.new.result _ _ _ c.new.ensures c.in_err-sets.ensures)

pub returns-in_err-sets-2 : goal.returns-in_err-sets-2
returns-in_err-sets-2 c =
    rw (c.texts.ensures, carried _ _ c.from_residual-in_err-sets-2.ensures.1)
    (fault-second c.new.result c.in_ok-sets.sets _ _ _ c.new.ensures c.in_ok-sets.ensures c.in_err-sets-2.ensures)

pub returns-then-as_slice-gt-SETS_LIMIT : goal.returns-then-as_slice-gt-SETS_LIMIT
returns-then-as_slice-gt-SETS_LIMIT c =
    let all = both c.new.result _ _ _ _ c.new.ensures c.in_ok-sets.ensures c.in_ok-sets-2.ensures in
    let many = rw c.as_slice.ensures at c.if-as_slice-gt-SETS_LIMIT.true in
    rw c.texts.ensures (ap (λ asked. ok_or asked Qty) (sets_asked-many _ _ all many))

pub returns : goal.returns
returns c =
    let all = both c.new.result _ _ _ _ c.new.ensures c.in_ok-sets.ensures c.in_ok-sets-2.ensures in
    let short = rw c.as_slice.ensures at c.if-as_slice-gt-SETS_LIMIT.false in
    rw c.texts.ensures (ap (λ asked. ok_or asked Qty) (sets_asked-few _ _ all short))
