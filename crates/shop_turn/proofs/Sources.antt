-- Where stamps come from, and who owns the numbers, after a change of views.
use Rattle.std.proofs.Common.{◌≡◌, ℕ, ◌≤◌, List, [], ◌∷◌, ◌++◌, eqb, sym, subst, arith, ◌∙◌, ap, refl, ◌≢◌, inl, inr, zero, suc, set, cond, eq-eqb, ne_eqb}
use Rattle.std.proofs.lemmas.List.Elements.{All-weaker}
use Rattle.std.specs.List.{All, Contains}
use mathlib.Core.Logic.{dite}
use mathlib.Core.Option.{some, some-ne-none, some-injective}
use native.Mathlib.Decide.{ℕ_discrete}
use lib.ListN.{get_elem?}
use Rattle.atomic_table.proofs.Lists.{set_else, at_longer}
use Rattle.shop_history.specs.declared.acts.Entry.{Entry}
use Rattle.shop_turn.specs.declared.rule.Origin.{Origin}
use Rattle.shop_turn.specs.declared.rule.View.{View}
use Rattle.shop_turn.specs.Rule.{IsSourced, EntryFits}

pub at_here : {A : Type 0} (l : List A) (i : ℕ) (a b : A) → get_elem? l i ≡ some a → get_elem? (set l i b) i ≡ some b
at_here [] i a b e = absurd (some-ne-none a (sym e))
at_here (x ∷ xs) zero a b e = refl
at_here (x ∷ xs) (suc i) a b e = at_here xs i a b e

-- owners, where `at` is given to `id`
abbrev pub given : (ℕ → ℕ) → ℕ → ℕ → ℕ → ℕ
given owner at id c = cond (eqb c at) id (owner c)

pub given-at : (owner : ℕ → ℕ) (at id : ℕ) → given owner at id at ≡ id
given-at owner at id = ap (λ b. cond b id (owner at)) (eq-eqb at at refl)

pub given-else : (owner : ℕ → ℕ) (at id c : ℕ) → c ≢ at → given owner at id c ≡ owner c
given-else owner at id c n = ap (λ b. cond b id (owner c)) (ne_eqb c at n)

-- owners, where all that `from` had is given to `id`
abbrev pub moved : (ℕ → ℕ) → ℕ → ℕ → ℕ → ℕ
moved owner from id c = cond (eqb (owner c) from) id (owner c)

pub moved-from : (owner : ℕ → ℕ) (from id c : ℕ) → owner c ≡ from → moved owner from id c ≡ id
moved-from owner from id c e = ap (λ b. cond b id (owner c)) (eq-eqb (owner c) from e)

pub moved-else : (owner : ℕ → ℕ) (from id c : ℕ) → owner c ≢ from → moved owner from id c ≡ owner c
moved-else owner from id c n = ap (λ b. cond b id (owner c)) (ne_eqb (owner c) from n)

-- where a moment comes from, after a change of one view
pub source_set : (origin : Origin) (owner owner' : ℕ → ℕ) (named named' : ℕ) (views : List View) (id : ℕ) (v w : View) → get_elem? views id ≡ some v → ((x : ℕ × ℕ) → Contains v.marks x → Contains w.marks x)
    → named ≤ named' → ((c : ℕ) → c ≤ named → owner' c ≡ owner c) → (m : ℕ) → IsSourced origin owner named views m → IsSourced origin owner' named' (set views id w) m
source_set origin owner owner' named named' views id v w at more le same m (inl e) = inl e
source_set origin owner owner' named named' views id v w at more le same m (inr f) =
    inr (dite (ℕ_discrete (owner f.caller) id) (λ (e : owner f.caller ≡ id).
    let is : f.view ≡ v = some-injective f.view v (sym f.there ∙ ap (get_elem? views) e ∙ at) in
    record {
      caller = f.caller;
      one = f.one;
      most = let a = f.most in omega arith;
      view = w;
      there = subst (λ j. get_elem? (set views id w) j ≡ some w) (sym (same f.caller f.most ∙ e)) (at_here views id v w at);
      front = f.front;
      mark = more (f.front, m) (subst (λ (u : View). Contains u.marks (f.front, m)) is f.mark);
    })
    (λ (ne : owner f.caller ≢ id).
    record {
      caller = f.caller;
      one = f.one;
      most = let a = f.most in omega arith;
      view = f.view;
      there = subst (λ j. get_elem? (set views id w) j ≡ some f.view) (sym (same f.caller f.most)) (set_else views id (owner f.caller) w ne ∙ f.there);
      front = f.front;
      mark = f.mark;
    }))

pub source_push : (origin : Origin) (owner : ℕ → ℕ) (named : ℕ) (views : List View) (w : View) (m : ℕ) → IsSourced origin owner named views m → IsSourced origin owner named (views ++ w ∷ []) m
source_push origin owner named views w m (inl e) = inl e
source_push origin owner named views w m (inr f) = inr (record { caller = f.caller; one = f.one; most = f.most; view = f.view; there = at_longer views (w ∷ []) (owner f.caller) f.view f.there; front = f.front; mark = f.mark })

pub source_join : (origin : Origin) (owner : ℕ → ℕ) (named : ℕ) (views : List View) (id other : ℕ) (v w both spent : View) → get_elem? views id ≡ some v → get_elem? views other ≡ some w → id ≢ other
    → ((x : ℕ × ℕ) → Contains v.marks x → Contains both.marks x) → ((x : ℕ × ℕ) → Contains w.marks x → Contains both.marks x) → (m : ℕ)
    → IsSourced origin owner named views m → IsSourced origin (moved owner other id) named (set (set views id both) other spent) m
source_join origin owner named views id other v w both spent at there apart left right m (inl e) = inl e
source_join origin owner named views id other v w both spent at there apart left right m (inr f) =
    let here : get_elem? (set (set views id both) other spent) id ≡ some both = set_else (set views id both) other id spent apart ∙ at_here views id v both at in
    inr (dite (ℕ_discrete (owner f.caller) other) (λ (e : owner f.caller ≡ other).
    let is : f.view ≡ w = some-injective f.view w (sym f.there ∙ ap (get_elem? views) e ∙ there) in
    record {
      caller = f.caller;
      one = f.one;
      most = f.most;
      view = both;
      there = subst (λ j. get_elem? (set (set views id both) other spent) j ≡ some both) (sym (moved-from owner other id f.caller e)) here;
      front = f.front;
      mark = right (f.front, m) (subst (λ (u : View). Contains u.marks (f.front, m)) is f.mark);
    })
    (λ (ne : owner f.caller ≢ other). dite (ℕ_discrete (owner f.caller) id) (λ (e : owner f.caller ≡ id).
    let is : f.view ≡ v = some-injective f.view v (sym f.there ∙ ap (get_elem? views) e ∙ at) in
    record {
      caller = f.caller;
      one = f.one;
      most = f.most;
      view = both;
      there = subst (λ j. get_elem? (set (set views id both) other spent) j ≡ some both) (sym (moved-else owner other id f.caller ne ∙ e)) here;
      front = f.front;
      mark = left (f.front, m) (subst (λ (u : View). Contains u.marks (f.front, m)) is f.mark);
    })
    (λ (no_id : owner f.caller ≢ id).
    record {
      caller = f.caller;
      one = f.one;
      most = f.most;
      view = f.view;
      there = subst (λ j. get_elem? (set (set views id both) other spent) j ≡ some f.view) (sym (moved-else owner other id f.caller ne)) (set_else (set views id both) other (owner f.caller) spent ne ∙ set_else views id (owner f.caller) both no_id ∙ f.there);
      front = f.front;
      mark = f.mark;
    })))

pub entries_weaker : (origin : Origin) (owner owner' : ℕ → ℕ) (named named' : ℕ) (views views' : List View) (xs : List Entry) → named ≤ named' → ((m : ℕ) → IsSourced origin owner named views m → IsSourced origin owner' named' views' m)
    → All (EntryFits origin owner named views) xs → All (EntryFits origin owner' named' views') xs
entries_weaker origin owner owner' named named' views views' xs le go = All-weaker (EntryFits origin owner named views) (EntryFits origin owner' named' views') (λ e t. (t.0, let a = t.1 in omega arith, go e.stamp t.2)) xs
