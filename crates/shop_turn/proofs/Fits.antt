-- What a seat knows fits the rule, after a step of another or of its own.
use Rattle.std.proofs.Common.{◌≡◌, ℕ, ◌*◌, ◌≤◌, List, [], ◌∷◌, ◌++◌, length, get_or, Some, sym, subst, arith, ◌∙◌, ap, length-append, refl, ◌≢◌, ⊎_elim, set, drop, append_assoc}
use Rattle.std.proofs.lemmas.List.Elements.{All-head, All-weaker, All-push}
use Rattle.std.specs.List.{All}
use Rattle.std.proofs.lemmas.List.{drop-append-le}
use mathlib.Core.Option.{some}
use lib.ListN.{get_elem?}
use Rattle.atomic_table.proofs.Lists.{at_set}
use Rattle.shop_history.specs.declared.acts.Entry.{Entry}
use Rattle.shop_turn.specs.declared.rule.Origin.{Origin}
use Rattle.shop_turn.specs.declared.rule.Part.{Part}
use Rattle.shop_turn.specs.declared.rule.View.{View}
use Rattle.shop_turn.specs.Rule.{PartFits, Now, Homes, CallerFits, Fits, shelved}
use Rattle.shop_turn.specs.Marks.{MarkFits}

pub each_set : {V : Type 0} (F G : ℕ → V → Type 0) (views : List V) (id : ℕ) (w : V) → ((by : ℕ) (v : V) → get_elem? views by ≡ some v → F by v)
    → ((by : ℕ) (v : V) → by ≢ id → F by v → G by v) → G id w → (by : ℕ) (v : V) → get_elem? (set views id w) by ≡ some v → G by v
each_set F G views id w old carry new by v e =
    ⊎_elim (λ (t : (by ≡ id) × (w ≡ v)). subst (λ j. G j v) (sym t.0) (subst (G id) t.1 new)) (λ (t : (by ≢ id) × (get_elem? views by ≡ some v)). carry by v t.0 (old by v t.1)) (at_set views id by w v e)

pub drop-all : {A : Type 0} (xs : List A) → drop (length xs) xs ≡ []
drop-all [] = refl
drop-all (x ∷ xs) = drop-all xs

pub own_of : (origin : Origin) (now : Now) (by : ℕ) (v : View) → Fits origin now by v → PartFits now.log now.owner now.named by v.own
own_of origin now by v f = All-head (PartFits now.log now.owner now.named by) v.own v.others f.parts

-- the numbers of two seats are two
pub not_one : (origin : Origin) (now : Now) (by id : ℕ) (u v : View) → Fits origin now by u → Fits origin now id v → by ≢ id → 1 ≤ u.own.number → 1 ≤ v.own.number → u.own.number ≢ v.own.number
not_one origin now by id u v f g apart theirs mine same =
    apart (sym ((own_of origin now by u f).owned theirs).1 ∙ ap now.owner same ∙ ((own_of origin now id v g).owned mine).1)

-- a caller whose word and slot a step leaves, at the same stage
pub same_caller : (origin : Origin) (now now' : Now) (words words' : List ℕ) (homes homes' : Homes) (c : ℕ) → now'.log ≡ now.log → now'.shelf ≡ now.shelf → now'.stage c ≡ now.stage c → now'.gathered ≡ now.gathered
    → get_or words' (16 * c) 0 ≡ get_or words (16 * c) 0 → get_elem? homes' (8 * c) ≡ get_elem? homes (8 * c) → CallerFits origin now words homes c → CallerFits origin now' words' homes' c
same_caller origin now now' words words' homes homes' c log shelf stage gathered word slot k = record {
  home = λ out late. let old = k.home (sym stage ∙ out) (omega arith) in (word ∙ old.0, slot ∙ old.1 ∙ (λ i. some (some (Some (shelved origin (sym log i) (sym shelf i))))));
  inside = λ some_stage. let old = k.inside (omega arith) in (word ∙ old.0, let a = old.1 in omega arith);
  taken = λ low. word ∙ k.taken (omega arith);
}

-- a part, after an entry of another seat
pub part_push : (log : List Entry) (owner : ℕ → ℕ) (named by id : ℕ) (e : Entry) (p : Part) → owner e.caller ≡ id → by ≢ id → PartFits log owner named by p → PartFits (log ++ e ∷ []) owner named by p
part_push log owner named by id e p mine apart f = record {
  after = f.after ++ e ∷ [];
  is = ap (λ l. l ++ e ∷ []) f.is ∙ append_assoc p.seen f.after (e ∷ []);
  alone = λ one. All-push (λ x. x.caller ≢ p.number) f.after e (f.alone one) (λ same. apart (sym ((f.owned one).1) ∙ ap owner (sym same) ∙ mine));
  owned = f.owned;
}

pub mark_push : (log : List Entry) (latest : ℕ) (e : Entry) (m : ℕ × ℕ) → e.stamp ≡ latest → MarkFits log latest m → MarkFits (log ++ e ∷ []) latest m
mark_push log latest e m is f = record {
  front = let a = f.front in omega (arith, length-append log (e ∷ []));
  moment = f.moment;
  above = rw (drop-append-le m.0 log (e ∷ []) f.front) (All-push (λ (x : Entry). m.1 ≤ x.stamp) (drop m.0 log) e f.above (let a = f.moment in omega arith));
}

-- what a part knows, under other owners and more names
pub part_under : (log : List Entry) (owner owner' : ℕ → ℕ) (named named' by by' : ℕ) (p : Part) → named ≤ named' → (1 ≤ p.number → p.number ≤ named → owner p.number ≡ by → owner' p.number ≡ by') → PartFits log owner named by p → PartFits log owner' named' by' p
part_under log owner owner' named named' by by' p le same f = record {
  after = f.after;
  is = f.is;
  alone = f.alone;
  owned = λ one. (let a = (f.owned one).0 in omega arith, same one (f.owned one).0 (f.owned one).1);
}

pub parts_under : (log : List Entry) (owner owner' : ℕ → ℕ) (named named' by by' : ℕ) (ps : List Part) → named ≤ named' → ((c : ℕ) → 1 ≤ c → c ≤ named → owner c ≡ by → owner' c ≡ by') → All (PartFits log owner named by) ps → All (PartFits log owner' named' by') ps
parts_under log owner owner' named named' by by' ps le same = All-weaker (PartFits log owner named by) (PartFits log owner' named' by') (λ p f. part_under log owner owner' named named' by by' p le (same p.number) f) ps
