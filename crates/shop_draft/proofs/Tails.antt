-- Ids behind a sign.
use Rattle.std.proofs.Common.{◌≡◌, ℕ, ◌≤◌, List, [], ◌++◌, Option, Some, None, length, drop, codes, decimal, arith, refl, sym, ◌∙◌, append-nil}
use Rattle.shop_text.specs.Escape.{escape}
use Rattle.shop_text.proofs.cited.Plain.{escape_append}
use Rattle.shop_model.specs.pages.Targets.{pairs, id_fields}
use Rattle.shop_history.specs.declared.acts.Drawn.{Drawn}
use Rattle.shop_draft.specs.Drawing.{ids_at}
use Rattle.shop_draft.specs.Links.{HasIds, known_ids, marked, ids_behind}

first_id : (mark : List ℕ) (id : ℕ) → escape (mark ++ decimal id ++ []) ≡ escape mark ++ escape (decimal id)
first_id mark id = rw (append-nil (mark ++ decimal id)) (escape_append mark (decimal id))

both_ids : (mark second : List ℕ) (id other : ℕ)
    → escape (mark ++ decimal id ++ (second ++ decimal other ++ [])) ≡ escape mark ++ escape (decimal id) ++ (escape second ++ escape (decimal other))
both_ids mark second id other =
    rw (append-nil (second ++ decimal other), escape_append (mark ++ decimal id) (second ++ decimal other), escape_append mark (decimal id), escape_append second (decimal other)) refl

-- the text of an id behind its mark, where there is one
abbrev pub in_turn : Option ℕ → Option ℕ → List ℕ
in_turn c cart = marked (codes "&amp;c=") c ++ marked (codes "&amp;cart=") cart

-- ids behind `&`, one after another
pub one_by_one : (c cart : Option ℕ) → ids_behind (codes "&") (record { c = c; cart = cart }) ≡ in_turn c cart
unfolding pairs id_fields
one_by_one None None = refl
one_by_one (Some c) None = first_id (codes "&c=") c ∙ sym (append-nil (codes "&amp;c=" ++ escape (decimal c)))
one_by_one None (Some cart) = first_id (codes "&cart=") cart
one_by_one (Some c) (Some cart) = both_ids (codes "&c=") (codes "&cart=") c cart

-- the ids of a page that are known
pub at_known : (drawn : Drawn) (c cart : Option ℕ) → ids_at drawn (known_ids (record { c = c; cart = cart })) ≡ record { c = c; cart = cart }
at_known drawn None None = refl
at_known drawn (Some c) None = refl
at_known drawn None (Some cart) = refl
at_known drawn (Some c) (Some cart) = refl

-- ids behind `?` are those behind `&`, but for the sign
pub as_first : (c cart : Option ℕ) → HasIds (known_ids (record { c = c; cart = cart }))
    → ids_behind (codes "?") (record { c = c; cart = cart }) ≡ codes "?" ++ drop 5 (ids_behind (codes "&") (record { c = c; cart = cart }))
unfolding pairs id_fields
as_first None None some = absurd (some refl refl)
as_first (Some c) cart some = refl
as_first None (Some cart) some = refl

-- the sign of those behind `&` is there
pub long : (c cart : Option ℕ) → HasIds (known_ids (record { c = c; cart = cart })) → 5 ≤ length (ids_behind (codes "&") (record { c = c; cart = cart }))
unfolding pairs id_fields
long None None some = absurd (some refl refl)
long (Some c) cart some = omega arith
long None (Some cart) some = omega arith
