-- Parameters that were added, one after another.
use Rattle.std.proofs.Common.{◌≡◌, ℕ, List, [], ◌∷◌, ◌++◌, ◌||◌, Option, Some, None, codes, decimal, refl, sym, ap, ◌∙◌, append_assoc, append-nil}
use Rattle.std.specs.Prelude.{if◌then◌else◌}
use Rattle.std.specs.Option.{is_some}
use Rattle.shop_model.specs.declared.page.Field.{Field}
use Rattle.shop_model.specs.pages.Targets.{pairs, id_field, number_field}
use Rattle.shop_browsers.specs.Adding.{Adds, AddsLast, id_text}

-- the last ones came
pub adds_last : (before middle after sign next : List ℕ) (fields more : List Field)
    → Adds before sign fields middle next → AddsLast middle next more after → AddsLast before sign (fields ++ more) after
adds_last before middle after sign next fields more first last = last ∙ first.behind more

-- some came behind others
pub adds_both : (before middle after sign next then_next : List ℕ) (fields others : List Field)
    → Adds before sign fields middle next → Adds middle next others after then_next → Adds before sign (fields ++ others) after then_next
adds_both before middle after sign next then_next fields others first second = record {
  behind = λ more. second.behind more ∙ first.behind (others ++ more) ∙ ap (λ all. before ++ pairs sign all) (sym (append_assoc fields others more));
}

-- these and no more
pub adds_all : (before after sign next : List ℕ) (fields : List Field) → Adds before sign fields after next → AddsLast before sign fields after
unfolding pairs
adds_all before after sign next fields adds =
    sym (append-nil after) ∙ adds.behind [] ∙ ap (λ all. before ++ pairs sign all) (append-nil fields)

-- bytes came that read as parameters, whatever is added to them
pub added : (before after bytes sign : List ℕ) (fields : List Field) → after ≡ before ++ bytes
    → ((more : List Field) → bytes ++ pairs (codes "&") more ≡ pairs sign (fields ++ more)) → Adds before sign fields after (codes "&")
added before after bytes sign fields is reads = record {
  behind = λ more.
      ap (λ text. text ++ pairs (codes "&") more) is ∙ append_assoc before bytes (pairs (codes "&") more)
      ∙ ap (λ text. before ++ text) (reads more);
}

-- a sign came, and a parameter behind it
pub added_signed : (before middle after sign name value : List ℕ) → middle ≡ before ++ sign → after ≡ middle ++ ((name ++ codes "=") ++ value)
    → Adds before sign (record { name = name; value = value } ∷ []) after (codes "&")
unfolding pairs
added_signed before middle after sign name value first second = record { behind = λ more. rw (second, first) (whole (pairs (codes "&") more)) }
  where
    whole : (rest : List ℕ) → ((before ++ sign) ++ ((name ++ codes "=") ++ value)) ++ rest ≡ before ++ ((((sign ++ name) ++ codes "=") ++ value) ++ rest)
    whole rest = simp append_assoc refl

-- an id came, or none did
pub id_added : (before after name : List ℕ) (id : Option ℕ) → after ≡ before ++ id_text ((codes "&" ++ name) ++ codes "=") id
    → Adds before (codes "&") (id_field name id) after (codes "&")
unfolding pairs
id_added before after name None is = record { behind = λ more. ap (λ text. text ++ pairs (codes "&") more) (is ∙ append-nil before) }
id_added before after name (Some id) is =
    added before after (((codes "&" ++ name) ++ codes "=") ++ decimal id) (codes "&") (number_field name id ∷ []) is (λ more. refl)

-- the same, and no more
pub id_last : (before after sign name : List ℕ) (id : Option ℕ) → after ≡ before ++ id_text ((sign ++ name) ++ codes "=") id → AddsLast before sign (id_field name id) after
unfolding pairs
id_last before after sign name None is = is
id_last before after sign name (Some id) is = is ∙ ap (λ text. before ++ text) (sym (append-nil (((sign ++ name) ++ codes "=") ++ decimal id)))

-- parameters behind others
pairs_more : (sign : List ℕ) (field : Field) (fields more : List Field) → pairs sign (field ∷ fields) ++ pairs (codes "&") more ≡ pairs sign (field ∷ (fields ++ more))
unfolding pairs
pairs_more sign field [] more =
    ap (λ text. text ++ pairs (codes "&") more) (append-nil (((sign ++ field.name) ++ codes "=") ++ field.value))
pairs_more sign field (other ∷ fields) more =
    append_assoc (((sign ++ field.name) ++ codes "=") ++ field.value) (pairs (codes "&") (other ∷ fields)) (pairs (codes "&") more)
    ∙ ap (λ text. (((sign ++ field.name) ++ codes "=") ++ field.value) ++ text) (pairs_more (codes "&") other fields more)

-- more parameters may come behind some
more_behind : (before after : List ℕ) (field : Field) (fields : List Field) → AddsLast before (codes "?") (field ∷ fields) after
    → Adds before (codes "?") (field ∷ fields) after (codes "&")
more_behind before after field fields is = added before after (pairs (codes "?") (field ∷ fields)) (codes "?") (field ∷ fields) is (pairs_more (codes "?") field fields)

none_behind : (before after : List ℕ) → AddsLast before (codes "?") [] after → Adds before (codes "?") [] after (codes "?")
unfolding pairs
none_behind before after is = record { behind = λ more. ap (λ text. text ++ pairs (codes "?") more) (is ∙ append-nil before) }

-- more parameters may come behind an id, or none
pub id_behind : (before after name : List ℕ) (id : Option ℕ) → AddsLast before (codes "?") (id_field name id) after
    → Adds before (codes "?") (id_field name id) after (if is_some id then codes "&" else codes "?")
id_behind before after name None is = none_behind before after is
id_behind before after name (Some id) is = more_behind before after (number_field name id) [] is

-- the same of two
pub ids_behind : (before after name other : List ℕ) (id second : Option ℕ) → AddsLast before (codes "?") (id_field name id ++ id_field other second) after
    → Adds before (codes "?") (id_field name id ++ id_field other second) after (if is_some id || is_some second then codes "&" else codes "?")
ids_behind before after name other None second is = id_behind before after other second is
ids_behind before after name other (Some id) second is = more_behind before after (number_field name id) (id_field other second) is
