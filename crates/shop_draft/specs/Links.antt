-- Parts of links as they stand in a page.
use Rattle.std.specs.Prelude.{◌≡◌, ℕ, ◌≤◌, List, [], ◌∷◌, ◌++◌, length, take, drop, sum_by, Option, Some, None, option_map, codes, decimal}
use Rattle.shop_text.specs.Texts.{escape}
use Rattle.shop_model.specs.declared.requests.IdsAsked.{IdsAsked}
use Rattle.shop_model.specs.pages.Targets.{pairs, id_fields}
use Rattle.shop_draft.specs.declared.ids.Id.TheVariants.{Known}
use Rattle.shop_draft.specs.declared.ids.PageIds.{PageIds}
use Rattle.shop_draft.specs.declared.tail.Sign.{Sign}
use Rattle.shop_draft.specs.declared.tail.Sign.TheVariants.{First, More}
use Rattle.shop_draft.specs.Drawing.{ids_at}
use Rattle.shop_draft.specs.Templates.{TemplateState, Adds}

-- an id behind its mark, where there is one
abbrev pub marked : List ℕ → Option ℕ → List ℕ
marked mark None = []
marked mark (Some id) = mark ++ escape (decimal id)

-- a link up to its label
unfoldable pub link_front : List ℕ → List ℕ
link_front target = codes "<a href=\"" ++ escape target ++ codes "\">"

-- the ids that a link hands on, behind a sign
abbrev pub ids_behind : List ℕ → IdsAsked → List ℕ
ids_behind sign ids = escape (pairs sign (id_fields ids))

-- a sign
abbrev pub sign_text : Sign → List ℕ
sign_text First = codes "?"
sign_text More = codes "&"

-- the ids of a page that are known to be these
abbrev pub known_ids : IdsAsked → PageIds
known_ids ids = record { c = option_map Known ids.c; cart = option_map Known ids.cart }

-- a page has ids to hand on
abbrev pub HasIds : PageIds → Type 0
HasIds ids = ids.c ≡ None → ids.cart ≡ None → ⊥

-- the ids came to a text behind a sign
abbrev pub AddsIds : TemplateState → TemplateState → Sign → PageIds → Type 0
AddsIds old new sign ids = Adds old new (λ drawn. ids_behind (sign_text sign) (ids_at drawn ids))

-- the text of links without ids, and how many bytes of it stand before the first place of the ids, and from each
-- to the next
pub record LinkTexts : Type 0 where
  pub text : List ℕ
  pub gaps : List ℕ

-- the bytes before the last place
abbrev pub gaps_sum : List ℕ → ℕ
gaps_sum gaps = sum_by (λ (gap : ℕ). gap) gaps

-- the places lie within the text, and so many bytes are before the last
pub record AreWithin (text gaps : List ℕ) (front : ℕ) : Type 0 where
  pub counted : gaps_sum gaps ≡ front
  pub within : front ≤ length text

-- a text with this at its places
abbrev pub woven : List ℕ → List ℕ → List ℕ → List ℕ
woven ids [] text = text
woven ids (gap ∷ gaps) text = take gap text ++ ids ++ woven ids gaps (drop gap text)

-- links that hand on these ids
abbrev pub links_with : IdsAsked → LinkTexts → List ℕ
links_with ids links = woven (ids_behind (codes "&") ids) links.gaps links.text
