-- The text of a page with gaps for what a settle draws.
use Rattle.std.specs.Prelude.{◌≡◌, ℕ, ◌+◌, ◌*◌, ◌≤◌, List, [], ◌∷◌, ◌++◌, length, take, drop, sum_by}
use Rattle.shop_history.specs.declared.acts.Drawn.{Drawn}
use Rattle.shop_draft.specs.declared.template.Gap.{Gap}
use Rattle.shop_draft.specs.Drawing.{hole_text, hole_room}

-- a text with its holes filled, each behind the bytes that its gap counts from the one before
abbrev pub spliced : Drawn → List Gap → List ℕ → List ℕ
spliced drawn [] text = text
spliced drawn (gap ∷ gaps) text =
    take gap.len text ++ hole_text drawn gap.hole ++ spliced drawn gaps (drop gap.len text)

-- the bytes before the last gap
abbrev pub front_len : List Gap → ℕ
front_len gaps = sum_by (λ (gap : Gap). gap.len) gaps

-- the most bytes of a head in front of a text
abbrev pub head_room : ℕ
head_room = 256

-- the head right before a text, the text, and its gaps
pub record TemplateState : Type 0 where
  pub head : List ℕ
  pub text : List ℕ
  pub gaps : List Gap

-- the bytes of a template: room for a head, which starts somewhere in it, and the text
abbrev pub state_of : List ℕ → ℕ → List Gap → TemplateState
state_of bytes start gaps =
    record { head = drop start (take head_room bytes); text = drop head_room bytes; gaps = gaps }

-- the gaps lie within the text, and so many bytes are before the last
pub record IsLaidOut (bytes : List ℕ) (start : ℕ) (gaps : List Gap) (front : ℕ) : Type 0 where
  pub head : start ≤ head_room
  pub counted : front_len gaps ≡ front
  pub within : head_room + front ≤ length bytes

-- the text, filled
unfoldable pub filled : Drawn → TemplateState → List ℕ
filled drawn template = spliced drawn template.gaps template.text

-- the most bytes of it
abbrev pub template_room : TemplateState → ℕ
template_room template = length template.text + hole_room * length template.gaps

-- whatever is drawn, a text is what it was, and then this
abbrev pub Adds : TemplateState → TemplateState → (Drawn → List ℕ) → Type 0
Adds old new more = (drawn : Drawn) → filled drawn new ≡ filled drawn old ++ more drawn

-- a text is what it was, and then this, which waits for nothing
abbrev pub Says : TemplateState → TemplateState → List ℕ → Type 0
Says old new text = Adds old new (λ drawn. text)

-- whatever is drawn, a text is this
abbrev pub IsText : TemplateState → List ℕ → Type 0
IsText template text = (drawn : Drawn) → filled drawn template ≡ text
