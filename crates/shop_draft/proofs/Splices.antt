-- A text with holes: what is added behind it, and how long it is.
use Rattle.std.proofs.Common.{◌≡◌, ℕ, ◌+◌, ◌≤◌, List, [], ◌∷◌, ◌++◌, length, take, drop, arith, refl, ◌∙◌, sym, append_assoc, append-nil, length-append, length-drop}
use Rattle.std.specs.Prelude.{sum_by}
use Rattle.std.proofs.lemmas.List.{take-append-le, drop-append-le, length-take-le, take_all, drop_all}
use Rattle.std.proofs.lemmas.List.Sums.{sum_by-cons}
use Rattle.shop_history.specs.declared.acts.Drawn.{Drawn}
use Rattle.shop_draft.specs.declared.template.Gap.{Gap}
use Rattle.shop_draft.specs.Drawing.{hole_text}
use Rattle.shop_draft.specs.Templates.{spliced, front_len, head_room, TemplateState, state_of, IsLaidOut, filled, Adds, IsText}

front-cons : (gap : Gap) (gaps : List Gap) → front_len (gap ∷ gaps) ≡ gap.len + front_len gaps
front-cons gap gaps = sum_by-cons (λ (g : Gap). g.len) gap gaps

-- what the holes take
abbrev pub holes_len : Drawn → List Gap → ℕ
holes_len drawn gaps = sum_by (λ (gap : Gap). length (hole_text drawn gap.hole)) gaps

holes-cons : (drawn : Drawn) (gap : Gap) (gaps : List Gap)
    → holes_len drawn (gap ∷ gaps) ≡ length (hole_text drawn gap.hole) + holes_len drawn gaps
holes-cons drawn gap gaps = sum_by-cons (λ (g : Gap). length (hole_text drawn g.hole)) gap gaps

-- bytes behind the last hole
spliced-append : (drawn : Drawn) (gaps : List Gap) (text more : List ℕ) → front_len gaps ≤ length text
    → spliced drawn gaps (text ++ more) ≡ spliced drawn gaps text ++ more
spliced-append drawn [] text more le = refl
spliced-append drawn (gap ∷ gaps) text more le =
    let front = take gap.len text ++ hole_text drawn gap.hole in
    let size = front-cons gap gaps in
    let rest : front_len gaps ≤ length (drop gap.len text) = omega (arith, size, length-drop gap.len text) in
    let first : gap.len ≤ length text = omega (arith, size) in
    rw (
      take-append-le gap.len text more first,
      drop-append-le gap.len text more first,
      spliced-append drawn gaps (drop gap.len text) more rest,
    )
    (sym (append_assoc front (spliced drawn gaps (drop gap.len text)) more))

-- a hole behind all bytes
spliced-gap : (drawn : Drawn) (gaps : List Gap) (gap : Gap) (text : List ℕ) → front_len gaps + gap.len ≡ length text
    → spliced drawn (gaps ++ gap ∷ []) text ≡ spliced drawn gaps text ++ hole_text drawn gap.hole
spliced-gap drawn [] gap text all =
    let long : length text ≤ gap.len = omega arith in
    rw (take_all gap.len text long, drop_all gap.len text long, append-nil (text ++ hole_text drawn gap.hole)) refl
spliced-gap drawn (g ∷ gaps) gap text all =
    let front = take g.len text ++ hole_text drawn g.hole in
    let rest : front_len gaps + gap.len ≡ length (drop g.len text) = omega (arith, front-cons g gaps, length-drop g.len text) in
    rw (spliced-gap drawn gaps gap (drop g.len text) rest)
    (sym (append_assoc front (spliced drawn gaps (drop g.len text)) (hole_text drawn gap.hole)))

length-spliced : (drawn : Drawn) (gaps : List Gap) (text : List ℕ) → front_len gaps ≤ length text
    → length (spliced drawn gaps text) ≡ length text + holes_len drawn gaps
length-spliced drawn [] text le = omega arith
length-spliced drawn (gap ∷ gaps) text le =
    let rest = drop gap.len text in
    let size = front-cons gap gaps in
    let fits : front_len gaps ≤ length rest = omega (arith, size, length-drop gap.len text) in
    let first : gap.len ≤ length text = omega (arith, size) in
    omega (
      arith,
      length-append (take gap.len text ++ hole_text drawn gap.hole) (spliced drawn gaps rest),
      length-append (take gap.len text) (hole_text drawn gap.hole),
      length-take-le gap.len text first,
      length-drop gap.len text,
      holes-cons drawn gap gaps,
      length-spliced drawn gaps rest fits,
    )

-- bytes are added to a template
pub adds_bytes : (bytes now more : List ℕ) (start : ℕ) (gaps : List Gap) (front : ℕ) → IsLaidOut bytes start gaps front
    → now ≡ bytes ++ more → Adds (state_of bytes start gaps) (state_of now start gaps) (λ drawn. more)
unfolding filled
adds_bytes bytes now more start gaps front laid is drawn =
    rw (is, drop-append-le head_room bytes more (omega (arith, laid.within)))
    (spliced-append drawn gaps (drop head_room bytes) more
    (omega (arith, laid.counted, laid.within, length-drop head_room bytes)))

-- a hole is added
pub adds_gap : (bytes : List ℕ) (start : ℕ) (gaps now : List Gap) (gap : Gap) (front : ℕ) → IsLaidOut bytes start gaps front
    → head_room + front + gap.len ≡ length bytes → now ≡ gaps ++ gap ∷ []
    → Adds (state_of bytes start gaps) (state_of bytes start now) (λ drawn. hole_text drawn gap.hole)
unfolding filled
adds_gap bytes start gaps now gap front laid all is drawn =
    rw is
    (spliced-gap drawn gaps gap (drop head_room bytes) (omega (arith, laid.counted, length-drop head_room bytes)))

-- the bytes before the last gap, with one more
pub front-push : (gaps : List Gap) (gap : Gap) → front_len (gaps ++ gap ∷ []) ≡ front_len gaps + gap.len
front-push [] gap = omega (arith, front-cons gap [])
front-push (g ∷ gaps) gap = omega (arith, front-cons g gaps, front-cons g (gaps ++ gap ∷ []), front-push gaps gap)

-- the length that was counted over all gaps
pub filled-len : (drawn : Drawn) (t : TemplateState) (gaps : List Gap) (len end : ℕ) → front_len t.gaps ≤ length t.text
    → gaps ≡ t.gaps → length gaps ≤ end → len ≡ length t.text + holes_len drawn (take end gaps)
    → len ≡ length (filled drawn t)
unfolding filled
filled-len drawn t gaps len end within same all sum =
    let counted : len ≡ length t.text + holes_len drawn gaps = rw (take_all end gaps all) at sum in
    let known : len ≡ length t.text + holes_len drawn t.gaps = rw same at counted in
    omega (arith, known, length-spliced drawn t.gaps t.text within)

-- the text that was written up to the last gap, and the rest of it
pub filled-put : (drawn : Drawn) (t : TemplateState) (gaps : List Gap) (end : ℕ) (before bytes rest now : List ℕ)
    → gaps ≡ t.gaps → length gaps ≤ end → bytes ++ spliced drawn (drop end gaps) rest ≡ before ++ spliced drawn gaps t.text
    → now ≡ bytes ++ rest → now ≡ before ++ filled drawn t
unfolding filled
filled-put drawn t gaps end before bytes rest now same all so_far last =
    let none : drop end gaps ≡ [] = drop_all end gaps all in
    let e = rw none at so_far in
    last ∙ rw same at e

unspliced : (drawn : Drawn) (gaps : List Gap) (text : List ℕ) → length gaps ≡ 0 → spliced drawn gaps text ≡ text
unspliced drawn [] text none = refl
unspliced drawn (gap ∷ gaps) text none = absurd (omega arith)

-- a text with no gaps is what it will be
pub whole : (t : TemplateState) → length t.gaps ≡ 0 → IsText t t.text
unfolding filled
whole t none drawn = unspliced drawn t.gaps t.text none
