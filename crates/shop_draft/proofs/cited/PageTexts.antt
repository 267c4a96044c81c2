-- Texts, blocks and pages by what was added in turn.
use Rattle.std.proofs.Common.{◌≡◌, ℕ, ◌+◌, ◌<◌, List, [], ◌∷◌, ◌++◌, length, get_or, map, take, append_assoc, append-nil, refl, sym, ap, ◌∙◌}
use Rattle.std.specs.List.{flat_map}
use Rattle.std.proofs.lemmas.Grind.{flat_map-append}
use Rattle.std.proofs.lemmas.List.{map_more}
use Rattle.shop_text.proofs.cited.Lists.{appended_twice}
use Rattle.shop_text.specs.Escape.{escape}
use Rattle.shop_text.proofs.cited.Plain.{escape_append}
use Rattle.shop_model.specs.declared.page.Block.{Block}
use Rattle.shop_model.specs.declared.page.Page.{Page}
use Rattle.shop_model.specs.pages.PageText.{block_line, page_text}
use Rattle.shop_draft.specs.Pages.{page_front, page_end}

-- what was added in turn was added as one
pub two : (old s1 now a b : List ℕ) → s1 ≡ old ++ a → now ≡ s1 ++ b → now ≡ old ++ (a ++ b)
two = appended_twice

pub three : (old s1 s2 now a b c : List ℕ) → s1 ≡ old ++ a → s2 ≡ s1 ++ b → now ≡ s2 ++ c → now ≡ old ++ (a ++ (b ++ c))
three old s1 s2 now a b c p1 p2 p3 = two old s1 now a (b ++ c) p1 (two s1 s2 now b c p2 p3)

pub four : (old s1 s2 s3 now a b c d : List ℕ) → s1 ≡ old ++ a → s2 ≡ s1 ++ b → s3 ≡ s2 ++ c → now ≡ s3 ++ d
    → now ≡ old ++ (a ++ (b ++ (c ++ d)))
four old s1 s2 s3 now a b c d p1 p2 p3 p4 =
    two old s1 now a (b ++ (c ++ d)) p1 (three s1 s2 s3 now b c d p2 p3 p4)

pub five : (old s1 s2 s3 s4 now a b c d e : List ℕ) → s1 ≡ old ++ a → s2 ≡ s1 ++ b → s3 ≡ s2 ++ c → s4 ≡ s3 ++ d → now ≡ s4 ++ e
    → now ≡ old ++ (a ++ (b ++ (c ++ (d ++ e))))
five old s1 s2 s3 s4 now a b c d e p1 p2 p3 p4 p5 =
    two old s1 now a (b ++ (c ++ (d ++ e))) p1 (four s1 s2 s3 s4 now b c d e p2 p3 p4 p5)

pub six : (old s1 s2 s3 s4 s5 now a b c d e f : List ℕ) → s1 ≡ old ++ a → s2 ≡ s1 ++ b → s3 ≡ s2 ++ c → s4 ≡ s3 ++ d → s5 ≡ s4 ++ e
    → now ≡ s5 ++ f → now ≡ old ++ (a ++ (b ++ (c ++ (d ++ (e ++ f)))))
six old s1 s2 s3 s4 s5 now a b c d e f p1 p2 p3 p4 p5 p6 =
    two old s1 now a (b ++ (c ++ (d ++ (e ++ f)))) p1 (five s1 s2 s3 s4 s5 now b c d e f p2 p3 p4 p5 p6)

-- two lists of blocks, or of fields, that were added in turn
pub both : {A : Type 0} (f : A → List ℕ) (m n : List A) (old s1 now : List ℕ) → s1 ≡ old ++ flat_map f m → now ≡ s1 ++ flat_map f n
    → now ≡ old ++ flat_map f (m ++ n)
both f m n old s1 now p1 p2 = rw (flat_map-append f m n) (two old s1 now (flat_map f m) (flat_map f n) p1 p2)

-- one more, behind those of the first
pub blocks_more : {A : Type 0} (make : A → Block) (xs : List A) (i : ℕ) (x : A) (old before after : List ℕ) → i < length xs → x ≡ get_or xs i x
    → before ≡ old ++ flat_map block_line (map make (take i xs)) → after ≡ before ++ block_line (make x) → after ≡ old ++ flat_map block_line (map make (take (i + 1) xs))
blocks_more {A} make xs i x old before after within at so_far added =
    let first : List Block = map make (take i xs) in
    let more : map make (take (i + 1) xs) ≡ first ++ make x ∷ []
    = map_more make xs i x within ∙ ap (λ (y : A). first ++ make y ∷ []) (sym at) in
    both block_line first (make x ∷ []) old before after so_far (added ∙ ap (λ (l : List ℕ). before ++ l) (sym (append-nil (block_line (make x)))))
    ∙ ap (λ (blocks : List Block). old ++ flat_map block_line blocks) (sym more)

-- a page is written when its blocks are between what stands around them
pub written : (page : Page) (begun listed now : List ℕ) → begun ≡ page_front page.title → listed ≡ begun ++ flat_map block_line page.blocks
    → now ≡ listed ++ page_end → now ≡ page_text page
unfolding page_text
written page begun listed now is_begun is_listed is = rw (is, is_listed, is_begun) refl

-- a value with words before it, in a block that ends its line
pub one_value : (tag v close feed : List ℕ) (old s1 now a : List ℕ) → escape v ≡ v
    → s1 ≡ old ++ (tag ++ v ++ escape a) → now ≡ s1 ++ (close ++ feed) → now ≡ old ++ (tag ++ escape (v ++ a) ++ close ++ feed)
one_value tag v close feed old s1 now a is_v is1 is = rw (is, is1, escape_append v a, is_v) (simp append_assoc)

-- two values with words before each
pub two_values : (tag v w close feed : List ℕ) (old s1 s2 now a b : List ℕ) → escape v ≡ v → escape w ≡ w
    → s1 ≡ old ++ (tag ++ v ++ escape a) → s2 ≡ s1 ++ (w ++ escape b) → now ≡ s2 ++ (close ++ feed)
    → now ≡ old ++ (tag ++ escape (v ++ a ++ w ++ b) ++ close ++ feed)
two_values tag v w close feed old s1 s2 now a b is_v is_w is1 is2 is =
    rw (is, is2, is1, escape_append (v ++ a ++ w) b, escape_append (v ++ a) w, escape_append v a, is_v, is_w) (simp append_assoc)

-- three
pub three_values : (tag u v w close feed : List ℕ) (old s1 s2 s3 now a b c : List ℕ) → escape u ≡ u → escape v ≡ v → escape w ≡ w
    → s1 ≡ old ++ (tag ++ u ++ escape a) → s2 ≡ s1 ++ (v ++ escape b) → s3 ≡ s2 ++ (w ++ escape c) → now ≡ s3 ++ (close ++ feed)
    → now ≡ old ++ (tag ++ escape (u ++ a ++ v ++ b ++ w ++ c) ++ close ++ feed)
three_values tag u v w close feed old s1 s2 s3 now a b c is_u is_v is_w is1 is2 is3 is =
    rw (
      is,
      is3,
      is2,
      is1,
      escape_append (u ++ a ++ v ++ b ++ w) c,
      escape_append (u ++ a ++ v ++ b) w,
      escape_append (u ++ a ++ v) b,
      escape_append (u ++ a) v,
      escape_append u a,
      is_u,
      is_v,
      is_w,
    )
    (simp append_assoc)

-- the same behind a front, where no word stands before the first value
pub three_texts : (front v w close feed : List ℕ) (old s0 s1 s2 s3 now a b c : List ℕ) → escape v ≡ v → escape w ≡ w
    → s0 ≡ old ++ front → s1 ≡ s0 ++ escape a → s2 ≡ s1 ++ (v ++ escape b) → s3 ≡ s2 ++ (w ++ escape c) → now ≡ s3 ++ (close ++ feed)
    → now ≡ old ++ (front ++ escape (a ++ v ++ b ++ w ++ c) ++ close ++ feed)
three_texts front v w close feed old s0 s1 s2 s3 now a b c is_v is_w is0 is1 is2 is3 is =
    rw (
      is,
      is3,
      is2,
      is1,
      is0,
      escape_append (a ++ v ++ b ++ w) c,
      escape_append (a ++ v ++ b) w,
      escape_append (a ++ v) b,
      escape_append a v,
      is_v,
      is_w,
    )
    (simp append_assoc)

-- four, of which the second and the third are one text
pub named_values : (tag u v w x close feed : List ℕ) (old s1 s2 s3 s4 now a b c d : List ℕ) → escape u ≡ u → escape v ≡ v → escape w ≡ w
    → escape x ≡ x → s1 ≡ old ++ (tag ++ u ++ escape a) → s2 ≡ s1 ++ (v ++ escape b) → s3 ≡ s2 ++ (w ++ escape c) → s4 ≡ s3 ++ (x ++ escape d)
    → now ≡ s4 ++ (close ++ feed) → now ≡ old ++ (tag ++ escape (u ++ a ++ v ++ (b ++ w ++ c) ++ x ++ d) ++ close ++ feed)
named_values tag u v w x close feed old s1 s2 s3 s4 now a b c d is_u is_v is_w is_x is1 is2 is3 is4 is =
    rw (
      is,
      is4,
      is3,
      is2,
      is1,
      escape_append (u ++ a ++ v ++ (b ++ w ++ c) ++ x) d,
      escape_append (u ++ a ++ v ++ (b ++ w ++ c)) x,
      escape_append (u ++ a ++ v) (b ++ w ++ c),
      escape_append (b ++ w) c,
      escape_append b w,
      escape_append (u ++ a) v,
      escape_append u a,
      is_u,
      is_v,
      is_w,
      is_x,
    )
    (simp append_assoc)

-- a field whose name ends in a value
pub counted_field : (tag w middle close : List ℕ) (old s1 s2 now a b : List ℕ) → escape w ≡ w
    → s1 ≡ old ++ (tag ++ w ++ escape a) → s2 ≡ s1 ++ (middle ++ escape b) → now ≡ s2 ++ close
    → now ≡ old ++ (tag ++ escape (w ++ a) ++ middle ++ escape b ++ close)
counted_field tag w middle close old s1 s2 now a b is_w is1 is2 is =
    rw (is, is2, is1, escape_append w a, is_w) (simp append_assoc)

-- a field whose name is plain
pub named_field : (tag middle close : List ℕ) (old s1 s2 s3 now name value : List ℕ) → escape name ≡ name
    → s1 ≡ old ++ tag → s2 ≡ s1 ++ name → s3 ≡ s2 ++ (middle ++ value) → now ≡ s3 ++ close
    → now ≡ old ++ (tag ++ escape name ++ middle ++ value ++ close)
named_field tag middle close old s1 s2 s3 now name value plain is1 is2 is3 is =
    rw (is, is3, is2, is1, plain) (simp append_assoc)
