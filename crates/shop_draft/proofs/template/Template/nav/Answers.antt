use Rattle.std.proofs.Common.{◌≡◌, List, [], ℕ, ◌++◌, append_assoc, append-nil, codes, refl}
use Rattle.shop_text.specs.Escape.{escape}
use Rattle.shop_text.proofs.cited.Plain.{escape_append}
use Rattle.shop_model.specs.pages.PageText.{block_text}
use Rattle.shop_model.specs.pages.Targets.{nav, id_fields, pairs}
use Rattle.shop_draft.specs.Drawing.{ids_at}
use Rattle.shop_draft.proofs.template.Template.nav.Goals as goal

-- three links to plain paths with more behind each, the end of one and the front of the next as one text
module _ (front middle close feed more : List ℕ) where
  abbrev link : List ℕ → List ℕ → List ℕ
  link path label = (front ++ escape (path ++ more) ++ middle ++ label ++ close) ++ feed

  three_links : (p q r l m n old s1 s2 s3 s4 s5 s6 now : List ℕ) → escape p ≡ p → escape q ≡ q → escape r ≡ r
      → s1 ≡ old ++ (front ++ p) → s2 ≡ s1 ++ escape more → s3 ≡ s2 ++ (middle ++ l ++ close ++ feed ++ front ++ q) → s4 ≡ s3 ++ escape more
      → s5 ≡ s4 ++ (middle ++ m ++ close ++ feed ++ front ++ r) → s6 ≡ s5 ++ escape more → now ≡ s6 ++ (middle ++ n ++ close ++ feed)
      → now ≡ old ++ (link p l ++ (link q m ++ (link r n ++ [])))
  three_links p q r l m n old s1 s2 s3 s4 s5 s6 now plain_p plain_q plain_r is1 is2 is3 is4 is5 is6 is =
      rw (is, is6, is5, is4, is3, is2, is1, escape_append p more, escape_append q more, escape_append r more, plain_p, plain_q, plain_r) (simp (append_assoc, append-nil))

pub returns : goal.returns
unfolding nav block_text
returns c drawn =
    three_links (codes "<a href=\"") (codes "\">") (codes "</a>") (codes "\n") (pairs (codes "?") (id_fields (ids_at drawn c.args.ids)))
    (codes "/home") (codes "/search_request") (codes "/shopping_cart") (codes "Home") (codes "Search") (codes "Cart") _ _ _ _ _ _ _ _ refl refl refl
    (c.in_ok-put.ensures drawn) (c.in_ok-first_ids.ensures drawn) (c.in_ok-put-2.ensures drawn) (c.in_ok-first_ids-2.ensures drawn)
    (c.in_ok-put-3.ensures drawn) (c.in_ok-first_ids-3.ensures drawn) (c.in_ok-put-4.ensures drawn)
