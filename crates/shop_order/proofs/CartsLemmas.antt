-- What holds of each item that lines have, or that is set, holds of those of the lines after.
use Rattle.std.proofs.Common.{◌≡◌, ℕ, ◌+◌, ◌%◌, cond, List, [], ◌∷◌, get_or, All, Option, Some, None, eqb, refl}
use Rattle.std.proofs.lemmas.Bool.{cond_both}
use Rattle.std.proofs.lemmas.List.Elements.{All-nil, All-cons, All-head, All-tail, All-append}
use Rattle.std.proofs.lemmas.Option.{slice_get-get_or}
use Rattle.shop_model.specs.asked.CartAsked.{CartAsked}
use Rattle.shop_model.specs.trade.Carts.{set_line, set_lines, one_more, wanted, or_drawn, cart_lines}
use Rattle.shop_browse.specs.Footprints.{IsAmong}

module _ (Q : ℕ → Type 0) where
  set_line_on : (item quantity : ℕ) (lines : List (ℕ × ℕ)) → Q item → All (λ l. Q l.0) lines → All (λ l. Q l.0) (set_line item quantity lines)
  unfolding set_line
  set_line_on item quantity [] is all =
      let P : ℕ × ℕ → Type 0 = λ l. Q l.0 in
      cond_both (eqb quantity 0) [] ((item, quantity) ∷ []) (All P) (λ _. all) (λ _. All-cons P (item, quantity) [] is all)
  set_line_on item quantity (line ∷ lines) is all =
      let P : ℕ × ℕ → Type 0 = λ l. Q l.0 in
      let head : Q line.0 = All-head P line lines all in
      let rest : All P lines = All-tail P line lines all in
      cond_both (eqb item line.0) (cond (eqb quantity 0) lines ((line.0, quantity) ∷ lines)) (line ∷ set_line item quantity lines) (All P)
      (λ _. cond_both (eqb quantity 0) lines ((line.0, quantity) ∷ lines) (All P) (λ _. rest) (λ _. All-cons P (line.0, quantity) lines head rest))
      (λ _. All-cons P line (set_line item quantity lines) head (set_line_on item quantity lines is rest))

  set_lines_on : (sets lines : List (ℕ × ℕ)) → All (λ l. Q l.0) sets → All (λ l. Q l.0) lines → All (λ l. Q l.0) (set_lines sets lines)
  unfolding set_lines
  set_lines_on [] lines set all = all
  set_lines_on (one ∷ sets) lines set all =
      let P : ℕ × ℕ → Type 0 = λ l. Q l.0 in
      set_lines_on sets (set_line one.0 one.1 lines) (All-tail P one sets set) (set_line_on one.0 one.1 lines (All-head P one sets set) all)

  or_drawn_on : (items draw : ℕ) (lines : List (ℕ × ℕ)) → (lines ≡ [] → Q (1 + draw % items)) → All (λ l. Q l.0) lines → All (λ l. Q l.0) (or_drawn items draw lines)
  or_drawn_on items draw [] drawn all = All-cons (λ (l : ℕ × ℕ). Q l.0) (1 + draw % items, 1) [] (drawn refl) all
  or_drawn_on items draw (line ∷ lines) drawn all = all

  one_more_on : (asked : Option ℕ) (lines : List (ℕ × ℕ)) → ((item : ℕ) → asked ≡ Some item → Q item) → All (λ l. Q l.0) (one_more asked lines)
  one_more_on None lines is = All-nil (λ (l : ℕ × ℕ). Q l.0)
  one_more_on (Some item) lines is = All-cons (λ (l : ℕ × ℕ). Q l.0) _ [] (is item refl) (All-nil (λ (l : ℕ × ℕ). Q l.0))

  among_on : (lines : List (ℕ × ℕ)) → ((item : ℕ) → IsAmong item lines → Q item) → All (λ l. Q l.0) lines
  among_on lines is = λ k d within. is (get_or lines k d).0 (k, (get_or lines k d).1, slice_get-get_or lines k d within)

  pub made_on : (items : ℕ) (asked : CartAsked) (draw : ℕ) (lines : List (ℕ × ℕ)) → ((item : ℕ) → asked.item ≡ Some item → Q item) → ((item : ℕ) → IsAmong item asked.sets → Q item)
      → ((item : ℕ) → IsAmong item lines → Q item) → (set_lines (wanted asked lines) lines ≡ [] → Q (1 + draw % items)) → All (λ l. Q l.0) (cart_lines items asked draw lines)
  unfolding cart_lines
  made_on items asked draw lines one sets old drawn =
      let want : All (λ l. Q l.0) (wanted asked lines) = All-append (λ (l : ℕ × ℕ). Q l.0) (one_more asked.item lines) asked.sets (one_more_on asked.item lines one) (among_on asked.sets sets) in
      or_drawn_on items draw (set_lines (wanted asked lines) lines) drawn (set_lines_on (wanted asked lines) lines want (among_on lines old))
