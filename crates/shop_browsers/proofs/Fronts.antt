-- What stands in front of a page's blocks in a reply opens no link, and what is left of it when some is dropped doesn't either.
use Rattle.std.proofs.Common.{◌≡◌, ◌==◌, inl, inr, ℕ, zero, suc, ◌≤◌, false, List, [], ◌∷◌, ◌++◌, length, drop, get_or, codes, nat_eq, if◌then◌else◌, arith, sym, ap, ◌∙◌, append_assoc, length-append}
use Rattle.std.specs.List.{flat_map, starts_with, before_first}
use Rattle.std.proofs.lemmas.Bool.{cond_both}
use Rattle.shop_model.specs.declared.page.Page.{Page}
use Rattle.shop_model.specs.pages.PageText.{page_text, block_line}
use Rattle.shop_pages.specs.declared.reply.Form.{Form}
use Rattle.shop_pages.specs.Replies.{status_line, reply_head, reply}
use Rattle.shop_browsers.specs.Scanned.{links_in}
use Rattle.shop_browsers.specs.Shown.{Shows}
use Rattle.shop_browsers.proofs.PageLinks.{has_both, has_none, has_front, page_front}
use Rattle.shop_browsers.proofs.ReplyLinks.{head}

-- a byte opens one more link, or none
with_byte : (P : List (List ℕ) → Type 0) (byte : ℕ) (bytes : List ℕ) → ((target : List ℕ) → P (target ∷ links_in bytes)) → P (links_in bytes) → P (links_in (byte ∷ bytes))
unfolding links_in
with_byte P byte bytes more same =
    let target = before_first (λ b. b == 34) (drop 8 bytes) in
    cond_both (starts_with nat_eq (byte ∷ bytes) (codes "<a href=\"")) (target ∷ links_in bytes) (links_in bytes) P (λ _. more target) (λ _. same)

no_fewer : (front rest : List ℕ) → length (links_in rest) ≤ length (links_in (front ++ rest))
no_fewer [] rest = omega arith
no_fewer (byte ∷ front) rest =
    with_byte (λ links. length (links_in rest) ≤ length links) byte (front ++ rest) (λ target. omega (arith, no_fewer front rest)) (no_fewer front rest)

-- where bytes in front open no link, they don't either without the first
one_dropped : (byte : ℕ) (front rest : List ℕ) → links_in (byte ∷ (front ++ rest)) ≡ links_in rest → links_in (front ++ rest) ≡ links_in rest
one_dropped byte front rest =
    with_byte (λ links. links ≡ links_in rest → links_in (front ++ rest) ≡ links_in rest) byte (front ++ rest)
    (λ target same. absurd (omega (arith, ap length same, no_fewer front rest))) (λ same. same)

-- nor without the first few
dropped : (n : ℕ) (front rest : List ℕ) → n ≤ length front → links_in (front ++ rest) ≡ links_in rest → links_in (drop n (front ++ rest)) ≡ links_in rest
dropped zero front rest fits same = same
dropped (suc n) [] rest fits same = absurd (omega (arith, fits))
dropped (suc n) (byte ∷ front) rest fits same = dropped n front rest (omega (arith, fits)) (one_dropped byte front rest same)

-- what stands in front of the blocks in a reply, and the rest
abbrev front_of : Page → Form → List ℕ
front_of page form = reply_head page.status (length (page_text page)) form ++ page_front page.title

abbrev rest_of : Page → List ℕ
rest_of page = flat_map block_line page.blocks ++ codes "</body></html>\n"

parts : (page : Page) (form : Form) → form.bodiless ≡ false → reply page form ≡ front_of page form ++ rest_of page
unfolding reply page_text
parts page form told =
    let first = reply_head page.status (length (page_text page)) form in
    ap (λ left_out. first ++ (if left_out then [] else page_text page)) told
    ∙ ap (λ text. first ++ text) (append_assoc (page_front page.title) (flat_map block_line page.blocks) (codes "</body></html>\n"))
    ∙ sym (append_assoc first (page_front page.title) (rest_of page))

long : (page : Page) (form : Form) → 113 ≤ length (front_of page form)
unfolding reply_head status_line
long page form = grind (arith, length-append)

opens_none : (page : Page) (form : Form) (rest : List ℕ) → links_in (front_of page form ++ rest) ≡ links_in rest
opens_none page form rest =
    let first = reply_head page.status (length (page_text page)) form in
    has_both first (page_front page.title) [] [] (has_none first (head page.status (length (page_text page)) form).none) (has_front page.title) rest

-- the text of a page begins otherwise
pub links_behind_front : (bytes : List ℕ) (page : Page) → Shows bytes page → get_or bytes 0 0 ≡ 72 → links_in (drop 113 bytes) ≡ links_in bytes
unfolding page_text
links_behind_front bytes page (inl text) starts =
    let differ : 72 ≡ 60 = sym starts ∙ ap (λ all. get_or all 0 0) text in
    absurd (omega (arith, differ))
links_behind_front bytes page (inr (form, told, is)) starts =
    let whole = is ∙ parts page form told in
    let none = opens_none page form (rest_of page) in
    ap (λ all. links_in (drop 113 all)) whole ∙ dropped 113 (front_of page form) (rest_of page) (long page form) none
    ∙ sym (ap links_in whole ∙ none)
