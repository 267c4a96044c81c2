-- The head of a reply opens no link, so the links of a reply are those of its page.
use Rattle.std.proofs.Common.{◌≡◌, inl, inr, ℕ, ◌==◌, true, false, List, [], ◌++◌, length, map, decimal, Option, Some, unwrap_or, if◌then◌else◌, arith, refl, ap, ◌∙◌}
use Rattle.std.proofs.lemmas.Bool.{cond_both}
use Rattle.std.proofs.lemmas.Bool.Decides.{nat_tests}
use Rattle.http.specs.StatusCode.{reason_phrase}
use Rattle.shop_text.specs.Escape.{escape}
use Rattle.shop_model.specs.declared.page.Page.{Page}
use Rattle.shop_model.specs.pages.PageText.{page_text}
use Rattle.shop_model.specs.pages.Targets.{targets_of}
use Rattle.shop_pages.specs.declared.reply.Form.{Form}
use Rattle.shop_pages.specs.Replies.{phrase_of, status_line, allow_line, close_line, reply_head, reply}
use Rattle.shop_browsers.specs.Scanned.{links_in}
use Rattle.shop_browsers.specs.Shown.{Shows}
use Rattle.shop_browsers.proofs.Decimals.{none_decimal}
use Rattle.shop_browsers.proofs.Escaped.{none_of, none_append}
use Rattle.shop_browsers.proofs.PageLinks.{has_none, page_links}

-- no byte opens a tag
pub record IsOpen (bytes : List ℕ) : Type 0 where
  pub none : none_of (λ byte. byte == 60) bytes ≡ true

fixed : (bytes : List ℕ) → none_of (λ byte. byte == 60) bytes ≡ true → IsOpen bytes
fixed bytes none = record { none = none }

both : (a b : List ℕ) → IsOpen a → IsOpen b → IsOpen (a ++ b)
both a b first second = record { none = none_append (λ byte. byte == 60) a b first.none second.none }

number : (n : ℕ) → IsOpen (decimal n)
number n = record { none = none_decimal (λ byte. byte == 60) (λ d small. grind (arith, nat_tests)) n }

-- a phrase, if there is one, has no such byte
abbrev IsPhrase : Option (List ℕ) → Type 0
IsPhrase phrase = none_of (λ byte. byte == 60) (unwrap_or phrase []) ≡ true

named : (n k : ℕ) (phrase : List ℕ) (other : Option (List ℕ)) → none_of (λ byte. byte == 60) phrase ≡ true → IsPhrase other → IsPhrase (if n == k then Some phrase else other)
named n k phrase other none rest = cond_both (n == k) (Some phrase) other IsPhrase (λ _. none) (λ _. rest)

all_named : (n : ℕ) → IsPhrase (reason_phrase n)
all_named n = search named depth 140 fits 100000

phrase : (status : ℕ) → IsOpen (phrase_of status)
unfolding phrase_of
phrase status = record { none = all_named status }

first_line : (status : ℕ) → IsOpen (status_line status)
unfolding status_line
first_line status = search (both, number, phrase, fixed)

allows : (status : ℕ) → IsOpen (allow_line status)
allows status = cond_both (status == 405) _ _ IsOpen (λ _. fixed _ refl) (λ _. fixed _ refl)

closes : (form : Form) → IsOpen (close_line form)
closes form = cond_both form.close _ _ IsOpen (λ _. fixed _ refl) (λ _. fixed _ refl)

pub head : (status len : ℕ) (form : Form) → IsOpen (reply_head status len form)
unfolding reply_head
head status len form = search (both, number, first_line, allows, closes, fixed) depth 9

reply_links : (page : Page) (form : Form) → form.bodiless ≡ false → links_in (reply page form) ≡ links_in (page_text page)
unfolding reply
reply_links page form told =
    let front = reply_head page.status (length (page_text page)) form in
    ap (λ left_out. links_in (front ++ (if left_out then [] else page_text page))) told
    ∙ has_none front (head page.status (length (page_text page)) form).none (page_text page)

pub shown_links : (bytes : List ℕ) (page : Page) → Shows bytes page → links_in bytes ≡ map escape (targets_of page)
shown_links bytes page (inl text) = ap links_in text ∙ page_links page
shown_links bytes page (inr (form, told, is)) = ap links_in is ∙ reply_links page form told ∙ page_links page
