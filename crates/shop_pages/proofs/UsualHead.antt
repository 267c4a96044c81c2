-- The head of most replies.
use Rattle.std.proofs.Common.{◌≡◌, ℕ, Bool, true, false, ◌++◌, codes, decimal, not, refl, sym, true≢false, arith, append_assoc}
use Rattle.std.proofs.lemmas.Fmt.{decimal-digits_of}
use Rattle.shop_pages.specs.Replies.{reply_head, status_line, phrase_of}

of_200 : status_line 200 ≡ codes "HTTP/1.1 200 OK\r\n"
unfolding status_line phrase_of
of_200 = rw (decimal-digits_of 200 (omega arith) (omega arith)) refl

pub usual_head : (len : ℕ) (close bodiless : Bool) → not close ≡ true
    → reply_head 200 len (record { close = close; bodiless = bodiless })
    ≡ codes "HTTP/1.1 200 OK\r\nContent-Type: text/html; charset=utf-8\r\nContent-Length: " ++ decimal len ++ codes "\r\n\r\n"
unfolding reply_head
usual_head len true bodiless kept = absurd (true≢false (sym kept))
usual_head len false bodiless kept = rw of_200 (simp append_assoc)
