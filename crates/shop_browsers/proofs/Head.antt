-- The bytes of a request are the head of one message, and no more.
use Rattle.std.proofs.Common.{◌≡◌, ℕ, zero, suc, ◌+◌, ◌<◌, ◌≤◌, ◌==◌, cond, true, false, List, [], ◌∷◌, ◌++◌, length, get_or, codes, Some, arith, refl, sym, ap, ◌∙◌, subst, append_assoc, append-nil, length-append, take_all}
use Rattle.std.specs.List.{AllPass}
use Rattle.std.proofs.lemmas.List.{drop_all}
use Rattle.std.proofs.lemmas.List.Sums.{AllPass-from_list_all, sum_by-append}
use Rattle.std.proofs.lemmas.List.Elements.{All-cons, All-nil}
use Rattle.std.proofs.lemmas.Bool.Decides.{nat_tests}
use Rattle.std.proofs.lemmas.Str.{IsUtf8-from_ascii}
use Rattle.httparse.specs.Grammar.{RequestHead, IsRequestHead, Field, IsField, crlf, print_request, is_token_byte, is_uri_byte, is_value_byte, trim_ows}
use Rattle.shop_message.specs.Heads.{frame_of, asks_close}
use Rattle.shop_message.specs.Messages.{LINES_LIMIT, AreMessages, Between, IsFirst, BeginsWith, after_line_ends, head_len, line_feeds}
use Rattle.shop_message.specs.declared.messages.Message.{Message}
use Rattle.shop_browsers.specs.Browsers.{BrowserState}
use Rattle.shop_browsers.specs.Requests.{target_of, message_bytes, request_message}
use Rattle.shop_browsers.proofs.Escaped.{none_of, none_tail, none_all}
use Rattle.shop_browsers.proofs.Graphic.{IsTarget, is_hidden, target_is}

-- the bytes of a request for a target
abbrev bytes_of : List ℕ → List ℕ
bytes_of target = codes "GET " ++ target ++ codes " HTTP/1.1\r\nHost: shop\r\n\r\n"

-- the message of a request for a target
abbrev message_to : List ℕ → Message
message_to target = record { method = codes "GET"; target = target; body = []; close = false }

host : Field
host = record { name = codes "Host"; raw = codes " shop"; end = crlf }

head_for : List ℕ → RequestHead
head_for target = record { blank = []; method = codes "GET"; target = target; minor = 1; line_end = crlf; fields = host ∷ []; last = crlf }

prints : (target : List ℕ) → bytes_of target ≡ print_request (head_for target) ++ []
unfolding head_for host print_request
prints target =
    let parted : target ++ codes " HTTP/1.1\r\nHost: shop\r\n\r\n" ≡ ((target ++ codes " HTTP/1.1") ++ codes "\r\n") ++ codes "Host: shop\r\n\r\n" =
    sym (append_assoc (target ++ codes " HTTP/1.1") (codes "\r\n") (codes "Host: shop\r\n\r\n") ∙ append_assoc target (codes " HTTP/1.1") (codes "\r\nHost: shop\r\n\r\n")) in
    ap (λ rest. codes "GET " ++ rest) parted ∙ sym (append-nil (print_request (head_for target)))

seen_uri : (byte : ℕ) → is_hidden byte ≡ false → is_uri_byte byte ≡ true
seen_uri byte seen = grind (arith, nat_tests)

all_uri : (text : List ℕ) → none_of is_hidden text ≡ true → AllPass is_uri_byte text
all_uri text none k d below = seen_uri (get_or text k d) (none_all is_hidden text none k d below)

seen_low : (byte : ℕ) → is_hidden byte ≡ false → byte < 128
seen_low byte seen = grind (arith, nat_tests)

all_low : (text : List ℕ) → none_of is_hidden text ≡ true → (i : ℕ) → get_or text i 0 < 128
all_low [] none i = omega arith
all_low (byte ∷ text) none zero = seen_low byte (none_tail (is_hidden byte) (none_of is_hidden text) none).0
all_low (byte ∷ text) none (suc i) = all_low text (none_tail (is_hidden byte) (none_of is_hidden text) none).1 i

seen_feed : (byte : ℕ) → is_hidden byte ≡ false → (byte == 10) ≡ false
seen_feed byte seen = grind (arith, nat_tests)

no_feeds : (text : List ℕ) → none_of is_hidden text ≡ true → line_feeds text ≡ 0
no_feeds [] none = refl
no_feeds (byte ∷ text) none =
    let parts = none_tail (is_hidden byte) (none_of is_hidden text) none in
    rw (seen_feed byte parts.0) (no_feeds text parts.1)

feeds : (target : List ℕ) → none_of is_hidden target ≡ true → line_feeds (bytes_of target) ≡ 3
feeds target none =
    sum_by-append (λ byte. cond (byte == 10) 1 0) target (codes " HTTP/1.1\r\nHost: shop\r\n\r\n") ∙ ap (λ n. n + 3) (no_feeds target none)

-- the head ends where it ends behind graphic bytes
head_behind : (text rest : List ℕ) (len : ℕ) → none_of is_hidden text ≡ true → head_len rest ≡ Some len → head_len (text ++ rest) ≡ Some (length text + len)
unfolding head_len
head_behind [] rest len none is = is ∙ ap Some (omega arith)
head_behind (byte ∷ text) rest len none is =
    let parts = none_tail (is_hidden byte) (none_of is_hidden text) none in
    rw (seen_feed byte parts.0, head_behind text rest len parts.1 is) (ap Some (omega arith))

size : (target : List ℕ) → length (bytes_of target) ≡ length target + 29
size target = omega (arith, length-append target (codes " HTTP/1.1\r\nHost: shop\r\n\r\n"))

whole : (target : List ℕ) → none_of is_hidden target ≡ true → head_len (bytes_of target) ≡ Some (length (bytes_of target))
unfolding head_len
whole target none =
    rw (head_behind target (codes " HTTP/1.1\r\nHost: shop\r\n\r\n") 25 none refl) (ap Some (omega (arith, size target)))

is_head : (target : List ℕ) → IsTarget target → IsRequestHead (head_for target)
unfolding head_for host is_token_byte
is_head target is = record {
  method = (omega arith, AllPass-from_list_all is_token_byte (codes "GET") refl);
  target = (is.some, all_uri target is.none);
  target_text = IsUtf8-from_ascii target (all_low target is.none);
  minor = omega arith;
  fields = All-cons IsField host [] (record { name = (omega arith, AllPass-from_list_all is_token_byte (codes "Host") refl); raw = AllPass-from_list_all is_value_byte (codes " shop") refl }) (All-nil IsField);
}

begins : (target : List ℕ) → IsTarget target → BeginsWith (bytes_of target) (length (bytes_of target)) (head_for target)
begins target is =
    let all = take_all (length (bytes_of target)) (bytes_of target) (omega arith) in
    record {
      begins = record {
        at = whole target is.none;
        short = omega (arith, size target, is.few);
        few = subst (λ bytes. line_feeds bytes ≤ LINES_LIMIT) (sym all) (omega (arith, feeds target is.none));
      };
      reads = (is_head target is, all ∙ prints target);
    }

first : (target : List ℕ) → IsTarget target → IsFirst (bytes_of target) (message_to target) []
unfolding after_line_ends head_for host frame_of asks_close trim_ows
first target is =
    let none = drop_all (length (bytes_of target)) (bytes_of target) (omega arith) in
    record {
      len = length (bytes_of target);
      size = 0;
      head = head_for target;
      begins = begins target is;
      frame = refl;
      whole = omega arith;
      is = refl;
      follows = sym none;
    }

one_message : (target : List ℕ) → IsTarget target → AreMessages (bytes_of target) (message_to target ∷ []) Between
unfolding after_line_ends
one_message target is = ([], ([], first target is, refl), refl)

-- the bytes of a browser's request have one message, and no more
pub one_request : (b : BrowserState) → AreMessages (message_bytes b) (request_message b ∷ []) Between
one_request b = one_message (target_of b) (target_is b)
