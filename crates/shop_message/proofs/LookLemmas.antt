-- What stands at a message's place decides the first message of all the bytes.
use Rattle.std.proofs.Common.{◌≡◌, ℕ, ◌+◌, ◌<◌, ◌≤◌, inl, inr, List, [], ◌∷◌, ◌++◌, take, drop, length, length-append, append-nil, refl, sym, ap, ◌∙◌, subst, arith, Some, None}
use Rattle.std.proofs.lemmas.List.{take-append-le, drop-append-le, drop-drop, length-drop}
use Rattle.httparse.specs.Grammar.{RequestHead, ReadsRequest}
use Rattle.shop_message.specs.declared.messages.Message.{Message}
use Rattle.shop_model.specs.declared.refusal.Refusal.{Refusal}
use Rattle.shop_model.specs.declared.refusal.Refusal.TheVariants.{LargeHead}
use Rattle.shop_message.specs.Looks.{TakesFirst, LeavesPart, WholeAt, PartAt, RefusedAt}
use Rattle.shop_message.specs.Messages.{HEAD_LIMIT, BeginsWithHead, BeginsWith, IsRefused, IsUnready, StandsFor, after_line_ends, head_len, message_from}
use Rattle.shop_message.proofs.HeadLemmas.{head_len-within, head_len-front}
use Rattle.shop_message.proofs.LineEnds.{after_line_ends-shorter, after_line_ends-twice, after_line_ends-front}

-- what comes behind stays behind what follows the line ends
pub same-at : (bytes rest : List ℕ) → rest ≡ after_line_ends bytes → StandsFor bytes rest
same-at bytes rest is more = after_line_ends-twice bytes more ∙ ap (λ xs. after_line_ends (xs ++ more)) (sym is)

none-more : (rest piece : List ℕ) → length (rest ++ piece) < length rest + 1 → rest ++ piece ≡ rest
none-more rest [] short = append-nil rest
none-more rest (byte ∷ piece) short = absurd (omega (arith, short, length-append rest (byte ∷ piece)))

-- where a byte is left, no line ends come in front of it
stays : (bytes rest : List ℕ) → rest ≡ after_line_ends bytes → 0 < length rest → (more : List ℕ) → after_line_ends (rest ++ more) ≡ rest ++ more
stays bytes rest is some more = sym (same-at bytes rest is more) ∙ after_line_ends-front bytes more (omega (arith, some, ap length is)) ∙ ap (λ xs. xs ++ more) (sym is)

head_part : (bytes rest : List ℕ) → rest ≡ after_line_ends bytes → head_len rest ≡ None → length rest < HEAD_LIMIT → IsUnready rest
unfolding after_line_ends
head_part bytes [] is head few = record { front = refl; part = inl refl }
head_part bytes (byte ∷ rest) is head few = record {
  front = subst (λ xs. after_line_ends xs ≡ xs) (append-nil (byte ∷ rest)) (stays bytes (byte ∷ rest) is (omega arith) []);
  part = inr (inl (record { some = omega arith; few = few; none = head }));
}

pub part-at : (bytes rest : List ℕ) → rest ≡ after_line_ends bytes → head_len rest ≡ None → length rest < HEAD_LIMIT → LeavesPart bytes rest (length rest + 1)
part-at bytes rest is head few = record {
  short = omega arith;
  few = omega (arith, few);
  part = λ piece short. subst IsUnready (sym (none-more rest piece short)) (head_part bytes rest is head few);
  same = same-at bytes rest is;
}

-- a whole head stays one, whatever comes behind
begins-front : (rest more : List ℕ) (len : ℕ) (head : RequestHead) → len ≤ length rest → BeginsWithHead rest len → ReadsRequest (take len rest) head [] → BeginsWith (rest ++ more) len head
begins-front rest more len head within begins reads =
    let front = take-append-le len rest more within in
    record {
      begins = record { at = head_len-front rest more len begins.at; short = begins.short; few = rw front begins.few };
      reads = rw front reads;
    }

pub body-at : (bytes rest : List ℕ) (len total : ℕ) → rest ≡ after_line_ends bytes → head_len rest ≡ Some len → len ≤ HEAD_LIMIT → PartAt rest len total → LeavesPart bytes rest total
body-at bytes rest len total is at short part = record {
  short = omega (arith, within, part.part, part.total_is, length-drop len rest);
  few = omega (arith, short, part.small, part.total_is);
  part = λ piece missing. record {
    front = stays bytes rest is (omega (arith, within)) piece;
    part = inr (inr (record {
      len = len;
      size = part.size;
      head = part.head;
      begins = begins-front rest piece len part.head within.1 (record { at = at; short = short; few = part.few }) part.reads;
      frame = part.frame;
      part = omega (arith, missing, part.total_is, within, length-drop len (rest ++ piece), length-append rest piece);
    }));
  };
  same = same-at bytes rest is;
}
  where
    within : (2 ≤ len) × (len ≤ length rest)
    within = head_len-within rest len at

-- the head and its body are there
pub total-within : (rest : List ℕ) (len total : ℕ) (message : Message) → head_len rest ≡ Some len → WholeAt rest len message total → total ≤ length rest
total-within rest len total message at whole = omega (arith, head_len-within rest len at, whole.whole, whole.total_is, length-drop len rest)

pub first-at : (bytes rest : List ℕ) (len total : ℕ) (message : Message) → rest ≡ after_line_ends bytes → head_len rest ≡ Some len → len ≤ HEAD_LIMIT → WholeAt rest len message total → TakesFirst bytes (drop total rest) message
first-at bytes rest len total message is at short whole = record {
  shorter = omega (arith, within, length-drop total rest, ap length is, after_line_ends-shorter bytes, whole.total_is);
  first = λ more.
      let all : after_line_ends (bytes ++ more) ≡ rest ++ more = after_line_ends-front bytes more (omega (arith, within, ap length is)) ∙ ap (λ xs. xs ++ more) (sym is) in
      let behind : drop len (rest ++ more) ≡ drop len rest ++ more = drop-append-le len rest more within.1 in
      record {
        len = len;
        size = whole.size;
        head = whole.head;
        begins = rw all (begins-front rest more len whole.head within.1 (record { at = at; short = short; few = whole.few }) whole.reads);
        frame = whole.frame;
        whole = rw (all, behind) (omega (arith, whole.whole, length-append (drop len rest) more));
        is = rw (all, behind) (whole.is ∙ ap (message_from whole.head) (sym (take-append-le whole.size (drop len rest) more whole.whole)));
        follows = rw (all, behind) (ap (λ xs. xs ++ more) (ap (λ n. drop n rest) whole.total_is ∙ sym (drop-drop whole.size len rest)) ∙ sym (drop-append-le whole.size (drop len rest) more whole.whole));
      };
}
  where
    within : (2 ≤ len) × (len ≤ length rest)
    within = head_len-within rest len at

-- so many bytes, and no head among them
pub endless-at : (bytes rest : List ℕ) → rest ≡ after_line_ends bytes → head_len rest ≡ None → HEAD_LIMIT ≤ length rest → StandsFor bytes rest × IsRefused (after_line_ends bytes) LargeHead
endless-at bytes rest is none many = (same-at bytes rest is, subst (λ xs. IsRefused xs LargeHead) is (inl (inl (none, many), refl)))

pub long-at : (bytes rest : List ℕ) (len : ℕ) → rest ≡ after_line_ends bytes → head_len rest ≡ Some len → HEAD_LIMIT < len → StandsFor bytes rest × IsRefused (after_line_ends bytes) LargeHead
long-at bytes rest len is at long = (same-at bytes rest is, subst (λ xs. IsRefused xs LargeHead) is (inl (inr (len, at, inl long), refl)))

pub refused-at : (bytes rest : List ℕ) (len : ℕ) (refusal : Refusal) → rest ≡ after_line_ends bytes → head_len rest ≡ Some len → len ≤ HEAD_LIMIT → RefusedAt rest len refusal → StandsFor bytes rest × IsRefused (after_line_ends bytes) refusal
refused-at bytes rest len refusal is at short refused = (same-at bytes rest is, subst (λ xs. IsRefused xs refusal) is (here refused))
  where
    here : RefusedAt rest len refusal → IsRefused rest refusal
    here (inl (many, same)) = inl (inr (len, at, inr many), same)
    here (inr (inl (broken, same))) = inr (inl (record { len = len; begins = record { at = at; short = short; few = broken.few }; none = broken.none }, same))
    here (inr (inr unframed)) = inr (inr (record { len = len; head = unframed.head; begins = record { begins = record { at = at; short = short; few = unframed.few }; reads = unframed.reads }; frame = unframed.frame }))
