-- What comes next behind what was gathered before.
use Rattle.std.proofs.Common.{◌≡◌, ℕ, ◌≤◌, ⊎_elim, inl, inr, List, ◌++◌, drop, length, take, append_assoc, sym, ap, ◌∙◌, subst}
use Rattle.std.specs.declared.option.Option.{Option}
use Rattle.shop_edges.proofs.cited.Known.{Consumes-more}
use Rattle.shop_message.specs.declared.messages.Message.{Message}
use Rattle.shop_message.specs.declared.messages.Next.{Next}
use Rattle.shop_message.specs.declared.messages.Next.TheVariants as next
use Rattle.shop_message.specs.Messages.{BeginsWith, IsFirst, IsRefused, IsPart, Stop, StopsAt, message_from, Between, Inside, Refusing, after_line_ends}
use Rattle.shop_message.specs.Nexts.{Gathers, Stops, IsNext}

first-same : (bytes bytes' rest : List ℕ) (message : Message) → after_line_ends bytes ≡ after_line_ends bytes' → IsFirst bytes message rest → IsFirst bytes' message rest
first-same bytes bytes' rest message same first = record {
  len = first.len;
  size = first.size;
  head = first.head;
  begins = subst (λ xs. BeginsWith xs first.len first.head) same first.begins;
  frame = first.frame;
  whole = subst (λ xs. first.size ≤ length (drop first.len xs)) same first.whole;
  is = subst (λ xs. message ≡ message_from first.head (take first.size (drop first.len xs))) same first.is;
  follows = subst (λ xs. rest ≡ drop first.size (drop first.len xs)) same first.follows;
}

stops-same : (bytes bytes' : List ℕ) (stop : Stop) → after_line_ends bytes ≡ after_line_ends bytes' → StopsAt bytes stop → StopsAt bytes' stop
stops-same bytes bytes' Between same stops = sym same ∙ stops
stops-same bytes bytes' Inside same stops = subst IsPart same stops
stops-same bytes bytes' (Refusing refusal) same stops = subst (λ xs. IsRefused xs refusal) same stops

module _ (left left' left'' : Option (List ℕ)) (before after held : List ℕ) (so_far : Gathers left left' before after) where
  behind : (piece : List ℕ) → after_line_ends (after ++ piece) ≡ after_line_ends (before ++ (so_far.piece ++ piece))
  behind piece = sym (so_far.same piece) ∙ ap after_line_ends (append_assoc before so_far.piece piece)

  abbrev pub gathers-then : (more : Gathers left' left'' after held) → Gathers left left'' before held
  gathers-then more = record {
    piece = so_far.piece ++ more.piece;
    taken = Consumes-more left left' left'' so_far.piece more.piece so_far.taken more.taken;
    same = λ xs.
        ap after_line_ends (ap (λ ys. ys ++ xs) (sym (append_assoc before so_far.piece more.piece)) ∙ append_assoc (before ++ so_far.piece) more.piece xs)
        ∙ so_far.same (more.piece ++ xs) ∙ ap after_line_ends (sym (append_assoc after more.piece xs)) ∙ more.same xs;
  }

  stops-then : (stop : Stop) → Stops left' left'' after held stop → Stops left left'' before held stop
  stops-then stop stops = record {
    gathers = gathers-then stops.gathers;
    none = stops-same (after ++ stops.gathers.piece) (before ++ (so_far.piece ++ stops.gathers.piece)) stop (behind stops.gathers.piece) stops.none;
    ended = stops.ended;
  }

  pub IsNext-behind : (next : Next) → IsNext left' left'' after held next → IsNext left left'' before held next
  IsNext-behind (next.Message message) gives = record {
    piece = so_far.piece ++ gives.piece;
    taken = Consumes-more left left' left'' so_far.piece gives.piece so_far.taken gives.taken;
    first = λ more.
        first-same (after ++ gives.piece ++ more) (before ++ (so_far.piece ++ gives.piece) ++ more) (held ++ more) message
        (ap after_line_ends (append_assoc after gives.piece more) ∙ behind (gives.piece ++ more)
        ∙ ap after_line_ends (sym (append_assoc before (so_far.piece ++ gives.piece) more ∙ ap (λ xs. before ++ xs) (append_assoc so_far.piece gives.piece more))))
        (gives.first more);
  }
  IsNext-behind next.End stops = stops-then Between stops
  IsNext-behind next.Cut stops = stops-then Inside stops
  IsNext-behind (next.Bad refusal) stops = stops-then (Refusing refusal) stops
  IsNext-behind next.ReadFault breaks = record {
    gathers = gathers-then breaks.gathers;
    none = ⊎_elim (λ none. inl (stops-same _ _ Between (behind breaks.gathers.piece) none)) (λ part. inr (stops-same _ _ Inside (behind breaks.gathers.piece) part)) breaks.none;
  }
  IsNext-behind next.Memory more = gathers-then more
