-- How the bytes that are held go on by what is read, and what they come to where reading stops.
use Rattle.std.proofs.Common.{◌≡◌, ⊎_elim, inl, inr, ℕ, List, [], ◌++◌, append_assoc, append-nil, sym, ap, ◌∙◌, subst}
use Rattle.std.specs.declared.option.Option.{Option}
use Rattle.std.specs.Io.KnownBytes.{Consumes, IsAtEnd}
use Rattle.shop_edges.proofs.cited.Known.{Consumes-more}
use Rattle.shop_model.specs.declared.refusal.Refusal.{Refusal}
use Rattle.shop_message.specs.Gatherings.{Waits}
use Rattle.shop_message.specs.Messages.{IsRefused, IsUnready, Between, Inside, Refusing, StandsFor, after_line_ends}
use Rattle.shop_message.specs.Nexts.{Gathers, Stops, Breaks}

pub Gathers-piece : (left left' left'' : Option (List ℕ)) (before part piece held : List ℕ) → Gathers left left' before part → Consumes left' left'' piece → held ≡ part ++ piece → Gathers left left'' before held
Gathers-piece left left' left'' before part piece held so_far taken added = record {
  piece = so_far.piece ++ piece;
  taken = Consumes-more left left' left'' so_far.piece piece so_far.taken taken;
  same = λ more.
      ap after_line_ends (ap (λ xs. xs ++ more) (sym (append_assoc before so_far.piece piece)) ∙ append_assoc (before ++ so_far.piece) piece more)
      ∙ so_far.same (piece ++ more) ∙ ap after_line_ends (sym (append_assoc part piece more)) ∙ ap (λ xs. after_line_ends (xs ++ more)) (sym added);
}

-- where memory runs out, what is held stands for all the bytes
pub Gathers-same : (left left' : Option (List ℕ)) (before after held : List ℕ) → Gathers left left' before after → StandsFor after held → Gathers left left' before held
Gathers-same left left' before after held so_far same = record { piece = so_far.piece; taken = so_far.taken; same = λ more. so_far.same more ∙ same more }

-- there was no message yet, and the source has ended, or it failed
pub Gathers-none : (left left' left'' : Option (List ℕ)) (before after part held : List ℕ) → Gathers left left' before after → Waits after part → Consumes left' left'' [] → held ≡ part
    → Gathers left left'' before held × IsUnready held
Gathers-none left left' left'' before after part held so_far waits taken same = (
  Gathers-piece left left' left'' before part [] held (Gathers-same left left' before after part so_far waits.same) taken (same ∙ sym (append-nil part)),
  subst IsUnready (sym same) waits.unready,
)

-- behind the line ends, all the bytes are those that are held
all_bytes : (left left' : Option (List ℕ)) (before after : List ℕ) (so_far : Gathers left left' before after) → after_line_ends (before ++ so_far.piece) ≡ after_line_ends after
all_bytes left left' before after so_far = ap after_line_ends (sym (append-nil (before ++ so_far.piece))) ∙ so_far.same [] ∙ ap after_line_ends (append-nil after)

pub Stops-refused : (left left' : Option (List ℕ)) (before after held : List ℕ) (refusal : Refusal) → Gathers left left' before after → StandsFor after held × IsRefused (after_line_ends after) refusal
    → Stops left left' before held (Refusing refusal)
Stops-refused left left' before after held refusal so_far (same, refused) = record {
  gathers = record { piece = so_far.piece; taken = so_far.taken; same = λ more. so_far.same more ∙ same more };
  none = rw (all_bytes left left' before after so_far) refused;
  ended = tt;
}

-- and so it is for all the bytes
unready-all : (left left'' : Option (List ℕ)) (before held : List ℕ) (so_far : Gathers left left'' before held) → IsUnready held → after_line_ends (before ++ so_far.piece) ≡ held
unready-all left left'' before held so_far is = all_bytes left left'' before held so_far ∙ is.front

pub Stops-between : (left left'' : Option (List ℕ)) (before held : List ℕ) → Gathers left left'' before held → held ≡ [] → IsAtEnd left'' → Stops left left'' before held Between
unfolding after_line_ends
Stops-between left left'' before held so_far none at_end = record {
  gathers = so_far;
  none = all_bytes left left'' before held so_far ∙ ap after_line_ends none;
  ended = at_end;
}

pub Stops-inside : (left left'' : Option (List ℕ)) (before held : List ℕ) → Gathers left left'' before held → IsUnready held → ¬ (held ≡ []) → IsAtEnd left'' → Stops left left'' before held Inside
Stops-inside left left'' before held so_far is some at_end = record {
  gathers = so_far;
  none = rw (unready-all left left'' before held so_far is) (⊎_elim (λ none. absurd (some none)) (λ part. part) is.part);
  ended = at_end;
}

pub Breaks-part : (left left'' : Option (List ℕ)) (before held : List ℕ) → Gathers left left'' before held → IsUnready held → Breaks left left'' before held
Breaks-part left left'' before held so_far is = record {
  gathers = so_far;
  none = ⊎_elim (λ none. inl (unready-all left left'' before held so_far is ∙ none)) (λ part. inr (rw (unready-all left left'' before held so_far is) part)) is.part;
}
