-- What bytes come to that are no message yet.
use Rattle.std.proofs.Common.{◌≡◌, ◌<◌, ⊎_elim, inl, ℕ, List, [], ◌∷◌, ◌++◌, length, append-nil, refl, sym, ap, ◌∙◌, subst, arith}
use Rattle.shop_model.specs.declared.refusal.Refusal.{Refusal}
use Rattle.shop_message.specs.declared.gather.Gathered.{Gathered}
use Rattle.shop_message.specs.declared.gather.Gathered.TheVariants as gathered
use Rattle.shop_message.specs.declared.messages.Message.{Message}
use Rattle.shop_message.specs.Gatherings.{Gathering, Awaits, Waits}
use Rattle.shop_message.specs.Gathered.{IsGathered, IsUndecided, MoreIsUndecided}
use Rattle.shop_message.specs.Looks.{LeavesPart}
use Rattle.shop_message.specs.Messages.{Between, Inside, IsFirst, IsPart, IsRefused, IsUnready, StopsAt, after_line_ends}
use Rattle.shop_message.proofs.MessagesUnique.{refused-some, refused-no_part, first-no_part, first-no_stop}

pub waits-part : (before after : List ℕ) (wanted : ℕ) → LeavesPart before after wanted → Waits before after
waits-part before after wanted leaves = record {
  short = omega (arith, leaves.short, leaves.few);
  unready = subst IsUnready (append-nil after) (leaves.part [] (omega (arith, leaves.short, ap length (append-nil after))));
  same = leaves.same;
}

pub waits-still : (held : List ℕ) (wanted : ℕ) → Awaits held wanted → length held < wanted → Waits held held
waits-still held wanted awaits short = record {
  short = omega (arith, short, awaits.few);
  unready = subst IsUnready (append-nil held) (awaits.part [] (omega (arith, short, ap length (append-nil held))));
  same = λ more. refl;
}

nothing : (bytes : List ℕ) → length bytes < 1 → IsUnready bytes
unfolding after_line_ends
nothing [] short = record { front = refl; part = inl refl }
nothing (byte ∷ bytes) short = absurd (omega arith)

-- no bytes are no message
pub awaits-one : (held : List ℕ) → Awaits held 1
awaits-one held = record { few = omega arith; part = λ piece short. nothing (held ++ piece) short }

-- at the line ends' end, all the bytes are those that are held
all_held : (before after : List ℕ) → Waits before after → after_line_ends before ≡ after
all_held before after waits = ap after_line_ends (sym (append-nil before)) ∙ waits.same [] ∙ ap after_line_ends (append-nil after) ∙ waits.unready.front

between : (before after : List ℕ) → Waits before after → after ≡ [] → StopsAt before Between
between before after waits none = all_held before after waits ∙ none

inside : (before after : List ℕ) → Waits before after → ¬ (after ≡ []) → StopsAt before Inside
inside before after waits some = subst IsPart (sym (all_held before after waits)) (⊎_elim (λ none. absurd (some none)) (λ part. part) waits.unready.part)

pub gathered-undecided : (old new : Gathering) (result : Gathered) → new.ended ≡ old.ended → Waits old.held new.held → IsUndecided new result → IsGathered old new result
gathered-undecided old new gathered.More same waits open_end = (sym same ∙ open_end, waits)
gathered-undecided old new gathered.End same waits (ended, none) = (sym same ∙ ended, waits.same, between old.held new.held waits none)
gathered-undecided old new gathered.Cut same waits (ended, some) = (sym same ∙ ended, waits.same, inside old.held new.held waits some)
gathered-undecided old new (gathered.Message message) same waits is = absurd is
gathered-undecided old new (gathered.Bad refusal) same waits is = absurd is
gathered-undecided old new gathered.Memory same waits is = absurd is

pub more-undecided : MoreIsUndecided
more-undecided old new (open_end, waits) = ⊎_elim (λ none. nothing none) (λ part. inside_one part) waits.unready.part
  where
    all : after_line_ends old.held ≡ new.held
    all = all_held old.held new.held waits

    nothing : new.held ≡ [] → ((message : Message) (rest : List ℕ) → ¬ (IsFirst old.held message rest)) × ((refusal : Refusal) → ¬ (IsRefused (after_line_ends old.held) refusal))
    nothing none = (λ message rest first. first-no_stop old.held rest message Between first (all ∙ none), λ refusal refused. refused-some (after_line_ends old.held) refusal (all ∙ none) refused)

    inside_one : IsPart new.held → ((message : Message) (rest : List ℕ) → ¬ (IsFirst old.held message rest)) × ((refusal : Refusal) → ¬ (IsRefused (after_line_ends old.held) refusal))
    inside_one part = (λ message rest first. first-no_part old.held rest message first (subst IsPart (sym all) part), λ refusal refused. refused-no_part (after_line_ends old.held) refusal (subst IsPart (sym all) part) refused)
