-- Calls keep marks, one after another.
use Rattle.std.proofs.Common.{ℕ}
use Rattle.shop_attempt.specs.Marks.{KeepsMarks, Looks}
use Rattle.shop_attempt.specs.Seats.{Seat}
use Rattle.shop_attempt.proofs.cited.Looks.{looked_self, looked_trans}

pub keeps_self : (marked : ℕ → ℕ → Type 0) (seat : Seat) → KeepsMarks marked marked seat seat
keeps_self marked seat = record { still = record { kept = λ front moment is. is }; are = λ are. are }

pub keeps_then : (a b c : ℕ → ℕ → Type 0) (one two three : Seat) → KeepsMarks a b one two → KeepsMarks b c two three → KeepsMarks a c one three
keeps_then a b c one two three first second = record {
  still = record { kept = λ front moment is. second.still.kept front moment (first.still.kept front moment is) };
  are = λ are. second.are (first.are are);
}

pub looks_self : {Store : Type 0} {seat : Store → Seat} {marked : Store → ℕ → ℕ → Type 0} (store : Store) → Looks seat marked store store
looks_self {seat = seat} {marked = marked} store = record { looked = looked_self (seat store); marks = keeps_self (marked store) (seat store) }

pub looks_then : {Store : Type 0} {seat : Store → Seat} {marked : Store → ℕ → ℕ → Type 0} {a b c : Store} → Looks seat marked a b → Looks seat marked b c → Looks seat marked a c
looks_then first second = record {
  looked = looked_trans _ _ _ first.looked second.looked;
  marks = keeps_then _ _ _ _ _ _ first.marks second.marks;
}
