-- One log begins another.
use Rattle.std.proofs.Common.{ℕ, ◌≤◌, List, [], ◌∷◌, ◌++◌, length, take, drop, refl, sym, ◌∙◌, ap, arith, append_assoc, append-nil, length-append}
use Rattle.std.proofs.lemmas.List.{take-append-drop}
use Rattle.shop_log.specs.Histories.{Extends}

pub extends_self : {Entry : Type 0} (log : List Entry) → Extends log log
extends_self log = record { rest = []; is = sym (append-nil log) }

pub extends_push : {Entry : Type 0} (log : List Entry) (entry : Entry) → Extends log (log ++ entry ∷ [])
extends_push log entry = record { rest = entry ∷ []; is = refl }

pub extends_trans : {Entry : Type 0} (a b c : List Entry) → Extends a b → Extends b c → Extends a c
extends_trans {Entry} a b c p q = record {
  rest = p.rest ++ q.rest;
  is = q.is ∙ ap (λ (l : List Entry). l ++ q.rest) p.is ∙ append_assoc a p.rest q.rest;
}

pub extends_length : {Entry : Type 0} (a b : List Entry) → Extends a b → length a ≤ length b
extends_length a b p = omega (arith, ap length p.is, length-append a p.rest)

pub take_extends : {Entry : Type 0} (log : List Entry) (count : ℕ) → Extends (take count log) log
take_extends log count = record { rest = drop count log; is = sym (take-append-drop count log) }
