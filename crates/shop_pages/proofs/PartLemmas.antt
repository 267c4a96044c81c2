-- Where the parts of a text stand that was put together of them, and what is left to read.
use Rattle.std.proofs.Common.{◌≡◌, ◌∙◌, ℕ, ◌<◌, List, [], ◌∷◌, ◌++◌, length, append_assoc, ap, sym, arith, Result, Ok, Err, IsErrAnd, MatchResult, Bor}
use Rattle.shop_pages.specs.declared.reading.unread.Unread.{Unread}
use Rattle.shop_pages.specs.declared.reading.unread.Unread.TheVariants.{Memory}
use Rattle.shop_pages.specs.Parts.{Ends, ReadAs}

pub inside : (front text end rest bytes : List ℕ) → bytes ≡ (front ++ text ++ end) ++ rest → bytes ≡ front ++ (text ++ (end ++ rest))
inside front text end rest bytes is = is ∙ append_assoc (front ++ text) end rest ∙ append_assoc front text (end ++ rest)

-- behind a text between two tags
pub then_inside : (front text middle more end rest bytes : List ℕ) → bytes ≡ (front ++ text ++ middle ++ more ++ end) ++ rest
    → bytes ≡ (front ++ text ++ middle) ++ (more ++ (end ++ rest))
then_inside front text middle more end rest bytes is = inside (front ++ text ++ middle) more end rest bytes is

pub then_tagged : (front text middle more end rest bytes : List ℕ) → bytes ≡ (front ++ text ++ middle ++ more ++ end) ++ rest
    → bytes ≡ (front ++ text ++ middle) ++ ((more ++ end) ++ rest)
then_tagged front text middle more end rest bytes is =
    then_inside front text middle more end rest bytes is ∙ ap (λ l. (front ++ text ++ middle) ++ l) (sym (append_assoc more end rest))

pub ends_more : (end rest : List ℕ) → Ends end → Ends (end ++ rest)
ends_more [] rest ends = absurd ends
ends_more (byte ∷ end) rest ends = ends

pub ends_long : (end : List ℕ) → Ends end → 0 < length end
ends_long [] ends = absurd ends
ends_long (byte ∷ end) ends = omega arith

-- where memory ran out, nothing is said of what was read
pub failed : {T : Type 0} (result : Result T Unread) (P : T → Type 0) (why : Unread) → IsErrAnd result (λ e. e ≡ why) → why ≡ Memory → MatchResult result P (λ e. e ≡ Memory)
failed (Ok _) P why is memory = elim is [ ]
failed (Err e) P why is memory = is ∙ memory

pub failed_as : {A : Type 0} (result : Result (A × Bor (List ℕ)) Unread) (why : Unread) (x : A) (rest : List ℕ) → IsErrAnd result (λ e. e ≡ why) → why ≡ Memory → ReadAs x rest result
failed_as (Ok _) why x rest is memory = elim is [ ]
failed_as (Err e) why x rest is memory = is ∙ memory
