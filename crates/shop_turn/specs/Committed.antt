-- What a change that was prepared leaves of a book.
use Rattle.std.specs.Prelude.{ℕ}
use Rattle.shop_attempt.specs.declared.attempts.Attempt.{Attempt}
use Rattle.shop_attempt.specs.declared.attempts.Settle.{Settle}
use Rattle.shop_book.specs.Books.{BookValue, IsBook}
use Rattle.shop_book.specs.Preparing.{IsPrepared}
use Rattle.shop_book.specs.Settles.{SettledAs}
use Rattle.shop_book.specs.declared.prepared.Prepared.{Prepared}

-- a change that was prepared was made over one book, which became another
pub record CommittedFrom (before after : BookValue) (prepared : Prepared) (answer : Settle) : Type 0 where
  pub was : IsBook before
  pub kept : IsBook after
  pub settles : (caller number : ℕ) (attempt : Attempt) → IsPrepared before.opening before.log caller number attempt prepared
      → SettledAs before after caller number attempt answer
