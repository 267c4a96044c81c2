-- What the file of a shop gives.
use Rattle.std.proofs.Common.{◌≡◌, inl, inr, ℕ, ◌≤◌, List, [], ◌∷◌, length, length-append, Option, Some, sym, ◌∙◌, ap, subst, arith}
use Rattle.std.specs.Option.{ForSome}
use Rattle.std.specs.Prelude.{◌≢◌}
use Rattle.shop_disk.specs.DiskStates.{DiskState}
use Rattle.shop_history.specs.declared.acts.Entry.{Entry}
use Rattle.shop_journal.specs.declared.headers.Format.TheVariants.{Second}
use Rattle.shop_journal.specs.declared.headers.Head.{Head}
use Rattle.shop_journal.specs.Journals.{Keeps, front_of}
use Rattle.shop_journal.specs.Opening.{IsMade, IsOpen}
use Rattle.shop_journal.specs.Runs.{Standing, run_from}
use Rattle.shop_words.specs.declared.command.Session.{Session}
use Rattle.shop_app.specs.declared.status.Status.{Status}
use Rattle.shop_app.specs.declared.status.Status.TheVariants as status
use Rattle.shop_keep.specs.declared.files.Opened.{Opened}
use Rattle.shop_keep.specs.declared.files.Opened.TheVariants as opened
use Rattle.shop_keep.specs.Files.{HasEntries, IsOpened, IsUnopened, OpenedAs, head_of}

-- a file that is empty has no entries
empty_has : (head : Head) (others : List Entry) (file : List ℕ) → file ≡ [] → HasEntries head others file → others ≡ []
empty_has head others file empty (inl (is, none)) = none
empty_has head others file empty (inr keeps) =
    absurd (omega (arith, ap length (sym empty ∙ keeps.keeps.is), length-append (front_of Second head others) (keeps.keeps.gate ∷ keeps.keeps.behind)))

-- a journal was made of it
pub made_as : (before : Option (List ℕ)) (head : Head) (now : DiskState) (entries : List Entry) → entries ≡ [] → IsMade before head now → IsOpened before now head entries
made_as before head now entries none made = record {
  has = λ file told. inl (made.empty file told, none);
  only = λ file told others has. empty_has head others file (made.empty file told) has ∙ sym none;
  run = λ tells. rw none (made.run tells);
}

-- a file with bytes has just the entries of the journal that it is
has_just : (head : Head) (others : List Entry) (file : List ℕ) → file ≢ [] → HasEntries head others file → Keeps Second head others file
has_just head others file some (inl (is, none)) = absurd (some is)
has_just head others file some (inr keeps) = keeps

module _ (before : Option (List ℕ)) (some : ForSome before (λ file. file ≢ [])) where
  pub open_as : (now : DiskState) (head given : Head) (entries : List Entry) → now.told ≡ before → given ≡ head → IsOpen now given entries
      → ((other : Head) (others : List Entry) (file : List ℕ) → before ≡ Some file → Keeps Second other others file → (given ≡ other) × (entries ≡ others))
      → IsOpened before now head entries
  open_as now head given entries same is opens exact = record {
    has = λ file told. inr (subst (λ (h : Head). Keeps Second h entries file) is (opens.keeps file (same ∙ told)));
    only = λ file told others has. sym (exact head others file told (has_just head others file (some file told) has)).1;
    run = λ tells. subst (λ (h : Head). Standing now (run_from now.moment h entries)) is (opens.run tells);
  }

  -- a journal of another shop, and a file that is none
  pub none_in : (head : Head) → ((others : List Entry) (file : List ℕ) → before ≡ Some file → Keeps Second head others file → ⊥)
      → ForSome before (λ file. (entries : List Entry) → HasEntries head entries file → ⊥)
  none_in head none file told entries has = none entries file told (has_just head entries file (some file told) has)

-- what was found behind calls that left the file
unopened_before : (was mid now : DiskState) (head : Head) (outcome : Status) → mid.told ≡ was.told → was.faults ≤ mid.faults → IsUnopened mid now head outcome → IsUnopened was now head outcome
unopened_before was mid now head status.NotThisJournal same later (left, none) = (left ∙ same, λ file told. none file (same ∙ told))
unopened_before was mid now head status.DiskFault same later rose = omega (arith, later, rose)
unopened_before was mid now head status.Memory same later is = tt
unopened_before was mid now head _ same later is = absurd is

pub opened_before : {D : Type 0} (state : D → DiskState) (was mid : DiskState) (session : Session) (opens : Opened D) → mid.told ≡ was.told → was.faults ≤ mid.faults
    → OpenedAs state mid session opens → OpenedAs state was session opens
opened_before state was mid session (opened.Journal journal entries) same later is = record {
  has = λ file told. is.has file (same ∙ told);
  only = λ file told. is.only file (same ∙ told);
  run = is.run;
}
opened_before state was mid session (opened.Not disk outcome) same later is = unopened_before was mid (state disk) (head_of session) outcome same later is
