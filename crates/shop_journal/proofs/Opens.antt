-- What the records of a file are found to be.
use Rattle.std.proofs.Common.{◌≡◌, inl, inr, ℕ, List, ◌∷◌, ◌++◌, take, get_or, Option, refl, sym, ◌∙◌, ap, subst, arith}
use Rattle.std.proofs.lemmas.List.{append_assoc, take_at}
use Rattle.std.specs.List.{flat_map}
use Rattle.std.specs.Option.{ForSome}
use Rattle.shop_disk.specs.DiskStates.{DiskState}
use Rattle.shop_history.specs.declared.acts.Entry.{Entry}
use Rattle.shop_records.specs.Records as records
use Rattle.shop_records.specs.Creating as creating
use Rattle.shop_records.specs.Opening as opening
use Rattle.shop_journal.specs.declared.headers.Format.TheVariants.{First, Second}
use Rattle.shop_journal.specs.declared.headers.Head.{Head}
use Rattle.shop_journal.specs.Headers.{IsHead, header_of, magic}
use Rattle.shop_journal.specs.Journals.{BeginsAs, Breaks, IsLog, IsNone, Keeps, payloads_of}
use Rattle.shop_journal.specs.Opening.{IsMade, IsNoJournal, IsOpen}
use Rattle.shop_journal.proofs.Files.{breaks_none}
use Rattle.shop_journal.proofs.Heads.{same_head}
use Rattle.shop_journal.proofs.Injective.{no_stop, same_entries}

-- ---- a journal that was made

pub made : (before : Option (List ℕ)) (head : Head) (header : List ℕ) (now : DiskState) → IsHead head → header ≡ header_of Second head → creating.IsMade before header now → IsMade before head now
made before head header now is same records_made =
    let all = subst (λ (h : List ℕ). creating.IsMade before h now) same records_made in
    record {
      empty = all.empty;
      made = all.made;
      stands = all.stands;
      run = λ tells. record { entries = record { head = is; first = tt; begun = tt }; records_stand = all.run tells };
    }

-- ---- a journal that is open

pub opens : (now : DiskState) (bytes : List ℕ) (head : Head) (entries : List Entry) → opening.IsOpen now bytes
    → ((header : List ℕ) (payloads : List (List ℕ)) → records.Keeps header payloads bytes → IsLog Second header payloads head entries) → IsOpen now head entries
opens now bytes head entries opened log =
    let kept = opened.kept in
    let is = log kept.header kept.payloads kept.keeps in
    let keeps : records.Keeps (header_of Second head) (payloads_of Second entries) bytes =
    subst (λ (h : List ℕ). records.Keeps h (payloads_of Second entries) bytes) is.header_same (subst (λ (l : List (List ℕ)). records.Keeps kept.header l bytes) is.payloads_same kept.keeps) in
    record {
      keeps = λ file told. record { head_is = is.head_is; each = is.each; keeps = subst (records.Keeps (header_of Second head) (payloads_of Second entries)) (opened.whole file told) keeps };
      durable = opened.durable;
      run = λ tells. record {
        entries = record { head = is.head_is; first = is.each; begun = tt };
        records_stand = opened.run (header_of Second head) (payloads_of Second entries) keeps tells;
      };
    }

-- ---- a file that is none

pub no_journal : (now : DiskState) (bytes : List ℕ) (at : ℕ) → opening.IsOpen now bytes → (BeginsAs First bytes → ⊥)
    → ((header : List ℕ) (payloads : List (List ℕ)) → records.Keeps header payloads bytes → Breaks Second at header payloads) → ForSome now.told (IsNoJournal at)
no_journal now bytes at opened not_old breaks = λ file told.
    let kept = opened.kept in
    let keeps = kept.keeps in
    let same = opened.whole file told in
    record {
      not_old = λ old. not_old (subst (BeginsAs First) (sym same) old);
      none = breaks_none Second at kept.header kept.payloads (keeps.gate ∷ keeps.behind) file keeps.headed keeps.each (sym same ∙ keeps.is) (breaks kept.header kept.payloads keeps);
    }

pub old_format : (now : DiskState) (bytes : List ℕ) → opening.IsOpen now bytes → BeginsAs First bytes → ForSome now.told (BeginsAs First)
old_format now bytes opened old = λ file told. subst (BeginsAs First) (opened.whole file told) old

-- a file begins as its header does
pub old_from : (header : List ℕ) (payloads : List (List ℕ)) (bytes : List ℕ) → records.Keeps header payloads bytes → BeginsAs First header → BeginsAs First bytes
old_from header payloads bytes keeps old =
    let rest = flat_map records.record_of payloads ++ keeps.gate ∷ keeps.behind in
    record {
      behind = old.behind ++ rest;
      is = keeps.is ∙ append_assoc header (flat_map records.record_of payloads) (keeps.gate ∷ keeps.behind) ∙ ap (λ (h : List ℕ). h ++ rest) old.is;
    }

pub old_to : (header : List ℕ) (payloads : List (List ℕ)) (bytes : List ℕ) → records.Keeps header payloads bytes → BeginsAs First bytes → BeginsAs First header
old_to header payloads bytes keeps old =
    let rest = flat_map records.record_of payloads ++ keeps.gate ∷ keeps.behind in
    let whole : header ++ rest ≡ magic First ++ old.behind = sym (keeps.is ∙ append_assoc header (flat_map records.record_of payloads) (keeps.gate ∷ keeps.behind)) ∙ old.is in
    record { behind = take 24 old.behind; is = sym (take_at header rest 32 keeps.headed) ∙ ap (take 32) whole }

-- ---- what is kept is found

-- the second format does not begin as the first
pub not_both : (head : Head) (payloads : List (List ℕ)) (bytes : List ℕ) → records.Keeps (header_of Second head) payloads bytes → BeginsAs First bytes → ⊥
not_both head payloads bytes keeps old = absurd (omega (arith, ap (λ (l : List ℕ). get_or l 7 0) (sym keeps.is ∙ old.is)))

pub same_log : (bytes : List ℕ) (head other : Head) (entries others : List Entry) → Keeps Second head entries bytes
    → ((header : List ℕ) (payloads : List (List ℕ)) → records.Keeps header payloads bytes → IsLog Second header payloads other others) → (other ≡ head) × (others ≡ entries)
same_log bytes head other entries others keeps log =
    let is = log (header_of Second head) (payloads_of Second entries) keeps.keeps in
    (same_head Second other head is.head_is keeps.head_is (sym is.header_same), same_entries Second others entries is.each keeps.each (sym is.payloads_same))

pub not_broken : (bytes : List ℕ) (at : ℕ) (head : Head) (entries : List Entry) → Keeps Second head entries bytes
    → ((header : List ℕ) (payloads : List (List ℕ)) → records.Keeps header payloads bytes → Breaks Second at header payloads) → ⊥
not_broken bytes at head entries keeps breaks = by (breaks (header_of Second head) (payloads_of Second entries) keeps.keeps)
  where
    by : Breaks Second at (header_of Second head) (payloads_of Second entries) → ⊥
    by (inl other) = other.1 head keeps.head_is refl
    by (inr stopped) = no_stop Second stopped.stops.entries entries stopped.stops.payload stopped.stops.behind stopped.stops.other keeps.each (sym stopped.stops.is)

-- ---- a journal of the first format

pub old_kept : (now : DiskState) (bytes : List ℕ) (head : Head) (entries : List Entry) → opening.IsOpen now bytes
    → ((header : List ℕ) (payloads : List (List ℕ)) → records.Keeps header payloads bytes → IsLog First header payloads head entries) → ForSome now.told (Keeps First head entries)
old_kept now bytes head entries opened log = λ file told.
    let kept = opened.kept in
    let is = log kept.header kept.payloads kept.keeps in
    let keeps : records.Keeps (header_of First head) (payloads_of First entries) bytes =
    subst (λ (h : List ℕ). records.Keeps h (payloads_of First entries) bytes) is.header_same (subst (λ (l : List (List ℕ)). records.Keeps kept.header l bytes) is.payloads_same kept.keeps) in
    record { head_is = is.head_is; each = is.each; keeps = subst (records.Keeps (header_of First head) (payloads_of First entries)) (opened.whole file told) keeps }

pub old_none : (now : DiskState) (bytes : List ℕ) (at : ℕ) → opening.IsOpen now bytes
    → ((header : List ℕ) (payloads : List (List ℕ)) → records.Keeps header payloads bytes → Breaks First at header payloads) → ForSome now.told (IsNone First at)
old_none now bytes at opened breaks = λ file told.
    let kept = opened.kept in
    let keeps = kept.keeps in
    breaks_none First at kept.header kept.payloads (keeps.gate ∷ keeps.behind) file keeps.headed keeps.each (sym (opened.whole file told) ∙ keeps.is) (breaks kept.header kept.payloads keeps)
