-- Appends, one after another.
use Rattle.std.proofs.Common.{◌≡◌, ◌∙◌, ap, sym, refl, List, [], ◌∷◌, ◌++◌, append_assoc, append-nil}
use Rattle.shop_disk.specs.DiskStates.{DiskState}
use Rattle.shop_history.specs.declared.acts.Entry.{Entry}
use Rattle.shop_journal.specs.declared.appending.Appended.{Appended}
use Rattle.shop_journal.specs.declared.appending.Appended.TheVariants as appended
use Rattle.shop_journal.specs.Appending.{RunsAs}
use Rattle.shop_journal.specs.Runs.{Run, Standing}
use Rattle.shop_keep.specs.Appends.{AppendsEach, BeginsLast, KeepsLog, NotedAs, with_each}

pub appends_none : (now : DiskState) → AppendsEach now now []
appends_none now run stands = ([], rw (append-nil run.begun, append-nil run.moments) stands)

appends_then : (a b c : DiskState) (one more : List Entry) → AppendsEach a b one → AppendsEach b c more → AppendsEach a c (one ++ more)
appends_then a b c one more first second run stands =
    let mid = first run stands in
    let two = second (with_each one mid.0 run) mid.1 in
    (mid.0 ++ two.0, rw (append_assoc run.begun one more, append_assoc run.moments mid.0 two.0) at two.1)

pub begins_then : (a b c : DiskState) (one : List Entry) (entry : Entry) → AppendsEach a b one → BeginsLast b c [] entry → BeginsLast a c one entry
begins_then a b c one entry first last run stands =
    let mid = first run stands in
    let two = last (with_each one mid.0 run) mid.1 in
    (mid.0 ++ two.0, rw (append-nil (run.begun ++ one), append_assoc run.moments mid.0 two.0) at two.1)

-- a log that did not grow
pub keeps_none : (now : DiskState) (log log' : List Entry) → log' ≡ log → KeepsLog now now log log'
keeps_none now log log' same = record { entries = []; grew = same ∙ sym (append-nil log); kept = appends_none now }

pub keeps_then : (a b c : DiskState) (log log' log'' : List Entry) → KeepsLog a b log log' → KeepsLog b c log' log'' → KeepsLog a c log log''
keeps_then a b c log log' log'' p q = record {
  entries = p.entries ++ q.entries;
  grew = q.grew ∙ ap (λ (l : List Entry). l ++ q.entries) p.grew ∙ append_assoc log p.entries q.entries;
  kept = appends_then a b c p.entries q.entries p.kept q.kept;
}

-- what became of the one entry that was made
pub noted_by : {D : Type 0} (state : D → DiskState) (old : D) (made : List Entry) (entry : Entry) (result : Appended D) → made ≡ entry ∷ []
    → ((run : Run) → Standing (state old) run → RunsAs state run entry result) → ((journal : D) → result ≡ appended.Memory journal → journal ≡ old) → NotedAs state old made result
noted_by state old made entry (appended.Done journal) is runs memory = λ run stands. ((state journal).moment ∷ [], rw is (runs run stands))
noted_by state old made entry (appended.Failed disk) is runs memory =
    (entry, is, λ run stands. ([], rw (append-nil run.begun, append-nil run.moments) (runs run stands)))
noted_by state old made entry (appended.Memory journal) is runs memory = (entry, is, memory journal refl)
