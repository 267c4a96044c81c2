-- The statuses of a run, this project's own.
use Rattle.std.specs.Prelude.{◌≡◌, ◌⊎◌, ℕ, List, [], codes}
use Rattle.shop_engine.specs.declared.report.Ended.{Ended}
use Rattle.shop_engine.specs.declared.report.Ended.TheVariants as ended
use Rattle.shop_app.specs.declared.status.Status.{Status}
use Rattle.shop_app.specs.declared.status.Status.TheVariants as status

abbrev pub exit_code : Status → ℕ
exit_code status.Done = 0
exit_code status.Unserved = 1
exit_code status.BadWords = 2
exit_code status.ReadFault = 3
exit_code status.WriteFault = 4
exit_code status.NetworkFault = 5
exit_code status.WorkerFault = 6
exit_code status.Memory = 7
exit_code status.DiskFault = 8
exit_code status.NotThisJournal = 9

-- what the faults sink is told
abbrev pub fault_line : Status → List ℕ
fault_line status.Done = []
fault_line status.Unserved = codes "tpcw: input cut or refused\n"
fault_line status.BadWords = codes "tpcw: bad words\n"
fault_line status.ReadFault = codes "tpcw: read fault\n"
fault_line status.WriteFault = codes "tpcw: write fault\n"
fault_line status.NetworkFault = codes "tpcw: network fault\n"
fault_line status.WorkerFault = codes "tpcw: worker fault\n"
fault_line status.Memory = codes "tpcw: out of memory\n"
fault_line status.DiskFault = codes "tpcw: disk fault\n"
fault_line status.NotThisJournal = codes "tpcw: not this journal\n"

-- the status of a session whose connection ended so
abbrev pub status_of : Ended → Status
status_of ended.Closed = status.Done
status_of ended.Asked = status.Done
status_of ended.Cut = status.Unserved
status_of (ended.Refused number) = status.Unserved
status_of ended.Spent = status.Unserved
status_of ended.ReadFault = status.ReadFault
status_of ended.WriteFault = status.WriteFault
status_of ended.Memory = status.Memory

-- a run of one caller tells no fault: all was served, or the input was cut or refused, or memory ran out
abbrev pub IsFaultless : Status → Type 0
IsFaultless outcome = (outcome ≡ status.Done) ⊎ (outcome ≡ status.Unserved) ⊎ (outcome ≡ status.Memory)
