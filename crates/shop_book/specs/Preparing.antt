-- A change that is prepared, so that it can be made in the log that it was prepared for.
use Rattle.std.specs.Prelude.{◌≡◌, ℕ, ◌+◌, ◌<◌, ◌≤◌, List, length, All, Some, None}
use Rattle.shop_model.specs.declared.tables.Tables.{Tables}
use Rattle.shop_model.specs.pages.Show.{check}
use Rattle.shop_model.specs.rows.Limits.{stamp_limit}
use Rattle.shop_history.specs.declared.acts.Act.{Act}
use Rattle.shop_history.specs.declared.acts.Entry.{Entry}
use Rattle.shop_history.specs.Acts.{IsInForm, request_of}
use Rattle.shop_history.specs.Logs.{tables, entries_of}
use Rattle.shop_attempt.specs.declared.attempts.Attempt.{Attempt}
use Rattle.shop_attempt.specs.declared.attempts.Settle.{Settle}
use Rattle.shop_attempt.specs.declared.attempts.Settle.TheVariants.{Full, Memory}
use Rattle.shop_attempt.specs.declared.attempts.Write.{Write}
use Rattle.shop_attempt.specs.Faithful.{Makes}
use Rattle.shop_attempt.specs.Reads.{first_stale}
use Rattle.shop_book.specs.declared.opening.Opening.{Opening}
use Rattle.shop_book.specs.declared.plan.Plan.{Plan}
use Rattle.shop_book.specs.declared.prepared.Prepared.{Prepared}
use Rattle.shop_book.specs.declared.puts.Put.{Put}
use Rattle.shop_book.specs.Books.{BookValue, tables_of}
use Rattle.shop_book.specs.Changing.{after}
use Rattle.shop_book.specs.Planning.{IsPlanOf}
use Rattle.shop_book.specs.Puts.{all_put, put_at, IsStamped, IsWhole}

-- at each stamp these writes make what an act does
abbrev pub AlwaysMakes : Tables → Act → List Write → Type 0
AlwaysMakes t act writes = (stamp : ℕ) → stamp ≤ stamp_limit → Makes t stamp act writes

-- so do these, once they are put
abbrev pub AlwaysPut : Tables → Act → List Put → Type 0
AlwaysPut t act puts = (stamp : ℕ) → stamp ≤ stamp_limit → put_at t stamp puts ≡ after t stamp act

-- a change that this log may take, for which all is there but room: what is kept of its act, and writes that make what it does
pub record IsReady (opening : Opening) (log : List Entry) (p : Prepared) : Type 0 where
  pub left : length log < opening.limit
  pub bound : p.moment ≤ stamp_limit
  pub number : p.entry.number ≡ length (entries_of p.entry.caller log) + 1
  pub form : IsInForm p.entry.act
  pub passes : check (tables opening.tables log) (request_of p.entry.act) ≡ None
  pub plan_is : IsPlanOf (tables opening.tables log) p.entry.act p.plan
  pub makes : AlwaysPut (tables opening.tables log) p.entry.act p.puts.items
  pub stamped : All (IsStamped p.entry.stamp) p.puts.items
  pub whole : All IsWhole p.puts.items

-- an entry that a log that is not full may take: it is late enough, has its caller's next number, and prepared writes make what its act does
pub record IsNext (b : BookValue) (entry : Entry) (plan : Plan) (puts : List Put) : Type 0 where
  pub left : length b.log < b.opening.limit
  pub late : b.latest ≤ entry.stamp
  pub bound : entry.stamp ≤ stamp_limit
  pub number : entry.number ≡ length (entries_of entry.caller b.log) + 1
  pub form : IsInForm entry.act
  pub passes : check (tables_of b) (request_of entry.act) ≡ None
  pub plan_is : IsPlanOf (tables_of b) entry.act plan
  pub made : all_put (tables_of b) entry.stamp puts ≡ after (tables_of b) entry.stamp entry.act
  pub whole : All IsWhole puts

-- it is that of a caller with this number, asked for at this moment
pub record IsChangeOf (caller number moment : ℕ) (act : Act) (p : Prepared) : Type 0 where
  pub caller_is : p.entry.caller ≡ caller
  pub number_is : p.entry.number ≡ number
  pub moment_is : p.moment ≡ moment
  pub act_is : p.entry.act ≡ act

-- the change of an attempt none of whose reads is stale
pub record IsPrepared (opening : Opening) (log : List Entry) (caller number : ℕ) (attempt : Attempt) (p : Prepared) : Type 0 where
  pub ready : IsReady opening log p
  pub fresh : first_stale opening.tables log attempt.reads ≡ None
  pub act_is : attempt.act ≡ Some p.entry.act
  pub change : IsChangeOf caller number attempt.moment p.entry.act p

-- a change is refused where the log is full, or for want of memory
abbrev pub IsRefused : BookValue → Settle → Type 0
IsRefused b (Full size) = (size ≡ length b.log) × (size ≡ b.opening.limit)
IsRefused b Memory = length b.log < b.opening.limit
IsRefused b _ = ⊥
