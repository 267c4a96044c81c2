-- What an attempt must be to be settled: its reads are true, and its writes make what its act does.
use Rattle.std.specs.Prelude.{◌≡◌, ℕ, ◌≤◌, List, Option, Some, None}
use Rattle.shop_model.specs.declared.tables.Tables.{Tables}
use Rattle.shop_model.specs.pages.Show.{check}
use Rattle.shop_model.specs.rows.Limits.{stamp_limit}
use Rattle.shop_history.specs.declared.acts.Act.{Act}
use Rattle.shop_history.specs.declared.acts.Entry.{Entry}
use Rattle.shop_history.specs.Acts.{play, request_of}
use Rattle.shop_attempt.specs.declared.attempts.Attempt.{Attempt}
use Rattle.shop_attempt.specs.declared.attempts.ReadOf.{ReadOf}
use Rattle.shop_attempt.specs.declared.attempts.Write.{Write}
use Rattle.shop_attempt.specs.Reads.{AreTrue, Agrees}
use Rattle.shop_attempt.specs.Writes.{written}

-- the check of an act's request is none in these tables, and the writes make what the act makes
pub record Makes (t : Tables) (stamp : ℕ) (act : Act) (writes : List Write) : Type 0 where
  pub passes : check t (request_of act) ≡ None
  pub tables_are : written t stamp writes ≡ (play t stamp act).tables

-- it does so in whichever tables agree with the reads
abbrev pub MakesAct : Tables → List ReadOf → Option Act → Option (List Write) → Type 0
MakesAct opening reads None None = Unit {0}
MakesAct opening reads (Some act) (Some writes) =
    (t : Tables) (stamp : ℕ) → Agrees opening t reads → stamp ≤ stamp_limit → Makes t stamp act writes
MakesAct opening reads None (Some writes) = ⊥
MakesAct opening reads (Some act) None = ⊥

-- the reads of an attempt are true, and its writes make what its act does wherever they are
pub record Faithful (opening : Tables) (log : List Entry) (attempt : Attempt) : Type 0 where
  pub reads_are : AreTrue opening log attempt.reads
  pub makes : MakesAct opening attempt.reads attempt.act attempt.writes
