-- What a settle may rest on: where no read is stale, the tables now agree with the reads.
use Rattle.std.proofs.Common.{◌≡◌, ◌≢◌, ℕ, ◌+◌, ◌-◌, ◌<◌, ◌≤◌, Bool, true, false, cond, eqb, List, [], ◌∷◌, length, take, Option, Some, None, refl, sym, ◌∙◌, subst, arith, ⊎_elim}
use Rattle.std.proofs.lemmas.Bool.{eqb-true, eq-eqb, ne_eqb, cond-true, cond-false, cases_eq}
use Rattle.shop_log.specs.Histories.{Extends}
use Rattle.shop_log.proofs.cited.Extends.{take_extends}
use Rattle.shop_log.proofs.cited.Versions.{fresh, true_longer, version_grows, version_changed}
use Rattle.shop_model.specs.declared.tables.Tables.{Tables}
use Rattle.shop_model.specs.rows.Limits.{stamp_limit}
use Rattle.shop_history.specs.declared.acts.Act.{Act}
use Rattle.shop_history.specs.declared.acts.Entry.{Entry}
use Rattle.shop_history.specs.Keys.{row_of}
use Rattle.shop_history.specs.Logs.{history, tables, version_of, Legal, IsGood}
use Rattle.shop_history.proofs.cited.GoodTables.{good_log, room_less}
use Rattle.shop_history.proofs.cited.KeptTables.{kept}
use Rattle.shop_attempt.specs.declared.attempts.Attempt.{Attempt}
use Rattle.shop_attempt.specs.declared.attempts.Conflict.{Conflict}
use Rattle.shop_attempt.specs.declared.attempts.ReadOf.{ReadOf}
use Rattle.shop_attempt.specs.declared.attempts.Write.{Write}
use Rattle.shop_attempt.specs.Faithful.{Makes, MakesAct, Faithful}
use Rattle.shop_attempt.specs.Reads.{IsTrue, AreTrue, Shows, Agrees, first_stale}
use Rattle.shop_attempt.specs.Conflicts.{IsOvertaken}

-- reads that were true of a log are true of a longer one
pub true_longer_all : (t : Tables) (log longer : List Entry) (reads : List ReadOf) → Extends log longer → AreTrue t log reads → AreTrue t longer reads
true_longer_all t log longer [] extends were = tt
true_longer_all t log longer (read ∷ reads) extends were =
    (true_longer history t log longer read.key read.row read.version extends were.0, true_longer_all t log longer reads extends were.1)

-- a read is stale, or those behind it decide

read_fresh : {A : Type 0} (same : Bool) (rest : Option A) (stale : A) → cond same rest (Some stale) ≡ None → (same ≡ true) × (rest ≡ None)
read_fresh true rest stale none = (refl, none)
read_fresh false rest stale none = absurd cc

-- the conflict that a stale read makes
abbrev pub conflict_with : Tables → List Entry → ReadOf → Conflict
conflict_with t log read = record { key = read.key; read = read.version; found = version_of t log read.key }

pub first_stale_none : (t : Tables) (log : List Entry) (read : ReadOf) (reads : List ReadOf) → first_stale t log (read ∷ reads) ≡ None
    → (version_of t log read.key ≡ read.version) × (first_stale t log reads ≡ None)
first_stale_none t log read reads none =
    let both = read_fresh (eqb (version_of t log read.key) read.version) (first_stale t log reads) (conflict_with t log read) none in
    (eqb-true (version_of t log read.key) read.version both.0, both.1)

fresh_row : (t : Tables) (log : List Entry) (read : ReadOf) → IsTrue t log read → version_of t log read.key ≡ read.version → row_of (tables t log) read.key ≡ read.row
unfolding history
fresh_row t log read was same = fresh history t log read.key read.row read.version was same

-- where no read is stale, the tables show what was read
pub shows_fresh : (t : Tables) (log : List Entry) (reads : List ReadOf) → AreTrue t log reads → first_stale t log reads ≡ None → Shows (tables t log) reads
shows_fresh t log [] were none = tt
shows_fresh t log (read ∷ reads) were none =
    let both = first_stale_none t log read reads none in
    (fresh_row t log read were.0 both.0, shows_fresh t log reads were.1 both.1)

-- so they agree with the reads
pub agrees_now : (t : Tables) (limit : ℕ) (log : List Entry) (reads : List ReadOf) → IsGood t (limit + 1) → Legal t log → length log ≤ limit
    → AreTrue t log reads → first_stale t log reads ≡ None → Agrees t (tables t log) reads
agrees_now t limit log reads good legal short were none =
    let now : IsGood (tables t log) (limit + 1 - length log) = good_log t (limit + 1) good log legal (omega (arith, short)) in
    record {
      sound = now.sound;
      room_for = room_less (tables t log) (limit + 1 - length log) 1 (omega (arith, short)) now.room_for;
      catalogue = (kept t log good.sound.born_items).catalogue;
      shows = shows_fresh t log reads were none;
    }

-- and the writes make what the act makes of them
pub makes_now : (t : Tables) (limit : ℕ) (log : List Entry) (attempt : Attempt) (act : Act) (writes : List Write) (stamp : ℕ) → IsGood t (limit + 1) → Legal t log → length log ≤ limit
    → Faithful t log attempt → first_stale t log attempt.reads ≡ None → attempt.act ≡ Some act → attempt.writes ≡ Some writes → stamp ≤ stamp_limit → Makes (tables t log) stamp act writes
makes_now t limit log attempt act writes stamp good legal short faithful none does changes bound =
    let makes : MakesAct t attempt.reads (Some act) (Some writes)
    = subst (λ o. MakesAct t attempt.reads (Some act) o) changes (subst (λ o. MakesAct t attempt.reads o attempt.writes) does faithful.makes) in
    makes (tables t log) stamp (agrees_now t limit log attempt.reads good legal short faithful.reads_are none) bound

-- the first stale read was overtaken

pub stale_is : (t : Tables) (log : List Entry) (read : ReadOf) → IsTrue t log read → version_of t log read.key ≢ read.version → IsOvertaken t log (conflict_with t log read)
stale_is t log read was apart =
    let now : ℕ = version_of t log read.key in
    let grows : version_of t (take read.version log) read.key ≤ now = version_grows history t read.key (take read.version log) log (take_extends log read.version) in
    let later : read.version < now = less read.version now (omega (arith, was.version_is, grows)) (λ same. apart (sym same)) in
    record { later = later; changed = version_changed history t read.key log (omega (arith, later)) }
  where
    less : (one other : ℕ) → one ≤ other → (one ≡ other → ⊥) → one < other
    less one other below apart = omega arith

-- what holds of the conflict of each stale read holds of the first
pub first_stale_some : (t : Tables) (log : List Entry) (P : Conflict → Type 0) (read : ReadOf) (reads : List ReadOf) (conflict : Conflict)
    → (version_of t log read.key ≢ read.version → P (conflict_with t log read)) → (first_stale t log reads ≡ Some conflict → P conflict) → first_stale t log (read ∷ reads) ≡ Some conflict → P conflict
first_stale_some t log P read reads conflict here behind is =
    let now : ℕ = version_of t log read.key in
    ⊎_elim
    (λ (same : now ≡ read.version). behind (sym (cond-true (eqb now read.version) (first_stale t log reads) (Some (conflict_with t log read)) (eq-eqb now read.version same)) ∙ is))
    (λ (apart : now ≡ read.version → ⊥).
    let first : Some (conflict_with t log read) ≡ Some conflict
    = sym (cond-false (eqb now read.version) (first_stale t log reads) (Some (conflict_with t log read)) (ne_eqb now read.version apart)) ∙ is in
    subst P (one_of (conflict_with t log read) conflict first) (here apart))
    (cases_eq now read.version)
  where
    one_of : (one other : Conflict) → Some one ≡ Some other → one ≡ other
    one_of one other same = cc

pub overtaken : (t : Tables) (log : List Entry) (reads : List ReadOf) (conflict : Conflict) → AreTrue t log reads → first_stale t log reads ≡ Some conflict → IsOvertaken t log conflict
overtaken t log [] conflict were is = absurd cc
overtaken t log (read ∷ reads) conflict were is =
    first_stale_some t log (IsOvertaken t log) read reads conflict (stale_is t log read were.0) (overtaken t log reads conflict were.1) is
