-- A change is made ready, made at a later stamp, and settles its attempt.
use Rattle.std.proofs.Common.{◌≡◌, ℕ, ◌<◌, ◌≤◌, max, List, length, map, Some, None, Ok, Err, Result, refl, sym, ◌∙◌, ap, arith}
use Rattle.std.specs.Prelude.{IsSome, IfOk, IfErr}
use Rattle.shop_model.specs.declared.tables.Tables.{Tables}
use Rattle.shop_model.specs.rows.Limits.{stamp_limit}
use Rattle.shop_history.specs.declared.acts.Act.{Act}
use Rattle.shop_history.specs.Acts.{IsInForm}
use Rattle.shop_attempt.specs.declared.attempts.Attempt.{Attempt}
use Rattle.shop_attempt.specs.declared.attempts.Settle.{Settle}
use Rattle.shop_attempt.specs.declared.attempts.Settle.TheVariants.{Done, Stale, Full, Memory}
use Rattle.shop_attempt.specs.declared.attempts.Write.{Write}
use Rattle.shop_attempt.specs.Reads.{first_stale}
use Rattle.shop_attempt.specs.Writes.{written}
use Rattle.shop_book.specs.declared.prepared.Prepared.{Prepared}
use Rattle.shop_book.specs.declared.puts.Put.{Put}
use Rattle.shop_book.specs.declared.rows.Rows.{Rows}
use Rattle.shop_book.specs.Books.{BookValue, IsBook, tables_of}
use Rattle.shop_book.specs.Preparing.{AlwaysMakes, AlwaysPut, IsNext, IsReady, IsChangeOf, IsPrepared, IsRefused}
use Rattle.shop_book.specs.Puts.{put_at, stamped, ArePutsOf}
use Rattle.shop_book.specs.Readiness.{AreFit}
use Rattle.shop_book.specs.RowsNow.{tables_with}
use Rattle.shop_book.specs.Settles.{TakenAs, SettledAs}
use Rattle.shop_book.proofs.ChangesLemmas.{are_fit}
use Rattle.shop_book.proofs.Stamping.{all_whole}

-- a change that is ready may come at the latest stamp now
pub comes_next : (b : BookValue) (p : Prepared) → IsReady b.opening b.log p → b.latest ≤ stamp_limit → (stamp : ℕ) → stamp ≡ max b.latest p.moment
    → (puts : List Put) → puts ≡ map (stamped stamp) p.puts.items → IsNext b (record p.entry { stamp = stamp }) p.plan puts
comes_next b p ready latest stamp is puts are =
    let bound : stamp ≤ stamp_limit = omega (arith, is, latest, ready.bound) in
    record {
      left = ready.left;
      late = omega (arith, is);
      bound = bound;
      number = ready.number;
      form = ready.form;
      passes = ready.passes;
      plan_is = ready.plan_is;
      made = rw are (ready.makes stamp bound);
      whole = rw are (all_whole stamp p.puts.items ready.whole);
    }

-- it is its attempt that is settled then
pub settles : (old new : BookValue) (caller number : ℕ) (attempt : Attempt) (p : Prepared) → IsPrepared old.opening old.log caller number attempt p → (stamp : ℕ) → stamp ≡ max old.latest p.moment
    → (answer : Settle) → TakenAs old new p.entry.caller p.entry.number stamp (Some p.entry.act) answer → SettledAs old new caller number attempt answer
settles old new caller number attempt p prepared stamp is (Done drawn) taken =
    let change = prepared.change in
    record { fresh = prepared.fresh; taken = rw (prepared.act_is, ← change.caller_is, ← change.number_is, ← change.moment_is, ← is) taken }
settles old new caller number attempt p prepared stamp is (Stale conflict) taken = absurd taken
settles old new caller number attempt p prepared stamp is (Full size) taken = absurd taken
settles old new caller number attempt p prepared stamp is Memory taken =
    (record { fresh = prepared.fresh; changes = rw prepared.act_is refl; same = taken.0 }, taken.2)

-- or refused, and the book stays
pub refuses : (b : BookValue) (caller number : ℕ) (attempt : Attempt) → first_stale b.opening.tables b.log attempt.reads ≡ None → IsSome attempt.act
    → (answer : Settle) → IsRefused b answer → SettledAs b b caller number attempt answer
refuses b caller number attempt fresh some (Done drawn) refused = absurd refused
refuses b caller number attempt fresh some (Stale conflict) refused = absurd refused
refuses b caller number attempt fresh some (Full size) refused = (record { fresh = fresh; changes = some; same = refl }, refused.0, refused.1)
refuses b caller number attempt fresh some Memory refused = (record { fresh = fresh; changes = some; same = refl }, refused)

-- an attempt without stale reads is prepared, or refused
pub prepared_as : (b : BookValue) (caller number : ℕ) (attempt : Attempt) (act : Act) → first_stale b.opening.tables b.log attempt.reads ≡ None → attempt.act ≡ Some act
    → (result : Result Prepared Settle) → IfOk result (IsReady b.opening b.log) → IfOk result (IsChangeOf caller number attempt.moment act) → IfOk result (IsPrepared b.opening b.log caller number attempt)
prepared_as b caller number attempt act fresh does (Ok p) ready change = record {
  ready = ready;
  fresh = fresh;
  act_is = does ∙ ap Some (sym change.act_is);
  change = record { caller_is = change.caller_is; number_is = change.number_is; moment_is = change.moment_is; act_is = refl };
}
prepared_as b caller number attempt act fresh does (Err answer) ready change = tt

pub refused_as : (b : BookValue) (caller number : ℕ) (attempt : Attempt) → first_stale b.opening.tables b.log attempt.reads ≡ None → IsSome attempt.act
    → (result : Result Prepared Settle) → IfErr result (IsRefused b) → IfErr result (SettledAs b b caller number attempt)
refused_as b caller number attempt fresh some (Ok p) refused = tt
refused_as b caller number attempt fresh some (Err answer) refused = refuses b caller number attempt fresh some answer refused

-- writes that are put make what the act does
pub puts_make : (b : BookValue) (rows : Rows) → tables_with b.opening.tables rows ≡ tables_of b → (act : Act) (writes : List Write) → AlwaysMakes (tables_of b) act writes
    → (puts : List Put) → ArePutsOf rows writes puts → AlwaysPut (tables_of b) act puts
puts_make b rows are act writes makes puts made = λ stamp bound.
    ap (λ (t : Tables). put_at t stamp puts) (sym are) ∙ made b.opening.tables stamp ∙ ap (λ (t : Tables). written t stamp writes) are ∙ (makes stamp bound).tables_are

-- where the log takes one entry more, the writes of an act in form fit
pub writes_fit : (b : BookValue) → IsBook b → length b.log < b.opening.limit → (rows : Rows) → tables_with b.opening.tables rows ≡ tables_of b → (act : Act) → IsInForm act
    → (writes : List Write) → AlwaysMakes (tables_of b) act writes → (stamp : ℕ) → stamp ≤ stamp_limit → AreFit rows stamp writes
writes_fit b is_book left rows are act form writes makes stamp bound =
    are_fit b is_book left (record { caller = 0; number = 0; stamp = stamp; act = act }) bound form (makes stamp bound).passes rows are writes (makes stamp bound).tables_are
