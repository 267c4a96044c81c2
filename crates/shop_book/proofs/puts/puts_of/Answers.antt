use Rattle.std.proofs.Common.{◌≡◌, ℕ, List, ◌∷◌, ap, ◌∙◌, subst, sym}
use Rattle.std.specs.Prelude.{All}
use Rattle.std.specs.Vec.Iter.{into_iter_items}
use Rattle.std.proofs.lemmas.List.Elements.{All-nil, All-push}
use Rattle.shop_model.specs.declared.tables.Tables.{Tables}
use Rattle.shop_attempt.specs.Writes.{written, written_one}
use Rattle.shop_book.specs.declared.puts.Put.{Put}
use Rattle.shop_book.specs.Puts.{put_at, IsStamped, IsWhole, AreCounted}
use Rattle.shop_book.specs.RowsNow.{tables_with}
use Rattle.shop_book.specs.Readiness.{IdsFit}
use Rattle.shop_book.proofs.Readiness.{first_written_fits, put_more}
use Rattle.shop_book.proofs.puts.puts_of.Goals as goal

pub loop-write-init : goal.loop-write-init
loop-write-init c =
    let none = c.in_ok-puts.ensures.items in
    record {
      made = λ t at. ap (λ (puts : List Put). written (put_at (tables_with t c.args.rows.now) at puts) at (into_iter_items c.into_iter-write-iterator.result)) none
          ∙ ap (written (tables_with t c.args.rows.now) at) c.into_iter-write-iterator.ensures.into_iter_gives.0;
      counted = λ t at. subst (λ (puts : List Put). AreCounted (put_at (tables_with t c.args.rows.now) at puts) c.of-next.result) (sym none) (c.of-next.ensures t);
      stamped = subst (All (IsStamped c.args.stamp)) (sym none) (All-nil (IsStamped c.args.stamp));
      whole = subst (All IsWhole) (sym none) (All-nil IsWhole);
    }

pub put-requires : goal.put-requires
put-requires c =
    let t = c.requires.tables in
    let now : Tables = put_at (tables_with t c.args.rows.now) c.args.stamp c.loop-write.puts.items in
    let rest = into_iter_items c.next.new.self in
    let all : written now c.args.stamp (c.in-Some.write ∷ rest) ≡ written (tables_with t c.args.rows.now) c.args.stamp c.args.writes.items
    = ap (written now c.args.stamp) (sym c.in-Some.ensures.steps.0) ∙ c.loop-write.invariant.made t c.args.stamp in
    record {
      tables = now;
      counted = c.loop-write.invariant.counted t c.args.stamp;
      fits = first_written_fits now c.args.stamp c.in-Some.write rest (subst IdsFit (sym all) c.requires.fits);
      bound = c.requires.bound;
    }

pub loop-write-preserved : goal.loop-write-preserved
loop-write-preserved c =
    let put : Put = c.in_ok-put.field-0 in
    let write = c.in-Some.write in
    let puts = c.loop-write.puts.items in
    let rest = into_iter_items c.next.new.self in
    let more = c.in_ok-push.ensures.items in
    let one : (t : Tables) → (at : ℕ) → put_at (tables_with t c.args.rows.now) at c.push.new.self.items ≡ written_one (put_at (tables_with t c.args.rows.now) at puts) at write
    = λ t at. ap (put_at (tables_with t c.args.rows.now) at) more ∙ put_more (tables_with t c.args.rows.now) at puts put
    ∙ c.in_ok-put.ensures.made (put_at (tables_with t c.args.rows.now) at puts) at (c.loop-write.invariant.counted t at) in
    record {
      made = λ t at. ap (λ (u : Tables). written u at rest) (one t at)
          ∙ ap (written (put_at (tables_with t c.args.rows.now) at puts) at) (sym c.in-Some.ensures.steps.0) ∙ c.loop-write.invariant.made t at;
      counted = λ t at. subst (λ (u : Tables). AreCounted u c.put.new.self) (sym {A = Tables} (one t at))
          (c.in_ok-put.ensures.next (put_at (tables_with t c.args.rows.now) at puts) at (c.loop-write.invariant.counted t at));
      stamped = subst (All (IsStamped c.args.stamp)) (sym more) (All-push (IsStamped c.args.stamp) puts put c.loop-write.invariant.stamped c.in_ok-put.ensures.stamped);
      whole = subst (All IsWhole) (sym more) (All-push IsWhole puts put c.loop-write.invariant.whole c.in_ok-put.ensures.whole);
    }
