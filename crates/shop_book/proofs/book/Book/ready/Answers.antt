use Rattle.std.proofs.Common.{◌≡◌, ◌+◌, ◌<◌, ◌≤◌, length, map, sym, ◌∙◌, ap, subst, arith}
use Rattle.shop_model.specs.declared.tables.Tables.{Tables}
use Rattle.shop_model.specs.lists.Related.{last, sold_of}
use Rattle.shop_model.specs.rows.Limits.{counted_orders, stamp_limit}
use Rattle.shop_history.specs.Logs.{entries_of}
use Rattle.shop_book.specs.Books.{BookValue, tables_of}
use Rattle.shop_book.specs.BookView.{book_of}
use Rattle.shop_book.specs.Planning.{IsPlanOf}
use Rattle.shop_book.specs.Preparing.{AlwaysMakes}
use Rattle.shop_book.proofs.ChangesLemmas.{may_come}
use Rattle.shop_book.proofs.Preparing.{puts_make, writes_fit}
use Rattle.shop_book.proofs.book.Book.ready.Goals as goal

pub of-requires-clause-rows : goal.of-requires-clause-rows
of-requires-clause-rows c =
    let left : length c.self.inside.log.items < c.self.inside.opening.limit = omega (arith, c.if-size-self.false, c.len-size.ensures, c.self.inside.log.ok.0) in
    may_come (book_of c.self.inside) c.self.invariant.is_book left c.self.inside.rows c.self.invariant.rows_are

pub of-requires-clause-sold : goal.of-requires-clause-sold
of-requires-clause-sold c =
    c.self.invariant.lists_are.sold ∙ ap (λ (t : Tables). map sold_of (last counted_orders t.orders)) (sym c.self.invariant.rows_are)

pub puts_of-requires : goal.puts_of-requires
puts_of-requires c =
    let left : length c.self.inside.log.items < c.self.inside.opening.limit = omega (arith, c.if-size-self.false, c.len-size.ensures, c.self.inside.log.ok.0) in
    let bound : c.max-stamp.result ≤ stamp_limit = omega (arith, c.max-stamp.ensures, c.self.invariant.is_book.bound, c.requires.moment) in
    writes_fit (book_of c.self.inside) c.self.invariant.is_book left c.self.inside.rows c.self.invariant.rows_are c.args.act c.in-Ok.ensures.form c.args.writes.items
    (subst (λ (b : BookValue). AlwaysMakes (tables_of b) c.args.act c.args.writes.items) (sym c.self.view_is) c.requires.makes) c.max-stamp.result bound

pub returns-clause-ready : goal.returns-clause-ready
returns-clause-ready c =
    let makes : AlwaysMakes (tables_of (book_of c.self.inside)) c.args.act c.args.writes.items
    = subst (λ (b : BookValue). AlwaysMakes (tables_of b) c.args.act c.args.writes.items) (sym c.self.view_is) c.requires.makes in
    rw (← c.self.view_is)
    (record {
      left = omega (arith, c.if-size-self.false, c.len-size.ensures, c.self.inside.log.ok.0);
      bound = c.requires.moment;
      number = subst (λ (b : BookValue). c.args.number ≡ length (entries_of c.args.caller b.log) + 1) (sym c.self.view_is) c.requires.number;
      form = c.in-Ok.ensures.form;
      passes = (makes 0 (omega arith)).passes;
      plan_is = subst (λ (t : Tables). IsPlanOf t c.args.act c.in-Ok.plan) c.self.invariant.rows_are (c.in-Ok.ensures.plan c.self.inside.opening.tables);
      makes = puts_make (book_of c.self.inside) c.self.inside.rows c.self.invariant.rows_are c.args.act c.args.writes.items makes c.in-Ok-puts_of.puts.items c.in-Ok-puts_of.ensures.made;
      stamped = c.in-Ok-puts_of.ensures.stamped;
      whole = c.in-Ok-puts_of.ensures.whole;
    })
