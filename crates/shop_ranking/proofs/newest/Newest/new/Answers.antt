use Rattle.std.proofs.Common.{◌≡◌, length, map, ap, ◌∙◌}
use Rattle.std.specs.List.{range_with_len}
use Rattle.std.proofs.lemmas.List.{length-map}
use Rattle.std.proofs.lemmas.Simd.{map-map}
use Rattle.shop_model.specs.rows.Rows.{ItemRow}
use Rattle.shop_ranking.specs.Standing.{AreKept, always}
use Rattle.shop_ranking.specs.StandingNewest.{book_of, later}
use Rattle.shop_ranking.proofs.Books.{books_of_rows}
use Rattle.shop_ranking.proofs.newest.Newest.new.Goals as goal

pub invariant_of-result : goal.invariant_of-result
invariant_of-result c =
    let items = c.args.items.now in
    let ids : map (λ i. i.id) items ≡ range_with_len 1 (length items) =
    c.requires.from_one ∙ ap (range_with_len 1) (length-map items (λ (i : ItemRow). i.id)) in
    let kept : AreKept always later c.in_ok-subjects.subjects.items c.in_ok-books.books.items c.fill.new.lists.items =
    rw (c.deref-2.ensures.value, c.deref-3.ensures.value) at c.in_ok-fill.ensures in
    record { ids = rw c.in_ok-books.ensures (books_of_rows 1 items ids); kept = kept }

pub returns-clause-titles : goal.returns-clause-titles
returns-clause-titles c = rw c.in_ok-books.ensures (map-map (λ b. b.title) book_of c.args.items.now)

pub returns-clause-days : goal.returns-clause-days
returns-clause-days c = rw c.in_ok-books.ensures (map-map (λ b. b.published) book_of c.args.items.now)
