use Rattle.std.proofs.Common.{◌≡◌, ℕ, ◌-◌, ◌<◌, List, length, map, get_or, set, sym, ap, ◌∙◌, subst, arith, Vec, Global, vec_capacity}
use Rattle.std.proofs.lemmas.List.{length-map}
use Rattle.shop_model.specs.declared.subject.Subject.{Subject}
use Rattle.shop_model.specs.lists.Rankings.{put_among, in_order}
use Rattle.shop_ranking.specs.Standing.{always}
use Rattle.shop_ranking.specs.StandingNewest.{Book, Days, later, AreKeptBooks}
use Rattle.shop_ranking.proofs.cited.Order.{later_strict, later_in_order}
use Rattle.shop_ranking.proofs.Books.{the_days, ids_redated, view_redated}
use Rattle.shop_ranking.proofs.Kept.{Stands, list_at, room_besides, kept_changed}
use Rattle.shop_ranking.proofs.Listed.{besides}
use Rattle.shop_ranking.proofs.newest.Newest.redate.Goals as goal
use Rattle.shop_ranking.proofs.newest.Newest.redate.Goals.{After-index_mut-list}

-- the other books of the item's subject
abbrev others : List Subject → List Book → Subject → ℕ → List Book
others owns books own item = besides always own owns books (item - 1)

within : (c : After-index_mut-list) → c.args.item - 1 < length c.self.inside.books.items
within c =
    let days = ap (λ (d : Days). length d.days) c.self.view_is in
    omega (arith, c.requires.first, c.requires.last, days, length-map c.self.inside.books.items (λ (b : Book). b.published))

stands : (c : After-index_mut-list)
    → Stands always later c.self.inside.subjects.items c.self.inside.books.items c.self.inside.lists.items (c.args.item - 1) c.number-number.result c.index.result.now
stands c = record {
  kept = c.self.invariant.kept;
  within = omega (arith, within c, c.self.invariant.kept.same);
  is = c.index.ensures;
  here = c.number-number.ensures;
}

-- among which its own stands
before : (c : After-index_mut-list)
    → c.index_mut-list.result.now.items
    ≡ put_among later c.index_mut-book.result.now (in_order later (others c.self.inside.subjects.items c.self.inside.books.items c.index.result.now c.args.item))
before c =
    let rest = in_order later (others c.self.inside.subjects.items c.self.inside.books.items c.index.result.now c.args.item) in
    ap (λ (list : Vec Book Global). list.items) c.index_mut-list.ensures.value
    ∙ list_at always later later_strict _ _ _ _ _ _ c.index_mut-book.result.now c.index_mut-list.result.now (stands c)
    ∙ ap (λ b. put_among later b rest) (sym c.index_mut-book.ensures.value)

pub take_out-moved-requires-clause-order : goal.take_out-moved-requires-clause-order
take_out-moved-requires-clause-order c = later_strict.total

pub take_out-moved-requires-clause-sorted : goal.take_out-moved-requires-clause-sorted
take_out-moved-requires-clause-sorted c =
    rw (ap (λ (list : Vec Book Global). list.items) c.index_mut-list.ensures.value
    ∙ c.self.invariant.kept.rankings.each c.number-number.result c.index.result.now c.index_mut-list.result.now c.number-number.ensures)
    (later_in_order _).sorted

pub take_out-moved-requires-clause-among : goal.take_out-moved-requires-clause-among
take_out-moved-requires-clause-among c =
    let at = (goal.at.take_out-moved-requires-clause-among c).After-index_mut-list in
    record { others = _; is = before at }

pub put_in-requires-clause-order : goal.put_in-requires-clause-order
put_in-requires-clause-order c = later_strict.total

pub put_in-requires-clause-sorted : goal.put_in-requires-clause-sorted
put_in-requires-clause-sorted c =
    let at = (goal.at.put_in-requires-clause-sorted c).After-index_mut-list in
    rw (c.take_out-moved.ensures.others _ (before at)) (later_in_order _).sorted

pub put_in-requires-clause-room : goal.put_in-requires-clause-room
put_in-requires-clause-room c =
    let at = (goal.at.put_in-requires-clause-room c).After-index_mut-list in
    let rest = c.take_out-moved.ensures.others _ (before at) in
    omega (
      arith,
      ap length rest,
      c.take_out-moved.new.list.ok.0,
      c.take_out-moved.ensures.capacity,
      ap vec_capacity c.index_mut-list.ensures.value,
      room_besides always later _ _ _ _ _ _ c.index_mut-list.result.now (stands at),
    )

pub invariant_of-self : goal.invariant_of-self
invariant_of-self c =
    let at = (goal.at.invariant_of-self c).After-index_mut-list in
    let books = c.self.inside.books.items in let k = c.args.item - 1 in let day = c.args.day in
    let b = c.index_mut-book.result.now in
    let here : record b { published = day } ≡ record (get_or books k b) { published = day } =
    ap (λ (x : Book). record x { published = day }) c.index_mut-book.ensures.value in
    let book_is = ap (λ (x : Book). record x { published = day }) c.book.view_is ∙ here in
    let moved_is = ap (λ (x : Book). record x { published = day }) (c.moved.view_is ∙ c.take_out-moved.ensures.element) ∙ here in
    let rest = c.take_out-moved.ensures.others _ (before at) in
    let items = c.put_in.ensures.items ∙ ap (put_among later _) rest ∙ ap (λ x. put_among later x (in_order later (others c.self.inside.subjects.items books c.index.result.now c.args.item))) moved_is in
    subst (λ x. AreKeptBooks c.self.inside.subjects.items (set books k x) (set c.self.inside.lists.items c.number-number.result c.put_in.new.list)) (sym book_is)
    (record {
      ids = ids_redated books k day b (within at) c.self.invariant.ids;
      kept = kept_changed always later later_strict _ _ _ _ _ _ (record (get_or books k b) { published = day }) c.index_mut-list.result.now c.put_in.new.list (stands at) c.index_mut-list.ensures.value
          items (c.put_in.ensures.capacity ∙ c.take_out-moved.ensures.capacity);
    })

pub returns : goal.returns
returns c =
    let at = (goal.at.returns c).After-index_mut-list in
    let owns = c.self.inside.subjects.items in
    let books = c.self.inside.books.items in let k = c.args.item - 1 in let day = c.args.day in
    let b = c.index_mut-book.result.now in
    let book_is = ap (λ (x : Book). record x { published = day }) (c.book.view_is ∙ c.index_mut-book.ensures.value) in
    ap (λ x. the_days owns (map (λ b. b.title) (set books k x)) (map (λ b. b.published) (set books k x))) book_is
    ∙ view_redated owns books k day b (within at)
    ∙ ap (λ (d : Days). record d { days = set d.days k day }) c.self.view_is
