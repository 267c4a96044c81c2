use Rattle.std.proofs.Common.{sym, subst}
use Rattle.shop_model.specs.declared.requests.SearchKind.TheVariants as kind
use Rattle.shop_search.specs.Filings.{MayBeReady, IsReadyRoom}
use Rattle.shop_search.specs.Titles.{titled}
use Rattle.shop_search.proofs.GrowingLemmas.{holds_sorted, hold_more}
use Rattle.shop_search.proofs.growing.GrowingIndex.take.Goals as goal

pub file_all-requires-clause-sorted : goal.file_all-requires-clause-sorted
file_all-requires-clause-sorted c = holds_sorted _ kind.Title c.self.invariant.held.titles_held

pub file_all-requires-2-clause-sorted : goal.file_all-requires-2-clause-sorted
file_all-requires-2-clause-sorted c = holds_sorted _ kind.Author c.self.invariant.held.authors_held

pub file_all-requires-3-clause-sorted : goal.file_all-requires-3-clause-sorted
file_all-requires-3-clause-sorted c = holds_sorted _ kind.Subject c.self.invariant.held.subjects_held

pub invariant_of-self : goal.invariant_of-self
invariant_of-self c =
    let i = c.self.inside in
    let room = c.in-Some.room in
    let ready : IsReadyRoom i.authors i.title_lists i.author_lists i.subject_lists room =
    subst (MayBeReady i.authors i.title_lists i.author_lists i.subject_lists) (sym c.in-Some.ensures.value) c.self.invariant.ready in
    record {
      held = hold_more i.authors i.items.items _ room c.push_reserved.ensures.items c.self.invariant.held ready
          (c.file_all.ensures (titled room.named) ready.titles_ready.ready) (c.file_all-2.ensures (titled room.named) ready.authors_ready.ready)
          (c.file_all-3.ensures (titled room.named) ready.subjects_ready.ready);
      ready = rw c.take.ensures.after tt;
      place = λ some. let never = rw c.take.ensures.after at some in absurd (cc);
    }
