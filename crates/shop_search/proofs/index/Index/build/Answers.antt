use Rattle.std.proofs.Common.{◌≡◌, ◌∙◌, sym, ap, map}
use Rattle.shop_model.specs.declared.requests.SearchKind.TheVariants as kind
use Rattle.shop_model.specs.lists.Catalogues.{naming}
use Rattle.shop_search.specs.Order.{IsListed}
use Rattle.shop_search.proofs.Filling.{answers_are}
use Rattle.shop_search.proofs.index.Index.build.Goals as goal

pub invariant_of-result : goal.invariant_of-result
invariant_of-result c =
    let items : map naming c.as_slice-3.result.now ≡ c.in_ok-items.items =
    ap (map naming) (c.as_slice-3.ensures ∙ sym c.as_slice.ensures) ∙ sym c.in_ok-items.ensures in
    let listed : IsListed c.in_ok-items.items c.in_ok-listed.listed.items = rw items at c.in_ok-listed.ensures in
    record {
      titles_found = answers_are (record { items = c.in_ok-items.items; authors = c.in_ok-authors.authors }) kind.Title c.in_ok-listed.listed.items listed
          (rw (c.as_slice-4.ensures, c.deref.ensures.value) at c.in_ok-title_lists.ensures);
      authors_found = answers_are (record { items = c.in_ok-items.items; authors = c.in_ok-authors.authors }) kind.Author c.in_ok-listed.listed.items listed
          (rw (c.as_slice-5.ensures, c.deref-2.ensures.value) at c.in_ok-author_lists.ensures);
      subjects_found = answers_are (record { items = c.in_ok-items.items; authors = c.in_ok-authors.authors }) kind.Subject c.in_ok-listed.listed.items listed
          (rw (c.as_slice-6.ensures, c.deref-3.ensures.value) at c.in_ok-subject_lists.ensures);
    }
