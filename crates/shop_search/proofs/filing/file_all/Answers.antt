use Rattle.std.proofs.Common.{◌≡◌, List, [], ◌∷◌, ◌++◌, sym, ◌∙◌, ap, subst, arith, append_assoc, append-nil, rules}
use Rattle.std.specs.Vec.Iter.{into_iter_items}
use Rattle.std.proofs.lemmas.List.{nil_from_length}
use Rattle.shop_search.specs.declared.filing.Filing.{Filing}
use Rattle.shop_search.specs.Filings.{filed_keys, IsFiling}
use Rattle.shop_search.specs.Growing.{FilesAll}
use Rattle.shop_search.proofs.Filings.{filing_begun, filing_room, filing_sorted, filing_next}
use Rattle.shop_search.proofs.filing.file_all.Goals as goal

pub loop-filing-init : goal.loop-filing-init
loop-filing-init c =
    let all : into_iter_items c.into_iter-filing-iterator.result ≡ c.args.filings.items = search rules in
    record {
      all = all;
      filing = λ item ready.
          subst (λ (fs : List Filing). IsFiling c.args.lists.now c.args.lists.now item [] fs) (sym all) (filing_begun item c.args.filings.items ready);
    }

pub file-requires-clause-sorted : goal.file-requires-clause-sorted
file-requires-clause-sorted c =
    let item = c.requires.ready.0 in
    filing_sorted item c.loop-filing.yielded c.in-Some.filing (into_iter_items c.next.new.self)
    (subst (λ (fs : List Filing). IsFiling c.args.lists.now c.loop-filing.lists item c.loop-filing.yielded fs) c.in-Some.ensures.steps.0 (c.loop-filing.invariant.filing item c.requires.ready.1))
    (c.requires.sorted c.in-Some.filing.key)

pub file-requires-clause-room : goal.file-requires-clause-room
file-requires-clause-room c =
    let item = c.requires.ready.0 in
    filing_room item c.loop-filing.yielded c.in-Some.filing (into_iter_items c.next.new.self)
    (subst (λ (fs : List Filing). IsFiling c.args.lists.now c.loop-filing.lists item c.loop-filing.yielded fs) c.in-Some.ensures.steps.0 (c.loop-filing.invariant.filing item c.requires.ready.1))

pub loop-filing-preserved : goal.loop-filing-preserved
loop-filing-preserved c =
    let f : Filing = c.in-Some.filing in
    let rest = into_iter_items c.next.new.self in
    let is = c.in-Some.ensures.steps.0 in
    record {
      all = append_assoc c.loop-filing.yielded (f ∷ []) rest ∙ ap (λ (fs : List Filing). c.loop-filing.yielded ++ fs) (sym is) ∙ c.loop-filing.invariant.all;
      filing = λ item ready.
          filing_next item c.loop-filing.yielded f rest
          (subst (λ (fs : List Filing). IsFiling c.args.lists.now c.loop-filing.lists item c.loop-filing.yielded fs) is (c.loop-filing.invariant.filing item ready)) c.file.ensures;
    }

pub returns : goal.returns
returns c =
    let none : into_iter_items c.loop-filing.filing-iterator ≡ [] = nil_from_length (into_iter_items c.loop-filing.filing-iterator) (omega (arith, c.loop-filing.filing-iterator.rest.ok.0, c.in-None.ensures.steps.0)) in
    let all : c.loop-filing.yielded ≡ c.args.filings.items = sym (append-nil c.loop-filing.yielded) ∙ ap (λ (fs : List Filing). c.loop-filing.yielded ++ fs) (sym none) ∙ c.loop-filing.invariant.all in
    λ item ready. subst (λ (fs : List Filing). FilesAll c.args.lists.now c.loop-filing.lists (filed_keys fs) item) all (c.loop-filing.invariant.filing item ready).done
