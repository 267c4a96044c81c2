use Rattle.std.proofs.Common.{◌≡◌, List, [], Option, MatchOption, ◌∙◌, ap, sym, subst}
use Rattle.shop_model.specs.declared.requests.Request.TheVariants.{SearchResults}
use Rattle.shop_model.specs.declared.tables.Tables.{Tables}
use Rattle.shop_model.specs.lists.Catalogues.{Search, search_for}
use Rattle.shop_history.specs.declared.keys.Key.{Key}
use Rattle.shop_history.specs.declared.keys.Key.TheVariants.{Added}
use Rattle.shop_attempt.specs.declared.attempts.ReadOf.{ReadOf}
use Rattle.shop_browse.specs.Driver.{AsksFor, Fits}
use Rattle.shop_browse.specs.Lines.{items_in}
use Rattle.shop_browse.specs.Lists.{AreListed, found_page}
use Rattle.shop_browse.specs.Names.{label_keys, FollowsNamed}
use Rattle.shop_browse.specs.SearchResults.{added_key}
use Rattle.shop_browse.proofs.NamedReads.{names_behind, first_is, labels_behind, asks_labels}
use Rattle.shop_browse.proofs.SearchResultsLemmas.{added_there, found_lines, none_unfound}
use Rattle.shop_browse.proofs.cited.Lists.{listed_shown}
use Rattle.shop_browse.proofs.cited.Names.{has_named, all_labels, none_unread}
use Rattle.shop_browse.proofs.cited.Reads.{shows_page}
use Rattle.shop_browse.proofs.search_results.RefSearchResultsInteraction.next.Goals.{then-round-eq1+in_ok-keys+in_default, else-round-eq1}
use Rattle.shop_browse.proofs.search_results.RefSearchResultsInteraction.next.Goals as goal

same_search : (one other : Search) → Added one ≡ Added other → one ≡ other
same_search one other is = cc

pub returns-in-Some-clause-next : goal.returns-in-Some-clause-next
returns-in-Some-clause-next c =
    let asked = c.args.self.now.now in
    let ask = c.args.ask.now in
    let reads = c.args.reads.now in
    let has = has_named ask.index.now items_in (added_key asked) c.args.round reads c.if-round-eq0.false c.requires.follows in
    let are = c.items_in-added.ensures ∙ ap (λ (r : ReadOf). items_in r.row) (first_is ask.index.now items_in (added_key asked) c.args.round reads has c.index-reads-0.result) in
    let unread : List Key = label_keys ask.index.now c.items_in-added.result.now in
    let keys : c.in-Some.keys ≡ unread = subst (λ (o : Option (List Key)). MatchOption o (unread ≡ []) (λ keys. keys ≡ unread)) c.in-Some.is c.in_ok-keys.ensures in
    subst (AsksFor (FollowsNamed ask.index.now items_in (added_key asked)) (SearchResults asked) ask c.args.round reads) (sym (keys ∙ ap (label_keys ask.index.now) are))
    (asks_labels items_in (added_key asked) (SearchResults asked) ask c.args.round reads has c.if-round-eq1.true (added_there asked))

pub returns-in-Some-2-clause-next : goal.returns-in-Some-2-clause-next
returns-in-Some-2-clause-next c =
    let asked = c.args.self.now.now in
    let ask = c.args.ask.now in
    let reads = c.args.reads.now in
    let lines = c.in-Some-2.lines in
    let has = has_named ask.index.now items_in (added_key asked) c.args.round reads c.if-round-eq0.false c.requires.follows in
    let are = c.items_in-added.ensures ∙ ap (λ (r : ReadOf). items_in r.row) (first_is ask.index.now items_in (added_key asked) c.args.round reads has c.index-reads-0.result) in
    let none : c.args.round ≡ 1 → label_keys ask.index.now (items_in has.read.row) ≡ []
    = elim c.if-round-eq1.branch [
      | then-round-eq1+in_ok-keys+in_default w ↦ (λ is. ap (label_keys ask.index.now) (sym are) ∙ none_unread w.in_ok-keys.field-0 _ w.in_ok-keys.ensures w.in_default.not-Some)
      | else-round-eq1 w ↦ (λ is. absurd (w.if-round-eq1.false is))
    ] in
    let sought : c.in-Added.sought ≡ search_for asked.kind asked.text
    = same_search _ _ (sym c.in-Added.is ∙ ap (λ (r : ReadOf). r.key) (first_is ask.index.now items_in (added_key asked) c.args.round reads has c.index-reads-0-2.result) ∙ has.key_is) in
    let listed : (t : Tables) → Fits ask.index.now t reads → AreListed t (SearchResults asked) lines
    = λ t fits. found_lines asked c.args.round reads (names_behind ask reads) has (labels_behind ask.index.now items_in (added_key asked) c.args.round reads has)
    (all_labels ask.index.now items_in (added_key asked) c.args.round reads has none) t fits _ sought _ are _ c.in_ok-found.ensures _ c.as_slice.ensures _ c.in_ok-lines.ensures lines c.in-Some-2.is in
    (listed, λ t fits. shows_page t (SearchResults asked) ask.draw _ (found_page asked lines) (listed_shown t (SearchResults asked) ask.draw lines (listed t fits)) c.in_ok-write_page-in-Some-2.ensures)

pub returns-clause-next : goal.returns-clause-next
returns-clause-next c t fits =
    let asked = c.args.self.now.now in
    let ask = c.args.ask.now in
    let reads = c.args.reads.now in
    let has = has_named ask.index.now items_in (added_key asked) c.args.round reads c.if-round-eq0.false c.requires.follows in
    let are = c.items_in-added.ensures ∙ ap (λ (r : ReadOf). items_in r.row) (first_is ask.index.now items_in (added_key asked) c.args.round reads has c.index-reads-0.result) in
    let none : c.args.round ≡ 1 → label_keys ask.index.now (items_in has.read.row) ≡ []
    = elim c.if-round-eq1.branch [
      | then-round-eq1+in_ok-keys+in_default w ↦ (λ is. ap (label_keys ask.index.now) (sym are) ∙ none_unread w.in_ok-keys.field-0 _ w.in_ok-keys.ensures w.in_default.not-Some)
      | else-round-eq1 w ↦ (λ is. absurd (w.if-round-eq1.false is))
    ] in
    let sought : c.in-Added.sought ≡ search_for asked.kind asked.text
    = same_search _ _ (sym c.in-Added.is ∙ ap (λ (r : ReadOf). r.key) (first_is ask.index.now items_in (added_key asked) c.args.round reads has c.index-reads-0-2.result) ∙ has.key_is) in
    none_unfound asked c.args.round reads (names_behind ask reads) has (labels_behind ask.index.now items_in (added_key asked) c.args.round reads has)
    (all_labels ask.index.now items_in (added_key asked) c.args.round reads has none) t fits _ sought _ are _ c.in_ok-found.ensures _ c.as_slice.ensures _ c.in_ok-lines.ensures c.in-None.is
