use Rattle.std.proofs.Common.{[], ◌∷◌, ◌∙◌, ap, sym, subst}
use Rattle.shop_model.specs.declared.tables.Tables.{Tables}
use Rattle.shop_history.specs.declared.keys.Key.{Key}
use Rattle.shop_attempt.specs.declared.attempts.ReadOf.{ReadOf}
use Rattle.shop_browse.specs.Driver.{AsksFor, Fits}
use Rattle.shop_browse.specs.Lines.{items_in}
use Rattle.shop_browse.specs.Lists.{AreListed}
use Rattle.shop_browse.specs.Names.{label_keys, FollowsNamed}
use Rattle.shop_browse.specs.SubjectLists.{request_of, key_of, page_of}
use Rattle.shop_browse.proofs.LinesLemmas.{key_lines, none_unnamed}
use Rattle.shop_browse.proofs.NamedReads.{names_behind, first_is, labels_behind, asks_row, asks_labels}
use Rattle.shop_browse.proofs.SubjectListsLemmas.{may_read, listed_by, page_shown, all_within}
use Rattle.shop_browse.proofs.cited.Names.{has_named}
use Rattle.shop_browse.proofs.cited.Reads.{shows_page}
use Rattle.shop_browse.proofs.subject_lists.SubjectListInteraction.next.Goals as goal

pub returns-then-round-eq0-clause-next : goal.returns-then-round-eq0-clause-next
returns-then-round-eq0-clause-next c =
    let list = c.args.self.now in
    let ask = c.args.ask.now in
    subst (λ (k : Key). AsksFor (FollowsNamed ask.index.now items_in (key_of list)) (request_of list) ask c.args.round c.args.reads.now (k ∷ [])) (sym c.key.ensures)
    (asks_row items_in (key_of list) (request_of list) ask c.args.round c.args.reads.now c.if-round-eq0.true c.requires.follows (λ opening log. may_read list opening log ask.draw))

pub returns-in_ok-write_page-in-Some-clause-next : goal.returns-in_ok-write_page-in-Some-clause-next
returns-in_ok-write_page-in-Some-clause-next c =
    let list = c.args.self.now in
    let ask = c.args.ask.now in
    let reads = c.args.reads.now in
    let lines = c.in-Some.lines in
    let has = has_named ask.index.now items_in (key_of list) c.args.round reads c.if-round-eq0.false c.requires.follows in
    let are = c.items_in-items.ensures ∙ ap (λ (r : ReadOf). items_in r.row) (first_is ask.index.now items_in (key_of list) c.args.round reads has c.index-reads-0.result) in
    let listed : (t : Tables) → Fits ask.index.now t reads → AreListed t (request_of list) lines
    = λ t fits. listed_by list t lines
    (key_lines (key_of list) c.args.round reads (names_behind ask reads) has (labels_behind ask.index.now items_in (key_of list) c.args.round reads has) t fits _ are _ c.in_ok-lines.ensures lines c.in-Some.is) in
    (listed, λ t fits. shows_page t (request_of list) ask.draw _ (page_of list lines) (page_shown list t ask.draw lines (listed t fits)) c.in_ok-write_page-in-Some.ensures)

pub returns-in_ok-label_keys-in-None-clause-next : goal.returns-in_ok-label_keys-in-None-clause-next
returns-in_ok-label_keys-in-None-clause-next c =
    let list = c.args.self.now in
    let ask = c.args.ask.now in
    let reads = c.args.reads.now in
    let has = has_named ask.index.now items_in (key_of list) c.args.round reads c.if-round-eq0.false c.requires.follows in
    let are = c.items_in-items.ensures ∙ ap (λ (r : ReadOf). items_in r.row) (first_is ask.index.now items_in (key_of list) c.args.round reads has c.index-reads-0.result) in
    subst (AsksFor (FollowsNamed ask.index.now items_in (key_of list)) (request_of list) ask c.args.round reads) (sym (c.in_ok-label_keys-in-None.ensures ∙ ap (label_keys ask.index.now) are))
    (asks_labels items_in (key_of list) (request_of list) ask c.args.round reads has c.if-round-eq1.true (all_within list))

pub returns-else-round-eq1-clause-next : goal.returns-else-round-eq1-clause-next
returns-else-round-eq1-clause-next c t fits =
    let list = c.args.self.now in
    let ask = c.args.ask.now in
    let reads = c.args.reads.now in
    let has = has_named ask.index.now items_in (key_of list) c.args.round reads c.if-round-eq0.false c.requires.follows in
    let are = c.items_in-items.ensures ∙ ap (λ (r : ReadOf). items_in r.row) (first_is ask.index.now items_in (key_of list) c.args.round reads has c.index-reads-0.result) in
    none_unnamed (key_of list) c.args.round reads (names_behind ask reads) has (labels_behind ask.index.now items_in (key_of list) c.args.round reads has) t fits _ are _ c.in_ok-lines.ensures
    c.if-round-eq1.false (all_within list t fits.sound) c.in-None.is
