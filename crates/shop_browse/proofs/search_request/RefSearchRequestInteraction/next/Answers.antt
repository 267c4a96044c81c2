use Rattle.std.proofs.Common.{◌≡◌, ℕ, List, [], ◌∷◌, drop, get_or, refl, sym, ◌∙◌, ap, subst, inl, inr}
use Rattle.std.specs.Prelude.{MatchOption}
use Rattle.shop_model.specs.declared.requests.Request.{Request}
use Rattle.shop_model.specs.declared.requests.Request.TheVariants.{SearchRequest}
use Rattle.shop_history.specs.declared.keys.Key.{Key}
use Rattle.shop_attempt.specs.declared.attempts.ReadOf.{ReadOf}
use Rattle.shop_browse.specs.Counting.{HasCount, drawn_key, number_in}
use Rattle.shop_browse.specs.Driver.{AsksFor}
use Rattle.shop_browse.specs.Names.{NoneUnread, label_keys}
use Rattle.shop_browse.specs.Related.{related_in}
use Rattle.shop_browse.proofs.cited.Counting.{count_first}
use Rattle.shop_browse.proofs.cited.Names.{has_named, none_unread}
use Rattle.shop_browse.proofs.cited.Reads.{rest_of}
use Rattle.shop_browse.proofs.HomeReads.{FollowsDrawn, asks_drawn, asks_labels, drawn_reads, search_next}
use Rattle.shop_browse.proofs.search_request.RefSearchRequestInteraction.next.Goals as goal
use Rattle.shop_browse.proofs.search_request.RefSearchRequestInteraction.next.Goals.{then-round-eq1+in_ok-keys+in_default, else-round-eq1}

pub returns-then-round-eq0-clause-next : goal.returns-then-round-eq0-clause-next
returns-then-round-eq0-clause-next c =
    let ask = c.args.ask.now in
    let request : Request = SearchRequest c.args.self.now.now in
    let reads = c.args.reads.now in
    let follows : ℕ → ℕ → List ReadOf → Type 0 = FollowsDrawn ask.index.now ask.draw in
    let has : HasCount follows c.args.round reads = c.requires.follows in
    let first : c.index-reads-0.result ≡ has.count = count_first follows c.args.round reads has c.index-reads-0.result c.index-reads-0.is in
    let key_is : c.drawn_key.result ≡ drawn_key ask.draw (number_in has.count.row)
    = c.drawn_key.ensures ∙ ap (drawn_key ask.draw) (c.count_in-items.ensures.number ∙ ap (λ (r : ReadOf). number_in r.row) first) in
    subst (λ (k : Key). AsksFor (HasCount follows) request ask c.args.round reads (k ∷ [])) (sym key_is)
    (asks_drawn request ask c.args.round reads has c.if-round-eq0.true c.requires.seen (λ opening log k is. inl (inr is)))

pub returns-in-Some-clause-next : goal.returns-in-Some-clause-next
returns-in-Some-clause-next c =
    let ask = c.args.ask.now in
    let reads = c.args.reads.now in
    let index = ask.index.now in
    let has : HasCount (FollowsDrawn index ask.draw) c.args.round reads = c.requires.follows in
    let named = has_named index related_in (drawn_key ask.draw (number_in has.count.row)) c.args.round has.rest c.if-round-eq0.false has.rest_are in
    let related : c.related_in-related.result.now ≡ related_in named.read.row
    = c.related_in-related.ensures ∙ ap (λ (l : List ReadOf). related_in (get_or l 1 c.index-reads-1.result).row) (drawn_reads (SearchRequest c.args.self.now.now) ask c.args.round reads has named) in
    let keys : c.in-Some.keys ≡ label_keys index c.related_in-related.result.now
    = subst (λ o. MatchOption o (NoneUnread index c.count_in-items.result c.related_in-related.result.now) (λ keys. keys ≡ label_keys index c.related_in-related.result.now)) c.in-Some.is c.in_ok-keys.ensures in
    asks_labels (SearchRequest c.args.self.now.now) ask c.args.round reads has named c.if-round-eq1.true c.in-Some.keys (keys ∙ ap (label_keys index) related)

pub returns-clause-next : goal.returns-clause-next
returns-clause-next c =
    let ask = c.args.ask.now in
    let asked = c.args.self.now.now in
    let reads = c.args.reads.now in
    let index = ask.index.now in
    let has : HasCount (FollowsDrawn index ask.draw) c.args.round reads = c.requires.follows in
    let named = has_named index related_in (drawn_key ask.draw (number_in has.count.row)) c.args.round has.rest c.if-round-eq0.false has.rest_are in
    let reads_are = drawn_reads (SearchRequest asked) ask c.args.round reads has named in
    let related : c.related_in-related.result.now ≡ related_in named.read.row
    = c.related_in-related.ensures ∙ ap (λ (l : List ReadOf). related_in (get_or l 1 c.index-reads-1.result).row) reads_are in
    let counted : c.count_in-items.result ≡ number_in has.count.row
    = c.count_in-items.ensures.number ∙ ap (λ (r : ReadOf). number_in r.row) (count_first (FollowsDrawn index ask.draw) c.args.round reads has c.index-reads-0.result c.index-reads-0.is) in
    let none : c.args.round ≡ 1 → NoneUnread index (number_in has.count.row) (related_in named.read.row)
    = elim c.if-round-eq1.branch [
      | then-round-eq1+in_ok-keys+in_default w ↦ (λ is. subst (λ n. NoneUnread index n (related_in named.read.row)) counted (subst (NoneUnread index c.count_in-items.result) related (none_unread w.in_ok-keys.field-0 _ w.in_ok-keys.ensures w.in_default.not-Some)))
      | else-round-eq1 w ↦ (λ is. absurd (w.if-round-eq1.false is))
    ] in (
      refl,
      search_next (SearchRequest asked) ask c.args.round reads has named asked none _ refl (rest_of 2 reads ∙ ap (drop 2) reads_are) c.related_in-related.result.now related c.write_page.new.draft c.of.result c.of.ensures
          c.in_ok-write_page.ensures,
    )
