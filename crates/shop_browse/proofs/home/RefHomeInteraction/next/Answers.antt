use Rattle.std.proofs.Common.{◌≡◌, ℕ, List, [], ◌∷◌, drop, get_or, refl, sym, ◌∙◌, ap, subst, inl, inr}
use Rattle.std.specs.Prelude.{MatchOption}
use Rattle.std.proofs.lemmas.Result.{IfOk-weaker}
use Rattle.shop_model.specs.declared.requests.Request.TheVariants.{Home}
use Rattle.shop_history.specs.declared.keys.Key.{Key}
use Rattle.shop_history.specs.declared.keys.Key.TheVariants.{Customer}
use Rattle.shop_attempt.specs.declared.attempts.ReadOf.{ReadOf}
use Rattle.shop_browse.specs.Counting.{HasCount, drawn_key, number_in}
use Rattle.shop_browse.specs.Driver.{AsksFor}
use Rattle.shop_browse.specs.Home.{FollowsHome}
use Rattle.shop_browse.specs.Names.{NoneUnread, label_keys}
use Rattle.shop_browse.specs.Related.{related_in}
use Rattle.shop_browse.proofs.cited.Counting.{count_first}
use Rattle.shop_browse.proofs.cited.Names.{has_named, none_unread}
use Rattle.shop_browse.proofs.cited.Reads.{rest_of}
use Rattle.shop_browse.proofs.HomeKnown.{FollowsGreeting, asks_both, asks_related, greeting_next, greeting_reads, has_greeting}
use Rattle.shop_browse.proofs.HomeReads.{FollowsDrawn, anyone_next, asks_drawn, asks_labels, drawn_reads}
use Rattle.shop_browse.proofs.home.RefHomeInteraction.next.Goals as goal
use Rattle.shop_browse.proofs.home.RefHomeInteraction.next.Goals.{then-round-eq1+in_ok-keys-in-None+in_default, else-round-eq1, then-round-eq1-2+in_ok-keys-in-Some+in_default-2, else-round-eq1-2}

-- for anyone

pub returns-then-round-eq0-clause-next : goal.returns-then-round-eq0-clause-next
returns-then-round-eq0-clause-next c =
    let ask = c.args.ask.now in
    let asked = c.args.self.now.now in
    let reads = c.args.reads.now in
    let has : HasCount (FollowsDrawn ask.index.now ask.draw) c.args.round reads = subst (λ n. FollowsHome n ask c.args.round reads) c.in-None.is c.requires.follows in
    let first : c.index-reads-0.result ≡ has.count = count_first (FollowsDrawn ask.index.now ask.draw) c.args.round reads has c.index-reads-0.result c.index-reads-0.is in
    let key_is : c.drawn_key.result ≡ drawn_key ask.draw (number_in has.count.row)
    = c.drawn_key.ensures ∙ ap (drawn_key ask.draw) (c.count_in-items.ensures.number ∙ ap (λ (r : ReadOf). number_in r.row) first) in
    subst (λ n. AsksFor (FollowsHome n ask) (Home asked) ask c.args.round reads (c.drawn_key.result ∷ [])) (sym c.in-None.is)
    (subst (λ (k : Key). AsksFor (HasCount (FollowsDrawn ask.index.now ask.draw)) (Home asked) ask c.args.round reads (k ∷ [])) (sym key_is)
    (asks_drawn (Home asked) ask c.args.round reads has c.if-round-eq0.true c.requires.seen (λ opening log k is. inl (inr (inr is)))))

pub returns-in-Some-2-clause-next : goal.returns-in-Some-2-clause-next
returns-in-Some-2-clause-next c =
    let ask = c.args.ask.now in
    let asked = c.args.self.now.now in
    let reads = c.args.reads.now in
    let index = ask.index.now in
    let has : HasCount (FollowsDrawn index ask.draw) c.args.round reads = subst (λ n. FollowsHome n ask c.args.round reads) c.in-None.is c.requires.follows in
    let named = has_named index related_in (drawn_key ask.draw (number_in has.count.row)) c.args.round has.rest c.if-round-eq0.false has.rest_are in
    let related : c.related_in-related.result.now ≡ related_in named.read.row
    = c.related_in-related.ensures ∙ ap (λ (l : List ReadOf). related_in (get_or l 1 c.index-reads-1.result).row) (drawn_reads (Home asked) ask c.args.round reads has named) in
    let keys : c.in-Some-2.keys ≡ label_keys index c.related_in-related.result.now
    = subst (λ o. MatchOption o (NoneUnread index c.count_in-items.result c.related_in-related.result.now) (λ keys. keys ≡ label_keys index c.related_in-related.result.now)) c.in-Some-2.is c.in_ok-keys-in-None.ensures in
    subst (λ n. AsksFor (FollowsHome n ask) (Home asked) ask c.args.round reads c.in-Some-2.keys) (sym c.in-None.is)
    (asks_labels (Home asked) ask c.args.round reads has named c.if-round-eq1.true c.in-Some-2.keys (keys ∙ ap (label_keys index) related))

pub returns-in_ok-write_page-in-None-clause-next : goal.returns-in_ok-write_page-in-None-clause-next
returns-in_ok-write_page-in-None-clause-next c =
    let ask = c.args.ask.now in
    let asked = c.args.self.now.now in
    let reads = c.args.reads.now in
    let index = ask.index.now in
    let has : HasCount (FollowsDrawn index ask.draw) c.args.round reads = subst (λ n. FollowsHome n ask c.args.round reads) c.in-None.is c.requires.follows in
    let named = has_named index related_in (drawn_key ask.draw (number_in has.count.row)) c.args.round has.rest c.if-round-eq0.false has.rest_are in
    let reads_are = drawn_reads (Home asked) ask c.args.round reads has named in
    let related : c.related_in-related.result.now ≡ related_in named.read.row
    = c.related_in-related.ensures ∙ ap (λ (l : List ReadOf). related_in (get_or l 1 c.index-reads-1.result).row) reads_are in
    let counted : c.count_in-items.result ≡ number_in has.count.row
    = c.count_in-items.ensures.number ∙ ap (λ (r : ReadOf). number_in r.row) (count_first (FollowsDrawn index ask.draw) c.args.round reads has c.index-reads-0.result c.index-reads-0.is) in
    let none : c.args.round ≡ 1 → NoneUnread index (number_in has.count.row) (related_in named.read.row)
    = elim c.if-round-eq1.branch [
      | then-round-eq1+in_ok-keys-in-None+in_default w ↦ (λ is. subst (λ n. NoneUnread index n (related_in named.read.row)) counted (subst (NoneUnread index c.count_in-items.result) related (none_unread w.in_ok-keys-in-None.field-0 _ w.in_ok-keys-in-None.ensures w.in_default.not-Some)))
      | else-round-eq1 w ↦ (λ is. absurd (w.if-round-eq1.false is))
    ] in (
      refl,
      anyone_next (Home asked) ask c.args.round reads has named asked c.in-None.is none _ refl (rest_of 2 reads ∙ ap (drop 2) reads_are) c.related_in-related.result.now related c.write_page.new.draft c.of.result c.of.ensures
          c.in_ok-write_page-in-None.ensures,
    )

-- for the customer whose number is given

pub returns-then-round-eq0-2-clause-next : goal.returns-then-round-eq0-2-clause-next
returns-then-round-eq0-2-clause-next c =
    let ask = c.args.ask.now in
    let asked = c.args.self.now.now in
    let number = c.in-Some.number in
    let reads = c.args.reads.now in
    let follows : ℕ → ℕ → List ReadOf → Type 0 = FollowsGreeting number ask.index.now ask.draw in
    let has : HasCount follows c.args.round reads = subst (λ n. FollowsHome n ask c.args.round reads) c.in-Some.is c.requires.follows in
    let first : c.index-reads-0.result ≡ has.count = count_first follows c.args.round reads has c.index-reads-0.result c.index-reads-0.is in
    let key_is : c.drawn_key-drawn.result ≡ drawn_key ask.draw (number_in has.count.row)
    = c.drawn_key-drawn.ensures ∙ ap (drawn_key ask.draw) (c.count_in-items.ensures.number ∙ ap (λ (r : ReadOf). number_in r.row) first) in
    subst (λ n. AsksFor (FollowsHome n ask) (Home asked) ask c.args.round reads (Customer number ∷ c.drawn_key-drawn.result ∷ [])) (sym c.in-Some.is)
    (asks_both asked number c.in-Some.is ask c.args.round reads has c.if-round-eq0-2.true c.requires.seen (Customer number ∷ c.drawn_key-drawn.result ∷ [])
    (ap (λ (k : Key). Customer number ∷ k ∷ []) key_is))

pub returns-in-Some-3-clause-next : goal.returns-in-Some-3-clause-next
returns-in-Some-3-clause-next c =
    let ask = c.args.ask.now in
    let asked = c.args.self.now.now in
    let number = c.in-Some.number in
    let reads = c.args.reads.now in
    let index = ask.index.now in
    let follows : ℕ → ℕ → List ReadOf → Type 0 = FollowsGreeting number index ask.draw in
    let has : HasCount follows c.args.round reads = subst (λ n. FollowsHome n ask c.args.round reads) c.in-Some.is c.requires.follows in
    let known = has_greeting number index (drawn_key ask.draw (number_in has.count.row)) c.args.round has.rest c.if-round-eq0-2.false has.rest_are in
    let related : c.related_in-related-in-Some.result.now ≡ related_in known.read.row
    = c.related_in-related-in-Some.ensures ∙ ap (λ (l : List ReadOf). related_in (get_or l 2 c.index-reads-2.result).row) (greeting_reads asked number c.in-Some.is ask c.args.round reads has known) in
    let keys : c.in-Some-3.keys ≡ label_keys index c.related_in-related-in-Some.result.now
    = subst (λ o. MatchOption o (NoneUnread index c.count_in-items.result c.related_in-related-in-Some.result.now) (λ keys. keys ≡ label_keys index c.related_in-related-in-Some.result.now)) c.in-Some-3.is c.in_ok-keys-in-Some.ensures in
    subst (λ n. AsksFor (FollowsHome n ask) (Home asked) ask c.args.round reads c.in-Some-3.keys) (sym c.in-Some.is)
    (asks_related asked number c.in-Some.is ask c.args.round reads has known c.if-round-eq1-2.true c.in-Some-3.keys (keys ∙ ap (label_keys index) related))

pub returns-after-round-eq1-2-clause-next : goal.returns-after-round-eq1-2-clause-next
returns-after-round-eq1-2-clause-next c =
    let ask = c.args.ask.now in
    let asked = c.args.self.now.now in
    let number = c.in-Some.number in
    let reads = c.args.reads.now in
    let index = ask.index.now in
    let follows : ℕ → ℕ → List ReadOf → Type 0 = FollowsGreeting number index ask.draw in
    let has : HasCount follows c.args.round reads = subst (λ n. FollowsHome n ask c.args.round reads) c.in-Some.is c.requires.follows in
    let known = has_greeting number index (drawn_key ask.draw (number_in has.count.row)) c.args.round has.rest c.if-round-eq0-2.false has.rest_are in
    let reads_are = greeting_reads asked number c.in-Some.is ask c.args.round reads has known in
    let related : c.related_in-related-in-Some.result.now ≡ related_in known.read.row
    = c.related_in-related-in-Some.ensures ∙ ap (λ (l : List ReadOf). related_in (get_or l 2 c.index-reads-2.result).row) reads_are in
    let counted : c.count_in-items.result ≡ number_in has.count.row
    = c.count_in-items.ensures.number ∙ ap (λ (r : ReadOf). number_in r.row) (count_first follows c.args.round reads has c.index-reads-0.result c.index-reads-0.is) in
    let none : c.args.round ≡ 1 → NoneUnread index (number_in has.count.row) (related_in known.read.row)
    = elim c.if-round-eq1-2.branch [
      | then-round-eq1-2+in_ok-keys-in-Some+in_default-2 w ↦ (λ is. subst (λ n. NoneUnread index n (related_in known.read.row)) counted (subst (NoneUnread index c.count_in-items.result) related (none_unread w.in_ok-keys-in-Some.field-0 _ w.in_ok-keys-in-Some.ensures w.in_default-2.not-Some)))
      | else-round-eq1-2 w ↦ (λ is. absurd (w.if-round-eq1-2.false is))
    ] in
    IfOk-weaker c.greet.result _ _
    (λ next is.
    greeting_next asked number c.in-Some.is ask c.args.round reads has known c.requires.seen none _ refl (rest_of 3 reads ∙ ap (drop 3) reads_are) c.related_in-related-in-Some.result.now related
    _ (ap (λ (l : List ReadOf). (get_or l 1 c.index-reads-1-in-Some.result).row) reads_are) c.greet.new.draft next is (FollowsHome asked.ids.c ask) c.args.round)
    c.greet.ensures
