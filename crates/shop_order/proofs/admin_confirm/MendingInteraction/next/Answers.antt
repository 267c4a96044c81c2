use Rattle.std.proofs.Common.{◌≡◌, ℕ, ◌≤◌, List, length, map, take, drop, get_or, MatchOption, refl, sym, ◌∙◌, ap, subst}
use Rattle.std.proofs.lemmas.Result.{IfOk-weaker}
use Rattle.shop_model.specs.declared.refusal.Refusal.TheVariants.{NoItem}
use Rattle.shop_model.specs.declared.requests.Request.TheVariants.{AdminConfirm}
use Rattle.shop_model.specs.asked.AdminAsked.{AdminAsked}
use Rattle.shop_model.specs.pages.Show.{check_there}
use Rattle.shop_history.specs.declared.keys.Key.{Key}
use Rattle.shop_history.specs.declared.keys.Key.TheVariants.{Bought}
use Rattle.shop_history.specs.declared.keys.Row.TheVariants.{Item}
use Rattle.shop_attempt.specs.declared.attempts.ReadOf.{ReadOf}
use Rattle.shop_browse.specs.Counting.{HasCount, number_in}
use Rattle.shop_browse.specs.Names.{NoneUnread, label_keys}
use Rattle.shop_browse.proofs.cited.Counting.{count_first}
use Rattle.shop_browse.proofs.cited.Reads.{rest_of}
use Rattle.shop_order.specs.AdminConfirm.{customers_in, FollowsMending, FollowsAdmin, AreFew, AreAmong, AreRelated, five_by}
use Rattle.shop_order.specs.Stops.{StopsBy}
use Rattle.shop_order.proofs.StopsLemmas.{stopped_next}
use Rattle.shop_order.proofs.AdminConfirmLemmas.{has_first, has_bought, first_reads, bought_reads, item_stops, reads_next, asks_bought, many_within, bought_taken, labels_left, few_sold, asks_labels}
use Rattle.shop_order.proofs.MendingLemmas.{related_as, none_left, all_among, changed}
use Rattle.shop_order.proofs.admin_confirm.MendingInteraction.next.Goals as goal
use Rattle.shop_order.proofs.admin_confirm.MendingInteraction.next.Goals.{then-round-eq2+in_ok-keys+in_default-2, else-round-eq2}

pub returns-in-Err-clause-next : goal.returns-in-Err-clause-next
returns-in-Err-clause-next c =
    let ask = c.args.ask.now in
    let asked : AdminAsked = c.args.self.now.asked.now in
    let reads = c.args.reads.now in
    let stop = c.in-Err.stop in
    let has : HasCount (FollowsMending ask.index.now asked.item) c.args.round reads = c.requires.follows in
    let first = has_first ask.index.now asked.item (number_in has.count.row) c.args.round has.rest c.if-round-eq0.false has.rest_are in
    let book = ap (λ (l : List ReadOf). get_or l 1 c.index-reads-1.result) (first_reads asked ask c.args.round reads has first) in
    let stops = item_stops asked ask c.args.round reads has first stop (subst (λ (r : ReadOf). StopsBy Item (check_there NoItem) r.row stop) book c.in-Err.ensures.err) in
    IfOk-weaker c.stopped.result _ _
    (λ next done. stopped_next (FollowsAdmin asked ask) (AdminConfirm asked) ask reads c.stopped.new.draft stop next refl stops done c.args.round) c.stopped.ensures

pub returns-then-round-eq1-clause-next : goal.returns-then-round-eq1-clause-next
returns-then-round-eq1-clause-next c =
    let ask = c.args.ask.now in
    let asked : AdminAsked = c.args.self.now.asked.now in
    let reads = c.args.reads.now in
    let has : HasCount (FollowsMending ask.index.now asked.item) c.args.round reads = c.requires.follows in
    let first = has_first ask.index.now asked.item (number_in has.count.row) c.args.round has.rest c.if-round-eq0.false has.rest_are in
    let customers : c.customers_in-customers.result.now ≡ customers_in first.buyers.row
    = c.customers_in-customers.ensures ∙ ap (λ (l : List ReadOf). customers_in (get_or l 2 c.index-reads-2.result).row) (first_reads asked ask c.args.round reads has first) in
    let keys : List Key = map Bought c.customers_in-customers.result.now in
    IfOk-weaker c.read_bought.result _ _
    (λ next is.
    reads_next (FollowsAdmin asked ask) (AdminConfirm asked) ask c.args.round reads c.args.draft.now keys next
    (asks_bought asked ask c.args.round reads has first c.if-round-eq1.true keys (ap (map Bought) customers)) is)
    c.read_bought.ensures

pub split_at-requires : goal.split_at-requires
split_at-requires c =
    let ask = c.args.ask.now in
    let asked : AdminAsked = c.args.self.now.asked.now in
    let reads = c.args.reads.now in
    let has : HasCount (FollowsMending ask.index.now asked.item) c.args.round reads = c.requires.follows in
    let sold = has_bought ask.index.now asked.item (number_in has.count.row) c.args.round has.rest c.if-round-eq0.false c.if-round-eq1.false has.rest_are in
    let customers : c.customers_in-customers.result.now ≡ customers_in sold.second.first.buyers.row
    = c.customers_in-customers.ensures ∙ ap (λ (l : List ReadOf). customers_in (get_or l 2 c.index-reads-2.result).row) (bought_reads asked ask c.args.round reads has sold) in
    subst (λ (l : List ReadOf). length c.customers_in-customers.result.now ≤ length l) (sym (rest_of 3 reads))
    (many_within asked ask c.args.round reads has sold (length c.customers_in-customers.result.now) (ap (λ (l : List ℕ). length l) customers))

pub related-requires-clause-few : goal.related-requires-clause-few
related-requires-clause-few c =
    let ask = c.args.ask.now in
    let asked : AdminAsked = c.args.self.now.asked.now in
    let reads = c.args.reads.now in
    let many : ℕ = length c.customers_in-customers.result.now in
    let has : HasCount (FollowsMending ask.index.now asked.item) c.args.round reads = c.requires.follows in
    let sold = has_bought ask.index.now asked.item (number_in has.count.row) c.args.round has.rest c.if-round-eq0.false c.if-round-eq1.false has.rest_are in
    let customers : c.customers_in-customers.result.now ≡ customers_in sold.second.first.buyers.row
    = c.customers_in-customers.ensures ∙ ap (λ (l : List ReadOf). customers_in (get_or l 2 c.index-reads-2.result).row) (bought_reads asked ask c.args.round reads has sold) in
    let bought_is = c.split_at.ensures.front ∙ ap (take many) (rest_of 3 reads) ∙ bought_taken asked ask c.args.round reads has sold many (ap (λ (l : List ℕ). length l) customers) in
    subst AreFew (sym bought_is) (few_sold asked ask c.args.round reads has sold c.requires.seen)

pub returns-in_default-clause-next : goal.returns-in_default-clause-next
returns-in_default-clause-next c t fits =
    let ask = c.args.ask.now in
    let asked : AdminAsked = c.args.self.now.asked.now in
    let reads = c.args.reads.now in
    let many : ℕ = length c.customers_in-customers.result.now in
    let has : HasCount (FollowsMending ask.index.now asked.item) c.args.round reads = c.requires.follows in
    let sold = has_bought ask.index.now asked.item (number_in has.count.row) c.args.round has.rest c.if-round-eq0.false c.if-round-eq1.false has.rest_are in
    let reads_are = bought_reads asked ask c.args.round reads has sold in
    let customers : c.customers_in-customers.result.now ≡ customers_in sold.second.first.buyers.row
    = c.customers_in-customers.ensures ∙ ap (λ (l : List ReadOf). customers_in (get_or l 2 c.index-reads-2.result).row) reads_are in
    let bought_is = c.split_at.ensures.front ∙ ap (take many) (rest_of 3 reads) ∙ bought_taken asked ask c.args.round reads has sold many (ap (λ (l : List ℕ). length l) customers) in
    let number : c.count_in-items.result ≡ number_in has.count.row
    = c.count_in-items.ensures.number ∙ ap (λ (r : ReadOf). number_in r.row) (count_first (FollowsMending ask.index.now asked.item) c.args.round reads has c.index-reads-0.result c.index-reads-0.is) in
    let item = ap (λ (a : AdminAsked). a.item) (c.asked.view_is ∙ c.get-asked.ensures) in
    let five = related_as _ _ _ _ _ _ c.in_ok-related.field-0 number item bought_is c.in_ok-related.ensures in
    let book_is = sym c.in-Ok.ensures.ok ∙ ap (λ (l : List ReadOf). (get_or l 1 c.index-reads-1.result).row) reads_are in
    none_left c.in_ok-related.field-0 _ _ c.in_default.not-Some five (all_among asked ask c.args.round reads has sold c.in-Ok.item.now book_is t fits)

pub returns-in-Some-2-clause-next : goal.returns-in-Some-2-clause-next
returns-in-Some-2-clause-next c =
    let ask = c.args.ask.now in
    let asked : AdminAsked = c.args.self.now.asked.now in
    let reads = c.args.reads.now in
    let index = ask.index.now in
    let many : ℕ = length c.customers_in-customers.result.now in
    let has : HasCount (FollowsMending index asked.item) c.args.round reads = c.requires.follows in
    let sold = has_bought index asked.item (number_in has.count.row) c.args.round has.rest c.if-round-eq0.false c.if-round-eq1.false has.rest_are in
    let customers : c.customers_in-customers.result.now ≡ customers_in sold.second.first.buyers.row
    = c.customers_in-customers.ensures ∙ ap (λ (l : List ReadOf). customers_in (get_or l 2 c.index-reads-2.result).row) (bought_reads asked ask c.args.round reads has sold) in
    let bought_is = c.split_at.ensures.front ∙ ap (take many) (rest_of 3 reads) ∙ bought_taken asked ask c.args.round reads has sold many (ap (λ (l : List ℕ). length l) customers) in
    let number : c.count_in-items.result ≡ number_in has.count.row
    = c.count_in-items.ensures.number ∙ ap (λ (r : ReadOf). number_in r.row) (count_first (FollowsMending index asked.item) c.args.round reads has c.index-reads-0.result c.index-reads-0.is) in
    let item = ap (λ (a : AdminAsked). a.item) (c.asked.view_is ∙ c.get-asked.ensures) in
    let five : AreRelated (number_in has.count.row) asked.item sold.second.bought c.in-Some.related
    = subst (λ o. MatchOption o (AreAmong (number_in has.count.row) asked.item sold.second.bought → ⊥) (AreRelated (number_in has.count.row) asked.item sold.second.bought)) c.in-Some.is
    (related_as _ _ _ _ _ _ c.in_ok-related.field-0 number item bought_is c.in_ok-related.ensures) in
    let keys : c.in-Some-2.keys ≡ label_keys index c.in-Some.related
    = subst (λ o. MatchOption o (NoneUnread index c.count_in-items.result c.in-Some.related) (λ keys. keys ≡ label_keys index c.in-Some.related)) c.in-Some-2.is c.in_ok-keys.ensures in
    asks_labels asked ask c.args.round reads has sold c.requires.seen five.among c.if-round-eq2.true c.in-Some-2.keys (keys ∙ ap (label_keys index) five.are)

pub returns-clause-next : goal.returns-clause-next
returns-clause-next c =
    let ask = c.args.ask.now in
    let asked : AdminAsked = c.args.self.now.asked.now in
    let reads = c.args.reads.now in
    let index = ask.index.now in
    let many : ℕ = length c.customers_in-customers.result.now in
    let has : HasCount (FollowsMending index asked.item) c.args.round reads = c.requires.follows in
    let sold = has_bought index asked.item (number_in has.count.row) c.args.round has.rest c.if-round-eq0.false c.if-round-eq1.false has.rest_are in
    let reads_are = bought_reads asked ask c.args.round reads has sold in
    let customers : c.customers_in-customers.result.now ≡ customers_in sold.second.first.buyers.row
    = c.customers_in-customers.ensures ∙ ap (λ (l : List ReadOf). customers_in (get_or l 2 c.index-reads-2.result).row) reads_are in
    let many_is = ap (λ (l : List ℕ). length l) customers in
    let bought_is = c.split_at.ensures.front ∙ ap (take many) (rest_of 3 reads) ∙ bought_taken asked ask c.args.round reads has sold many many_is in
    let labels_are = c.split_at.ensures.back ∙ ap (drop many) (rest_of 3 reads) ∙ labels_left asked ask c.args.round reads has sold many many_is in
    let number : c.count_in-items.result ≡ number_in has.count.row
    = c.count_in-items.ensures.number ∙ ap (λ (r : ReadOf). number_in r.row) (count_first (FollowsMending index asked.item) c.args.round reads has c.index-reads-0.result c.index-reads-0.is) in
    let item = ap (λ (a : AdminAsked). a.item) (c.asked.view_is ∙ c.get-asked.ensures) in
    let five : AreRelated (number_in has.count.row) asked.item sold.second.bought c.in-Some.related
    = subst (λ o. MatchOption o (AreAmong (number_in has.count.row) asked.item sold.second.bought → ⊥) (AreRelated (number_in has.count.row) asked.item sold.second.bought)) c.in-Some.is
    (related_as _ _ _ _ _ _ c.in_ok-related.field-0 number item bought_is c.in_ok-related.ensures) in
    let book_is = sym c.in-Ok.ensures.ok ∙ ap (λ (l : List ReadOf). (get_or l 1 c.index-reads-1.result).row) reads_are in
    let none : c.args.round ≡ 2 → NoneUnread index c.count_in-items.result c.in-Some.related
    = elim c.if-round-eq2.branch [
      | then-round-eq2+in_ok-keys+in_default-2 w ↦ (λ is. none_left w.in_ok-keys.field-0 _ _ w.in_default-2.not-Some w.in_ok-keys.ensures)
      | else-round-eq2 w ↦ (λ is. absurd (w.if-round-eq2.false is))
    ] in
    IfOk-weaker c.change.result _ _
    (λ next is.
    changed asked ask c.args.round reads has sold c.in-Ok.item.now book_is (λ two. subst (λ n. NoneUnread index n (five_by asked.item (number_in has.count.row) sold.second.bought)) number (subst (NoneUnread index c.count_in-items.result) five.are (none two))) _ refl labels_are c.in-Some.related five.are c.change.new.draft next is c.args.round)
    c.change.ensures
