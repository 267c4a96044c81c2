use Rattle.std.proofs.Common.{◌≡◌, ◌∙◌, ap, false, rules, sym, true}
use Rattle.shop_edges.specs.Causes.{count_up}
use Rattle.shop_edges.specs.Links.{gave}
use Rattle.shop_edges.specs.declared.listener.Linked.TheVariants.{Linked}
use Rattle.shop_lanes.specs.ListedLinks.{ListedLinks, is_listed}
use Rattle.shop_lanes.specs.PolledLinksView.{links_of}
use Rattle.shop_lanes.proofs.polled_links.PolledLinksPolledListener.poll_accept.Goals as goal

not_both : {b : _} → b ≡ true → b ≡ false → ⊥
not_both is not = absurd cc

pub returns-then-contains-clause-next : goal.returns-then-contains-clause-next
returns-then-contains-clause-next g c = rw c.yield_now.ensures.pending (search rules)

pub returns-then-contains-2-clause-next : goal.returns-then-contains-2-clause-next
returns-then-contains-2-clause-next g c =
    let listed : is_listed c.args.self.now.fails c.args.self.now ≡ true = search rules in
    (search rules, λ not. absurd (not_both listed not), search rules)

pub returns-in-Some-clause-next : goal.returns-in-Some-clause-next
returns-in-Some-clause-next g c =
    let s = c.self.inside in
    let link = c.in-Some.link in
    let left = c.pop_front.new.self in
    let calls = c.saturating_add-self-inside in
    let accepted = c.saturating_add-self-inside-in-Some in
    let after : ListedLinks g.row.I.Denot g.row.O.Denot → ListedLinks g.row.I.Denot g.row.O.Denot =
    λ v. record v { left = left.items; calls = count_up v.calls; accepted = count_up v.accepted; told = gave (Linked link.0 link.1) v.told } in
    let made : links_of (record s { left = left; calls = calls.result; accepted = accepted.result; given = c.with.result }) ≡ after (links_of s) =
    λ k. record (links_of s) { left = left.items; calls = calls.ensures k; accepted = accepted.ensures k; told = record (links_of s).told { given = c.with.ensures k } } in
    (search rules, search rules, sym (ap (λ v. v.left) c.self.view_is) ∙ c.in-Some.ensures.items, made ∙ ap after c.self.view_is)
