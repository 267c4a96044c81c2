use Rattle.std.proofs.Common.{◌==◌, refl, ◌∙◌}
use Rattle.std.specs.List.{before_first}
use Rattle.shop_model.specs.pages.Targets.{targets_of}
use Rattle.shop_browsers.proofs.ReplyLinks.{shown_links}
use Rattle.shop_browsers.proofs.Taking.{link_taken, nothing_more, nothing_left}
use Rattle.shop_browsers.proofs.shown.ids_shown.Goals as goal

pub loop-after-init : goal.loop-after-init
loop-after-init c = λ p shows. (targets_of p, c.behind_front-rest.ensures p shows ∙ shown_links c.args.shown.now p shows, refl)

pub returns-then-names_no_more : goal.returns-then-names_no_more
returns-then-names_no_more c = λ p shows.
    let after = c.in-Some.after.now in
    nothing_more c.with_target-ids.result p after
    (link_taken c.loop-after.ids c.with_target-ids.result p c.loop-after.rest.now after (before_first (λ b. b == 34) after)
    (c.loop-after.invariant p shows) c.in-Some.ensures.links c.with_target-ids.ensures)
    (c.names_no_more.ensures c.if-names_no_more.true)

pub loop-after-preserved : goal.loop-after-preserved
loop-after-preserved c = λ p shows.
    let after = c.in-Some.after.now in
    link_taken c.loop-after.ids c.with_target-ids.result p c.loop-after.rest.now after (before_first (λ b. b == 34) after)
    (c.loop-after.invariant p shows) c.in-Some.ensures.links c.with_target-ids.ensures

pub returns : goal.returns
returns c = λ p shows. nothing_left c.loop-after.ids p c.loop-after.rest.now (c.loop-after.invariant p shows) c.in_default.ensures.links
