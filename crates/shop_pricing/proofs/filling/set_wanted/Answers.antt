use Rattle.std.proofs.Common.{◌≡◌, ℕ, List, Some, subst}
use Rattle.shop_model.specs.asked.CartAsked.{CartAsked}
use Rattle.shop_model.specs.trade.Carts.{one_more, wanted, check_lines}
use Rattle.shop_pricing.specs.Fills.{AreSet}
use Rattle.shop_pricing.proofs.Runs.{set_then, set_refused}
use Rattle.shop_pricing.proofs.filling.set_wanted.Goals as goal

pub returns-in-Done : goal.returns-in-Done
returns-in-Done c =
    let asked = c.asked.inside in
    let old = c.args.lines.now in
    let sets : c.as_slice.result.now ≡ asked.sets = c.as_slice.ensures in
    subst (λ (a : CartAsked). AreSet c.args.items (wanted a old) old c.set_all.new.lines c.set_all.result) c.asked.view_is
    (set_then c.args.items (one_more asked.item old) asked.sets old c.add_asked.new.lines c.set_all.new.lines c.set_all.result c.in-Done.ensures
    (subst (λ (xs : List (ℕ × ℕ)). AreSet c.args.items xs c.add_asked.new.lines c.set_all.new.lines c.set_all.result) sets c.set_all.ensures))

pub returns-in-Refused : goal.returns-in-Refused
returns-in-Refused c =
    let asked = c.asked.inside in
    let old = c.args.lines.now in
    subst (λ (a : CartAsked). check_lines c.args.items (wanted a old) old ≡ Some c.in-Refused.refusal) c.asked.view_is
    (set_refused c.args.items (one_more asked.item old) asked.sets old c.in-Refused.refusal c.in-Refused.ensures)
