use Rattle.std.proofs.Common.{◌≡◌, length, arith, rules}
use Rattle.shop_draft.proofs.Splices.{whole}
use Rattle.shop_draft.proofs.template.Template.is_whole.Goals as goal

pub returns : goal.returns
returns c none =
    let none : length c.self.inside.gaps.items ≡ 0 = grind (arith, rules) in
    rw (← c.self.view_is) (whole _ none)
