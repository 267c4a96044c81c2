use Rattle.std.proofs.Common.{◌≡◌, ◌≤◌, ◌+◌, ◌*◌, length, take}
use Rattle.shop_draft.proofs.Splices.{holes_len}
use Rattle.shop_draft.proofs.template.Template.len.Given as goal

abbrev pub invariant-loop-gap : goal.invariant-loop-gap
invariant-loop-gap l = record {
  sum : l.len ≡ length l.self.text + holes_len l.drawn (take l.gap-index l.gap-items);
  most : l.len ≤ length l.self.text + 20 * l.gap-index;
}
