use Rattle.std.proofs.Common.{◌≡◌, ◌≤◌, ◌++◌, length, drop}
use Rattle.shop_draft.specs.Links.{gaps_sum, woven}
use Rattle.shop_draft.proofs.item_links.ItemLinks.put_to.Given as goal

-- what is written, and what is left of the links
abbrev pub invariant-loop-gap : goal.invariant-loop-gap
invariant-loop-gap l = record {
  written : l.bytes ++ woven l.ids (drop l.gap-index l.gap-items) l.rest ≡ l.initial.bytes ++ woven l.ids l.gap-items l.self.text;
  longer : length l.initial.bytes ≤ length l.bytes;
  within : gaps_sum (drop l.gap-index l.gap-items) ≤ length l.rest;
}
