use Rattle.std.proofs.Common.{◌≡◌, ◌≤◌, ◌+◌, ◌-◌, ◌*◌, ◌++◌, length, drop}
use Rattle.shop_draft.specs.Templates.{spliced, front_len}
use Rattle.shop_draft.proofs.template.Template.fill.Given as goal

-- what is written, and what is left of the template
abbrev pub invariant-loop-gap : goal.invariant-loop-gap
invariant-loop-gap l = record {
  bytes : l.out.bytes ++ spliced l.drawn (drop l.gap-index l.gap-items) l.rest
      ≡ l.initial.out.bytes ++ spliced l.drawn l.gap-items l.self.text;
  within : front_len (drop l.gap-index l.gap-items) ≤ length l.rest;
  room : length l.rest + 20 * (length l.gap-items - l.gap-index) ≤ l.out.room;
}
