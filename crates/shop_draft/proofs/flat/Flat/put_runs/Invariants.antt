use Rattle.std.proofs.Common.{◌≡◌, ◌++◌, ◌≤◌, length, take, drop}
use Rattle.shop_text.specs.Escape.{escape}
use Rattle.shop_draft.proofs.flat.Flat.put_runs.Given as goal

-- what is written, and the run of plain bytes that is not yet
abbrev pub invariant-loop-at : goal.invariant-loop-at
invariant-loop-at l = record {
  order : l.start ≤ l.at;
  text : l.self ++ drop l.start (take l.at l.bytes) ≡ l.initial.self ++ escape (take l.at l.bytes);
  longer : length l.initial.self ≤ length l.self;
}
