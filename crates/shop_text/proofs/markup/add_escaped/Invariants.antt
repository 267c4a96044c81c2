use Rattle.std.proofs.Common.{◌≡◌, ◌++◌, ◌≤◌, take, drop}
use Rattle.shop_text.specs.Escape.{escape}
use Rattle.shop_text.specs.Extends.{Extends}
use Rattle.shop_text.proofs.markup.add_escaped.Given as goal

abbrev pub invariant-loop-at : goal.invariant-loop-at
invariant-loop-at l = record {
  order : l.start ≤ l.at;
  text : l.text ++ drop l.start (take l.at l.bytes) ≡ l.initial.text ++ escape (take l.at l.bytes);
  front : Extends l.initial.text l.text;
}
