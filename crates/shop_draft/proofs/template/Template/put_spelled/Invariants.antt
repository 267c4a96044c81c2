use Rattle.std.proofs.Common.{take}
use Rattle.shop_text.specs.Syllables.{spelled}
use Rattle.shop_draft.specs.Templates.{Says}
use Rattle.shop_draft.proofs.template.Template.put_spelled.Given as goal

abbrev pub invariant-loop-code : goal.invariant-loop-code
invariant-loop-code l = Says l.initial.self l.self (spelled (take l.code-index l.digits))
