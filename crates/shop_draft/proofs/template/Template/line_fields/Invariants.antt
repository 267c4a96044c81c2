use Rattle.std.proofs.Common.{map, take}
use Rattle.std.specs.List.{flat_map}
use Rattle.shop_model.specs.pages.ShoppingCart.{line_field}
use Rattle.shop_model.specs.pages.PageText.{field_text}
use Rattle.shop_draft.specs.Templates.{Says}
use Rattle.shop_draft.proofs.template.Template.line_fields.Given as goal

abbrev pub invariant-loop-line : goal.invariant-loop-line
invariant-loop-line l = Says l.initial.self l.self (flat_map field_text (map line_field (take l.line-index l.lines)))
