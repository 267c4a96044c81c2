use Rattle.std.proofs.Common.{◌≡◌, ◌++◌, take}
use Rattle.std.specs.List.{flat_map}
use Rattle.shop_model.specs.pages.PageText.{field_text}
use Rattle.shop_pages.proofs.blocks.push_fields.Given as goal

abbrev pub invariant-loop-field : goal.invariant-loop-field
invariant-loop-field l = l.text ≡ l.initial.text ++ flat_map field_text (take l.field-index l.fields)
