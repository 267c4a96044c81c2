use Rattle.std.proofs.Common.{List, [], ap, refl}
use Rattle.std.specs.List.{list_any}
use Rattle.shop_gateway.specs.declared.charge_key.ChargeKey.{ChargeKey}
use Rattle.shop_gateway.specs.Notes.{alike}
use Rattle.shop_gateway.proofs.Noted.{none_noted, still_noted}
use Rattle.shop_gateway.proofs.notes.Notes.new.Goals as goal

pub invariant_of-result : goal.invariant_of-result
invariant_of-result c =
    still_noted _ _ c.new-3.result.items c.new.result.items _ _ (none_noted (λ key. list_any (alike key) []) (λ key. refl)) c.new-3.ensures.items c.new.ensures.items
    (λ key. ap (λ (keys : List ChargeKey). list_any (alike key) keys) c.new-2.ensures.empty)
