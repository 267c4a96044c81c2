use Rattle.std.proofs.Common.{[], ◌∷◌, ◌++◌}
use Rattle.shop_model.specs.declared.parameter.Parameter.TheVariants.{FirstName, LastName, Phone, Email}
use Rattle.shop_journal.specs.Pairs.{text_pair}
use Rattle.shop_journal.specs.Targets.{address_pairs}
use Rattle.shop_journal.proofs.Marks.{adds_both}
use Rattle.shop_journal.proofs.targets.add_newcomer.Goals as goal

pub returns-clause-target : goal.returns-clause-target
returns-clause-target c =
    let asked = c.newcomer.inside in
    let behind = text_pair Phone asked.phone ∷ text_pair Email asked.email ∷ [] in
    let last = adds_both (text_pair Phone asked.phone ∷ []) (text_pair Email asked.email ∷ []) _ _ _ c.in_ok-add_text-3.ensures c.in_ok-add_text-4.ensures in
    let address = adds_both (address_pairs asked.address) behind _ _ _ c.in_ok-add_address.ensures last in
    let name = adds_both (text_pair LastName asked.last ∷ []) (address_pairs asked.address ++ behind) _ _ _ c.in_ok-add_text-2.ensures address in
    rw (← c.newcomer.view_is)
    (adds_both (text_pair FirstName asked.first ∷ []) (text_pair LastName asked.last ∷ (address_pairs asked.address ++ behind)) _ _ _ c.in_ok-add_text.ensures name)
