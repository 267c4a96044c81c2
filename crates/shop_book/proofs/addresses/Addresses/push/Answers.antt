use Rattle.std.proofs.Common.{◌≡◌, List, sym, ◌∙◌, ap, subst}
use Rattle.std.specs.Prelude.{is_some}
use Rattle.std.specs.HashMap.{get}
use Rattle.shop_model.specs.declared.address.Address.{Address}
use Rattle.shop_book.specs.Said.{alike, AreSaid}
use Rattle.shop_book.proofs.SaidLemmas.{said_new, said_again}
use Rattle.shop_book.proofs.addresses.Addresses.push.Goals as goal
use Rattle.shop_book.proofs.addresses.Addresses.push.Goals.{then-not-contains_key+in-Ok, else-not-contains_key}

pub invariant_of-self : goal.invariant_of-self
invariant_of-self c =
    let was = get alike c.self.inside.said in
    let there : c.contains_key.result ≡ is_some (was c.args.text) = c.contains_key.ensures in
    subst (λ (rows : List Address). AreSaid rows (get alike c.if-not-contains_key.self-inside.said)) (sym c.push_reserved.ensures.items)
    (elim c.if-not-contains_key.branch [
      | then-not-contains_key+in-Ok w ↦
          rw w.self-inside-is
          (said_new c.self.inside.rows.items c.args.row c.args.text was c.self.invariant c.requires.text (get alike w.insert.new.self) w.get.result.now.id (ap (λ (a : Address). a.id) w.get.ensures)
          (sym there ∙ w.if-not-contains_key.true) w.in-Ok.ensures.updates.0)
      | else-not-contains_key w ↦ rw w.self-inside-is (said_again c.self.inside.rows.items c.args.row c.args.text was c.self.invariant c.requires.text (sym there ∙ w.if-not-contains_key.false))
    ])
