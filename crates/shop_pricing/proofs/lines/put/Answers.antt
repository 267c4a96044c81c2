use Rattle.std.proofs.Common.{◌≡◌, ◌≤◌, ℕ, List, sym, ap, ◌∙◌, subst, nat_eq}
use Rattle.indexmap.specs.IndexMap.{insert_entry}
use Rattle.shop_model.specs.trade.Carts.{set_line}
use Rattle.shop_pricing.specs.Bounds.{AreLines}
use Rattle.shop_pricing.specs.Changes.{IsChanged}
use Rattle.shop_pricing.specs.declared.lines.Changed.{Changed}
use Rattle.shop_pricing.proofs.Setting.{set_line-some, some_units, set_line_kept}
use Rattle.shop_pricing.proofs.lines.put.Goals as goal
use Rattle.shop_pricing.proofs.lines.put.Goals.{in-Ok, in-Err}

-- an insert of some units is a set
inserted : (item quantity : ℕ) (inside old new : List (ℕ × ℕ)) → 1 ≤ quantity → inside ≡ old
    → new ≡ insert_entry nat_eq inside item quantity → new ≡ set_line item quantity old
inserted item quantity inside old new some is made =
    made ∙ ap (λ (l : List (ℕ × ℕ)). insert_entry nat_eq l item quantity) is ∙ sym (set_line-some item quantity old (some_units quantity some))

pub invariant_of-lines : goal.invariant_of-lines
invariant_of-lines c =
    let old = c.args.lines.now in
    elim c.match-insert.branch [
      | in-Ok w ↦
          subst AreLines (sym (inserted c.args.item c.args.quantity _ old _ c.requires.some c.lines.view_is w.in-Ok.ensures.entries))
          (set_line_kept c.args.item c.args.quantity old c.requires.few c.requires.room (subst AreLines c.lines.view_is c.lines.invariant))
      | in-Err w ↦ subst AreLines (sym w.in-Err.ensures.err) c.lines.invariant
    ]

pub returns : goal.returns
returns c =
    let says : Changed → Type 0 = IsChanged c.args.item c.args.quantity c.args.lines.now c.insert.new.self.entries in
    elim c.match-insert.branch [
      | in-Ok w ↦
          subst says (sym w.result-is)
          (c.requires.room, inserted c.args.item c.args.quantity _ _ _ c.requires.some c.lines.view_is w.in-Ok.ensures.entries)
      | in-Err w ↦ subst says (sym w.result-is) (c.requires.room, w.in-Err.ensures.err ∙ c.lines.view_is)
    ]
