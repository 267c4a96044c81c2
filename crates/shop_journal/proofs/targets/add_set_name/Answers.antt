use Rattle.std.proofs.Common.{◌≡◌, ◌++◌, List, ℕ, codes, decimal, ap, sym, ◌∙◌}
use Rattle.std.proofs.lemmas.List.{append_assoc}
use Rattle.form_urlencoded.specs.Form.{byte_serialize}
use Rattle.shop_journal.proofs.Marks.{set_name}
use Rattle.shop_journal.proofs.targets.add_set_name.Goals as goal

pub returns : goal.returns
returns c =
    let text = c.args.text.now in
    let digits : c.as_bytes.result.now ≡ decimal c.args.item = c.as_bytes.ensures.value ∙ c.format.ensures.text in
    c.in_ok-add_serialized.ensures ∙ (λ i. c.in_ok-push.ensures.ok i ++ byte_serialize (digits i))
    ∙ append_assoc text (codes "qty_") (byte_serialize (decimal c.args.item))
    ∙ ap (λ (l : List ℕ). text ++ l) (sym (set_name (decimal c.args.item)))
