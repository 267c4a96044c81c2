use Rattle.std.proofs.Common.{◌≡◌, ◌∙◌, ⊎_elim, inl, inr, ℕ, length, List, Some, codes, refl, sym, ap, arith}
use Rattle.std.specs.List.{slice_get}
use Rattle.std.proofs.lemmas.Option.{slice_get_read}
use Rattle.shop_app.proofs.shared.is_shared.Goals as goal

same : (a b : List ℕ) → Some a ≡ Some b → a ≡ b
same a b is = cc

pub returns-in-len1-up : goal.returns-in-len1-up
returns-in-len1-up c =
    let word = c.command-item.result in
    let words = c.args.words.now in
    let first : slice_get words 0 ≡ Some word = slice_get_read words (length words) 0 word refl (omega (arith, c.in-len1-up.len_at_least)) c.command-item.is in
    let named : c.bytes.result.now ≡ word = c.bytes.ensures in
    let tells = c.is_shared_command.ensures in (
      λ yes. ⊎_elim
          (λ (race : c.bytes.result.now ≡ codes "race"). inl (first ∙ ap (λ w. Some w) (sym named ∙ race)))
          (λ (serve : c.bytes.result.now ≡ codes "serve"). inr (first ∙ ap (λ w. Some w) (sym named ∙ serve)))
          (tells.0 yes),
      λ is. tells.1 (⊎_elim
          (λ (race : slice_get words 0 ≡ Some (codes "race")). inl (named ∙ same _ _ (sym first ∙ race)))
          (λ (serve : slice_get words 0 ≡ Some (codes "serve")). inr (named ∙ same _ _ (sym first ∙ serve)))
          is),
    )
