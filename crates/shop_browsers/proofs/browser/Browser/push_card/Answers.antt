use Rattle.std.proofs.Common.{List, ◌∷◌, [], codes, ap, ◌∙◌}
use Rattle.std.specs.Prelude.{if◌then◌else◌}
use Rattle.std.proofs.lemmas.Result.{on_ok_weaker}
use Rattle.shop_model.specs.declared.card_type.CardType.TheVariants.{Visa}
use Rattle.shop_model.specs.declared.page.Field.{Field}
use Rattle.shop_model.specs.pages.Targets.{pairs, id_fields}
use Rattle.shop_model.specs.pages.Forms.{text_field}
use Rattle.shop_model.specs.population.Words.{entry}
use Rattle.shop_model.specs.rows.Subjects.{card_types, card_name}
use Rattle.shop_browsers.specs.Browsers.{word_at}
use Rattle.shop_browsers.proofs.Added.{added_signed, adds_last, ids_behind}
use Rattle.shop_browsers.proofs.browser.Browser.push_card.Goals as goal

pub returns : goal.returns
unfolding pairs id_fields
returns c =
    let b = c.args.self.now in
    let card = card_name (entry Visa card_types (word_at b 1)) in
    let ids = ids_behind _ _ (codes "c") (codes "cart") b.customer b.cart c.in_ok-push_ids.ensures in
    let sign = c.sign_behind.ensures ∙ ap (λ has. if has then codes "&" else codes "?") c.has_ids.ensures in
    let signed = rw sign at c.in_ok-push.ensures.ok in
    let card_is = rw (c.name.ensures.name, c.picked.ensures, c.word.ensures) at c.in_ok-push_field.ensures in
    let card_added = added_signed _ _ _ _ (codes "card") card signed card_is in
    let others : List Field = text_field (codes "number") (codes "4111222233334444") ∷ text_field (codes "name") (codes "B") ∷ text_field (codes "expiry") (codes "2030-12") ∷ [] in
    on_ok_weaker c.push-2.result
    (λ pushed. adds_last _ _ _ _ _ _ (text_field (codes "card") card ∷ others) ids (adds_last _ _ _ _ _ _ others card_added pushed)) c.push-2.ensures.ok
