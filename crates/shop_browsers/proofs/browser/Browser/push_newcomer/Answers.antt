use Rattle.std.proofs.Common.{◌+◌, ◌%◌, List, ◌++◌, ◌∷◌, [], codes, decimal, refl}
use Rattle.std.proofs.lemmas.Result.{on_ok_weaker}
use Rattle.shop_model.specs.declared.page.Field.{Field}
use Rattle.shop_model.specs.pages.Targets.{pairs}
use Rattle.shop_model.specs.pages.Forms.{text_field}
use Rattle.shop_model.specs.population.Words.{entry, nouns, first_names, last_names}
use Rattle.shop_browsers.specs.Browsers.{word_at}
use Rattle.shop_browsers.proofs.Added.{added, added_signed, adds_both, adds_last}
use Rattle.shop_browsers.proofs.browser.Browser.push_newcomer.Goals as goal

pub returns : goal.returns
unfolding pairs
returns c =
    let b = c.args.self.now in
    let first = entry [] first_names (word_at b 1) in
    let last = entry [] last_names (word_at b 2) in
    let street = entry [] nouns (word_at b 1) in
    let city = entry [] last_names (word_at b 1) in
    let country = decimal (1 + word_at b 2 % 92) in
    let first_is = rw (c.first_name.ensures, c.word-first.ensures) at c.in_ok-push_field.ensures in
    let last_is = rw (c.last_name.ensures, c.word-second.ensures) at c.in_ok-push_field-2.ensures in
    let street_is = rw (c.noun.ensures, c.word-first.ensures) at c.in_ok-push_field-3.ensures in
    let city_is = rw (c.last_name-2.ensures, c.word-first.ensures) at c.in_ok-push_field-4.ensures in
    let country_is = rw c.word-second.ensures at c.in_ok-push_number.ensures in
    let one = added_signed _ _ _ c.args.sign.now (codes "fn") first c.in_ok-push.ensures.ok first_is in
    let two = added _ _ (codes "&ln=" ++ last) (codes "&") (text_field (codes "ln") last ∷ []) last_is (λ more. refl) in
    let three = added _ _ (codes "&street1=" ++ street) (codes "&") (text_field (codes "street1") street ∷ []) street_is (λ more. refl) in
    let four = added _ _ (codes "&city=" ++ city) (codes "&") (text_field (codes "city") city ∷ []) city_is (λ more. refl) in
    let five = added _ _ (codes "&zip=10000&country=" ++ country) (codes "&") (text_field (codes "zip") (codes "10000") ∷ text_field (codes "country") country ∷ []) country_is (λ more. refl) in
    let names = adds_both _ _ _ _ _ _ _ _ one two in
    let streets = adds_both _ _ _ _ _ _ _ _ names three in
    let cities = adds_both _ _ _ _ _ _ _ _ streets four in
    let all = adds_both _ _ _ _ _ _ _ _ cities five in
    let others : List Field = text_field (codes "phone") (codes "5550000000") ∷ text_field (codes "email") (codes "b@shop.example") ∷ [] in
    on_ok_weaker c.push-2.result (λ pushed. adds_last _ _ _ _ _ _ others all pushed) c.push-2.ensures.ok
