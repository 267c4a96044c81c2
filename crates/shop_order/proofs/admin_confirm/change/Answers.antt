use Rattle.std.proofs.Common.{◌≡◌, List, [], ◌∷◌, ◌++◌, ◌∙◌, ap, subst}
use Rattle.shop_model.specs.asked.AdminAsked.{AdminAsked}
use Rattle.shop_model.specs.pages.AdminConfirm.{mended_page}
use Rattle.shop_model.specs.rows.Rows.{ItemRow}
use Rattle.shop_history.specs.declared.acts.Act.TheVariants.{Admin}
use Rattle.shop_draft.specs.Pages.{IsPage}
use Rattle.shop_attempt.specs.declared.attempts.Write.{Write}
use Rattle.shop_attempt.specs.declared.attempts.Write.TheVariants.{PutItem}
use Rattle.shop_browse.specs.declared.driver.Next.TheVariants.{Change}
use Rattle.shop_order.specs.AdminConfirm.{mended_row, published_at, IsChangeTo}
use Rattle.shop_order.proofs.admin_confirm.change.Goals as goal

pub returns : goal.returns
returns c =
    let names = c.args.names in
    let asked : AdminAsked = c.args.asked.now in
    let item : ItemRow = c.in_ok-item.item in
    let draft = c.write_page.new.draft in
    let is : item ≡ mended_row asked c.args.related c.args.item.now = c.in_ok-item.ensures ∙ ap (λ (a : AdminAsked). mended_row a c.args.related c.args.item.now) c.get.ensures in
    let ids = ap (λ (a : AdminAsked). a.ids) (c.behind-asked.view_is ∙ c.get-2.ensures) in
    let writes : c.push.new.self ≡ PutItem item ∷ [] = c.in_ok-push.ensures.ok ∙ ap (λ (w : List Write). w ++ PutItem item ∷ []) c.in_ok-writes.ensures in
    subst (λ (i : ItemRow). IsChangeTo names asked i draft (Change (Admin c.in_ok-share.field-0) c.push.new.self)) is (record {
      written = λ t named drawn. subst (λ i. IsPage draft drawn (mended_page t i (published_at drawn.stamp item))) ids (c.in_ok-write_page.ensures t named drawn);
      is = ap (λ (a : AdminAsked). Change (Admin a) c.push.new.self) c.in_ok-share.ensures ∙ ap (λ (w : List Write). Change (Admin asked) w) writes;
    })
