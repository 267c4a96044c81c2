use Rattle.std.proofs.Common.{◌≡◌, ◌+◌, ◌<◌, ◌≤◌, List, [], ◌∷◌, ◌++◌, not, refl, sym, ◌∙◌, ap, subst, arith}
use Rattle.shop_model.specs.declared.requests.Request.TheVariants.{AdminAdd}
use Rattle.shop_model.specs.asked.AddAsked.{AddAsked}
use Rattle.shop_model.specs.pages.AdminAdd.{added_page}
use Rattle.shop_model.specs.rows.Limits.{items_limit}
use Rattle.shop_model.specs.rows.Lookups.{row_numbered}
use Rattle.shop_model.specs.rows.Rows.{ItemRow}
use Rattle.shop_history.specs.declared.acts.Act.TheVariants.{Add}
use Rattle.shop_history.specs.declared.keys.Key.TheVariants.{Count}
use Rattle.shop_draft.specs.Pages.{Shows}
use Rattle.shop_attempt.specs.declared.attempts.ReadOf.{ReadOf}
use Rattle.shop_attempt.specs.declared.attempts.Write.{Write}
use Rattle.shop_attempt.specs.declared.attempts.Write.TheVariants.{PutItem}
use Rattle.shop_browse.specs.Counting.{number_in}
use Rattle.shop_browse.specs.Driver.{IsChange, IsPageFor}
use Rattle.shop_browse.proofs.cited.Reads.{one_follows, one_read}
use Rattle.shop_order.specs.AdminAdd.{added_row}
use Rattle.shop_order.proofs.AdminAddLemmas.{adds, full_shop, no_author, none_found, some_found}
use Rattle.shop_order.proofs.admin_add.AddingInteraction.next.Goals as goal

pub returns-then-is_none-clause-next : goal.returns-then-is_none-clause-next
returns-then-is_none-clause-next c =
    let ask = c.args.ask.now in
    let asked : AddAsked = c.args.self.now.asked.now in
    let found = c.author.ensures ∙ ap (λ (a : AddAsked). row_numbered ask.index.now.authors a.author) (c.asked.view_is ∙ c.get-asked.ensures) in
    (refl, no_author asked ask c.args.reads.now c.refusal.new.draft (none_found _ _ _ found (c.is_none.ensures ∙ ap not c.if-is_none.true)) c.in_ok-refusal.ensures)

pub returns-then-items-ge-ITEMS_LIMIT-clause-next : goal.returns-then-items-ge-ITEMS_LIMIT-clause-next
returns-then-items-ge-ITEMS_LIMIT-clause-next c =
    let ask = c.args.ask.now in
    let asked : AddAsked = c.args.self.now.asked.now in
    let reads = c.args.reads.now in
    let count = c.index-reads-0.result in
    let draft = c.refusal-then-items-ge-ITEMS_LIMIT.new.draft in
    let found = c.author.ensures ∙ ap (λ (a : AddAsked). row_numbered ask.index.now.authors a.author) (c.asked.view_is ∙ c.get-asked.ensures) in
    let author = some_found _ _ _ found (c.is_none.ensures ∙ ap not c.if-is_none.false) in
    let one = one_read Count reads count (one_follows Count c.args.round reads c.if-round-eq0.false c.requires.follows) c.index-reads-0.is in
    let full : items_limit ≤ number_in count.row = omega (arith, c.if-items-ge-ITEMS_LIMIT.true, c.count_in-items.ensures.number) in
    (refl, subst (λ (l : List ReadOf). IsPageFor (AdminAdd asked) ask l draft) (sym one.0) (full_shop asked ask count one.1 author.0 author.1 draft full c.in_ok-refusal-2.ensures))

pub returns-clause-next : goal.returns-clause-next
returns-clause-next c =
    let ask = c.args.ask.now in
    let asked : AddAsked = c.args.self.now.asked.now in
    let reads = c.args.reads.now in
    let count = c.index-reads-0.result in
    let draft = c.write_page.new.draft in
    let found = c.author.ensures ∙ ap (λ (a : AddAsked). row_numbered ask.index.now.authors a.author) (c.asked.view_is ∙ c.get-asked.ensures) in
    let author = some_found _ _ _ found (c.is_none.ensures ∙ ap not c.if-is_none.false) in
    let one = one_read Count reads count (one_follows Count c.args.round reads c.if-round-eq0.false c.requires.follows) c.index-reads-0.is in
    let room : number_in count.row < items_limit = omega (arith, c.if-items-ge-ITEMS_LIMIT.false, c.count_in-items.ensures.number) in
    let shows : Shows draft (λ drawn. added_page asked.ids (number_in count.row + 1) asked.title)
    = subst (λ n. Shows draft (λ drawn. added_page asked.ids (n + 1) asked.title)) c.count_in-items.ensures.number
    (subst (λ (a : AddAsked). Shows draft (λ drawn. added_page a.ids (c.count_in-items.result + 1) a.title)) c.get-asked.ensures c.in_ok-write_page.ensures) in
    let writes : c.push.new.self ≡ PutItem (added_row asked) ∷ []
    = c.in_ok-push.ensures.ok ∙ ap (λ (w : List Write). w ++ PutItem c.in_ok-added.field-0 ∷ []) c.in_ok-writes.ensures
    ∙ ap (λ (i : ItemRow). PutItem i ∷ []) (c.in_ok-added.ensures ∙ ap added_row c.get-asked.ensures) in
    subst (λ (l : List ReadOf). IsChange (AdminAdd asked) ask l draft (Add c.in_ok-share.field-0) c.push.new.self) (sym one.0)
    (subst (λ (a : AddAsked). IsChange (AdminAdd asked) ask (count ∷ []) draft (Add a) c.push.new.self) (sym c.in_ok-share.ensures)
    (subst (λ (w : List Write). IsChange (AdminAdd asked) ask (count ∷ []) draft (Add asked) w) (sym writes) (adds asked ask count one.1 author.0 author.1 draft room shows)))
