use Rattle.std.proofs.Common.{◌≡◌, List, [], ◌∷◌, sym, subst}
use Rattle.std.proofs.lemmas.Result.{IfOk-weaker}
use Rattle.shop_history.specs.declared.keys.Key.TheVariants.{Item}
use Rattle.shop_attempt.specs.declared.attempts.ReadOf.{ReadOf}
use Rattle.shop_browse.specs.Driver.{FollowsOne, IsNext}
use Rattle.shop_browse.specs.ItemPages.{request_of, item_of}
use Rattle.shop_browse.proofs.cited.Reads.{one_follows, one_read}
use Rattle.shop_browse.proofs.item_pages.ItemPageInteraction.next.Goals as goal

pub returns-clause-next : goal.returns-clause-next
returns-clause-next c =
    let page = c.args.self.now in
    let key = Item (item_of page) in
    let round = c.args.round in
    let reads = c.args.reads.now in
    let item = c.index-reads-0.result in
    let one : reads ≡ item ∷ [] = (one_read key reads item (one_follows key round reads c.if-round-eq0.false c.requires.follows) c.index-reads-0.is).0 in
    IfOk-weaker c.by_item.result _ _
    (λ next is. subst (λ (l : List ReadOf). IsNext (FollowsOne key) (request_of page) c.args.ask.now round l c.by_item.new.draft next) (sym one) (is round)) c.by_item.ensures
