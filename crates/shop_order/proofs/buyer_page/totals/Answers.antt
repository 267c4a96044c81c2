use Rattle.std.proofs.Common.{◌≡◌, ◌++◌, ◌∙◌, ap}
use Rattle.shop_model.specs.declared.page.Block.TheVariants.{Para}
use Rattle.shop_model.specs.pages.PageText.{block_line}
use Rattle.shop_model.specs.pages.Priced.{order_lines, totals_text}
use Rattle.shop_model.specs.trade.Money.{Money, totals}
use Rattle.shop_draft.specs.Templates.{filled}
use Rattle.shop_pricing.specs.declared.totals.Totals.{Totals}
use Rattle.shop_order.proofs.BuyerPageLemmas.{totals_ordered}
use Rattle.shop_order.proofs.buyer_page.totals.Goals as goal

pub returns : goal.returns
returns c t shows drawn =
    let priced = c.as_slice.ensures in
    let same : record { sub = c.of-totals.result.sub; tax = c.of-totals.result.tax; ship = c.of-totals.result.ship; total = c.of-totals.result.total } ≡ totals (order_lines t 1 c.args.lines.now) c.args.discount c.args.rate
    = ap (λ (m : Totals). record { sub = m.sub; tax = m.tax; ship = m.ship; total = m.total }) c.of-totals.ensures
    ∙ totals_ordered t c.args.lines.now c.as_slice.result.now c.args.discount c.args.rate (c.as_slice.ensures ∙ c.in_ok-priced.ensures.are t shows) in
    c.in_ok-totals.ensures drawn ∙ ap (λ (m : Money). filled drawn c.args.page.now ++ block_line (Para (totals_text m))) same
