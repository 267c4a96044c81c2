use Rattle.std.proofs.Common.{arith, ◌∙◌, ◌*◌, Some, refl}
use Rattle.shop_turn.proofs.SeatLemmas.{lifts_as, appends_as, laid_as}
use Rattle.shop_turn.proofs.ShareLemmas.{lifted_top, counted_top, counted_shares, counted_keeps}
use Rattle.shop_turn.proofs.turns.count_one.Goals as goal

pub fetch_max-requires : goal.fetch_max-requires
fetch_max-requires g c = let at = c.requires.at in
    (at.table, (let a = at.words in omega arith), lifts_as _ _ _ _ c.args.moment c.args.callers c.args.share.now c.requires.longer)

pub exchange-requires : goal.exchange-requires
exchange-requires g c = let at = c.requires.at in let f = c.fetch_max.ensures in
    (f.0 ∙ at.table, (_, lifted_top c.args.callers c.args.moment c.args.share.now c.args.seat.now.me _ _ _ c.requires.longer c.requires.some f.2 refl refl))

pub fetch_add-requires : goal.fetch_add-requires
fetch_add-requires g c = let at = c.requires.at in let f = c.fetch_max.ensures in let e = c.exchange.ensures in
    let laid = laid_as (8 * c.args.callers) _ c.args.share.now c.fetch_max.new.seat.me _ c.another-top.ensures e.3 in
    (e.0 ∙ f.0 ∙ at.table, (let a = at.words in omega arith), appends_as _ _ _ _ c.args.moment c.args.callers c.args.share.now c.args.seat.now.me _ c.requires.longer f.2 laid)

pub exchange-requires-2 : goal.exchange-requires-2
exchange-requires-2 g c = let at = c.requires.at in let f = c.fetch_max.ensures in let e = c.exchange.ensures in let h = c.fetch_add.ensures in
    let laid = laid_as (8 * c.args.callers) _ c.args.share.now c.fetch_max.new.seat.me _ c.another-top.ensures e.3 in
    (h.0 ∙ e.0 ∙ f.0 ∙ at.table, (Some c.args.share.now, counted_top c.args.callers c.args.moment c.args.share.now c.args.seat.now.me _ _ _ c.requires.longer c.requires.some f.2 laid h.2))

pub returns-clause-all : goal.returns-clause-all
returns-clause-all g c = let f = c.fetch_max.ensures in let e = c.exchange.ensures in let h = c.fetch_add.ensures in
    let laid = laid_as (8 * c.args.callers) _ c.args.share.now c.fetch_max.new.seat.me _ c.another-top.ensures e.3 in
    counted_shares c.args.callers c.args.moment c.args.share.now c.args.seat.now.me _ _ _ c.requires.longer c.requires.some f.2 laid h.2 _ c.exchange-2.ensures.3

pub returns-clause-keeps : goal.returns-clause-keeps
returns-clause-keeps g c = let f = c.fetch_max.ensures in let e = c.exchange.ensures in let h = c.fetch_add.ensures in let x = c.exchange-2.ensures in
    let laid = laid_as (8 * c.args.callers) _ c.args.share.now c.fetch_max.new.seat.me _ c.another-top.ensures e.3 in
    (x.0 ∙ h.0 ∙ e.0 ∙ f.0, x.1 ∙ h.1 ∙ e.1 ∙ f.1, counted_keeps c.args.callers c.args.moment c.args.share.now c.args.seat.now.me _ _ _ c.requires.longer c.requires.some f.2 laid h.2 _ x.3)
