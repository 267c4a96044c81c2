use Rattle.std.proofs.Common.{◌∙◌, ap, refl, set, set-set, sym}
use Rattle.std.proofs.lemmas.List.{get_or_default}
use Rattle.shop_places.specs.declared.spot.Spot.TheVariants.{Busy, Gone}
use Rattle.shop_lanes.proofs.accepting.Pool+L+B+B+Serving+B+Report.begin_at.Goals as goal

pub returns : goal.returns
returns g c =
    let lanes = c.args.self.now.lanes.items in
    record {
      berth = c.in-Free.berth;
      serving = c.begin.result;
      free = get_or_default lanes c.args.at Gone c.index_mut.result.now c.requires.inside ∙ sym c.index_mut.ensures.value ∙ sym c.replace.ensures.value ∙ c.in-Free.is;
      can_poll = c.begin.ensures.can_poll;
      serves = c.begin.ensures.serving;
      lanes = set-set lanes c.args.at c.replace.new.dest (Busy c.from-link.result c.begin.result) ∙ ap (λ link. set lanes c.args.at (Busy link c.begin.result)) c.from-link.ensures;
      others = refl;
    }
