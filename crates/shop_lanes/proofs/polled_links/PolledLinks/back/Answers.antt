use Rattle.std.proofs.Common.{◌∙◌, ap, map, sym}
use Rattle.std.proofs.lemmas.List.{take-map}
use Rattle.shop_lanes.specs.ListedLinks.{kept_of, returned_of}
use Rattle.shop_lanes.specs.Traces.{traced}
use Rattle.shop_lanes.proofs.polled_links.PolledLinks.back.Goals as goal

pub returns : goal.returns
returns g c =
    let s = c.self.inside in
    ap (map returned_of) (c.deref.ensures.value ∙ c.self.invariant.0) ∙ sym (take-map returned_of s.room (traced s.returned)) ∙ ap kept_of c.self.view_is
