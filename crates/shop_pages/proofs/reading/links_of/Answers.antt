use Rattle.std.proofs.Common.{◌∙◌, ap}
use Rattle.std.specs.List.{flat_map}
use Rattle.shop_model.specs.pages.Targets.{link_target}
use Rattle.shop_pages.proofs.reading.links_of.Goals as goal

pub returns-clause-each : goal.returns-clause-each
returns-clause-each c = λ page is.
    c.in_ok-targets_among.ensures ∙ ap (flat_map link_target) (c.as_slice.ensures ∙ c.in_ok-page.ensures.blocks page is)
