use Rattle.shop_model.specs.population.Population as spec
use Rattle.shop_populate.proofs.items.item_row.Goals as goal

pub returns : goal.returns
unfolding spec.item_row
returns c =
    let details =
    rw (
      c.in_ok-texts.ensures.title,
      c.picked.ensures,
      c.in_ok-texts.ensures.publisher,
      c.in_ok-texts.ensures.about,
      c.followers.ensures,
      c.in_ok-texts.ensures.thumb,
      c.in_ok-texts.ensures.image,
      c.srp.ensures.value,
      c.cost.ensures.value,
      c.stock.ensures.value,
      c.picked-2.ensures,
    )
    at c.in_ok-new.ensures in
    rw (details, c.stock-2.ensures.value, c.drawn.ensures, ← c.scale.view_is)
