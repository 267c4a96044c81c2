use Rattle.shop_model.specs.declared.drawing.Words.TheInside.{Inside}
use Rattle.shop_model.specs.population.Words.{Drawing}

abbrev pub drawing_of : Inside → Drawing
drawing_of w = record { desk = w.desk; coming = w.coming; rng = w.rng }
