use Rattle.std.proofs.Common.{rules}
use Rattle.shop_model.specs.population.Words.{desk_word, pcg_word, word}
use Rattle.shop_model.proofs.drawing.word.Goals as goal

pub returns-else-is_desk : goal.returns-else-is_desk
unfolding word desk_word pcg_word
returns-else-is_desk c = search rules
