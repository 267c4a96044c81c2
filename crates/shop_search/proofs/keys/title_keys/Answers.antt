use Rattle.shop_search.proofs.Words.{words_none}
use Rattle.shop_search.proofs.keys.title_keys.Goals as goal

pub loop-byte-init : goal.loop-byte-init
loop-byte-init c = words_none c.args.title.now c.new-keys.result.items c.new-run.result.items c.new-keys.ensures.items c.new-run.ensures.items
