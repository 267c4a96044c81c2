use Rattle.std.proofs.Common.{◌≡◌, map, take}
use Rattle.clap.specs.Words.{app_of}
use Rattle.shop_words.specs.Parser.{options_app}
use Rattle.shop_words.proofs.options.matches.Given as goal

abbrev pub invariant-loop-name : goal.invariant-loop-name
invariant-loop-name l = app_of l.command ≡ options_app (map (λ s. s.now) (take l.name-index l.names))
