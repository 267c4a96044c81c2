-- The command that is handed to clap.
use Rattle.std.specs.Prelude.{List, [], Some, map}
use Rattle.clap.specs.Words.{App, Rule, Text, new_rule}
use Rattle.clap.specs.Simple.{new_shape}
use Rattle.clap.specs.declared.builder.ArgAction.TheVariants.{Set}

-- an option with a long name and one value
abbrev pub option_rule : Text → Rule
option_rule name = record (new_rule name) { long = Some name; action = Some Set }

-- a command with no name and these options
abbrev pub options_app : List Text → App
options_app names = record { top = record (new_shape []) { rules = map option_rule names }; subs = [] }
