use Rattle.std.specs.Prelude.{◌≡◌, ℕ, ◌+◌}
use Rattle.shop_model.specs.population.Words.{Drawing, to_come, word}
use Rattle.shop_engine.specs.declared.calls.Calls.TheInside.{Inside}
use Rattle.shop_engine.specs.Steps.{WORKERS}
use Rattle.shop_engine.specs.Posts.{CallsState}

abbrev pub calls_of : Inside → CallsState
calls_of i = record { caller = record { number = i.caller; seed = i.seed; scale = i.scale }; made = i.made }

-- the words to come are those of the caller's next calls
abbrev pub AreToCome : CallsState → Drawing → Type 0
AreToCome calls words =
    (k : ℕ) → to_come words k ≡ word calls.caller.seed calls.caller.scale WORKERS calls.caller.number (calls.made + k)
