-- What a seat knows that was joined by another.
use Rattle.std.specs.Prelude.{[], false}
use Rattle.shop_model.specs.rows.Empty.{no_tables}
use Rattle.shop_turn.specs.declared.rule.View.{View}

-- a seat that was joined by another
abbrev pub spent_view : View
spent_view = record {
  live = false;
  origin = record { size = 0; latest = 0; callers = 0; opening = record { tables = no_tables; limit = 0 } };
  own = record { number = 0; seen = [] };
  others = [];
  marks = [];
  looks = 0;
  settles = 0;
  stage = 0;
  gathered = 0;
  log = [];
  latest = 0;
  knows = false;
}
