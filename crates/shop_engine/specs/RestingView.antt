use Rattle.std.specs.Prelude.{[]}
use Rattle.shop_engine.specs.declared.resting.Resting.TheInside.{Inside}
use Rattle.shop_engine.specs.Workers.{WorkerState}

-- what is kept of a worker; it has no reply
abbrev pub state_of : {St : Type 0} → Inside St → WorkerState St
state_of i = record {
  store = i.store;
  caller = i.calls.caller;
  progress = record { accepted = i.calls.made; last = i.last };
  kept = i.cache;
  reply = [];
}
