use Rattle.shop_engine.specs.declared.worker.Worker.TheInside.{Inside}
use Rattle.shop_pages.specs.ReplyStates.{bytes_of}
use Rattle.shop_engine.specs.Workers.{WorkerState}

abbrev pub state_of : {St : Type 0} → Inside St → WorkerState St
state_of i = record {
  store = i.store;
  caller = i.calls.caller;
  progress = record { accepted = i.calls.made; last = i.last };
  kept = i.cache;
  reply = bytes_of i.reply;
}
