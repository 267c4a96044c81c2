use Rattle.std.proofs.lemmas.List.Elements.{All-map}
use Rattle.shop_turn.specs.Desks.{IsOneShop}
use Rattle.shop_tasks.specs.StationValues.{desk_of}
use Rattle.shop_poll.proofs.run.close.Goals as goal

pub close-requires : goal.close-requires
close-requires g c = rw c.in_ok-desks.ensures (All-map (IsOneShop c.args.own) desk_of c.args.stations.items c.requires)
