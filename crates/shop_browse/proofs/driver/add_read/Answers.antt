use Rattle.shop_browse.proofs.DriverLemmas.{read_adds}
use Rattle.shop_browse.proofs.driver.add_read.Goals as goal

pub returns : goal.returns
returns g c = record {
  looks = c.read.ensures.looks;
  reads = read_adds (g.St.Store.seat c.args.store.now) (g.St.Store.seat c.read.new.store) c.args.key c.args.reads.now.items c.push.new.self.items c.in_ok-read.read
      c.read.ensures.looks.looked c.read.ensures.valid c.in_ok-read.ensures.read c.in_ok-push.ensures.items;
}
