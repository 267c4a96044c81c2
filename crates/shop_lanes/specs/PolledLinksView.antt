-- A listener in memory, as its callers see it.
use Rattle.std.specs.Prelude.{map}
use Rattle.shop_lanes.specs.ListedLinks.{ListedLinks, returned_of}
use Rattle.shop_lanes.specs.Traces.{traced}
use Rattle.shop_lanes.specs.declared.polled_links.PolledLinks.TheInside.{Inside}

-- what is left, how it is given, and what was given and came back
abbrev pub links_of : {I O : Type 0} → Inside I O → ListedLinks I O
links_of s = record {
  left = s.left.items;
  waits = s.waits;
  fails = s.fails;
  room = s.room;
  calls = s.calls;
  put_off = s.put_off;
  faults = s.faults;
  accepted = s.accepted;
  told = record { given = traced s.given; back = map returned_of (traced s.returned) };
}
