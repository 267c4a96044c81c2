use Rattle.std.proofs.Common.{◌≡◌, Some, sym, ap, ◌∙◌, subst, rules, bytes_eq}
use Rattle.std.specs.HashMap.{get}
use Rattle.std.specs.List.Sorted.{IsSorted}
use Rattle.shop_search.specs.Growing.{with_held}
use Rattle.shop_search.specs.Titles.{by_titled}
use Rattle.shop_search.proofs.Held.{held_here, room_here, put_files}
use Rattle.shop_search.proofs.filing.file.Goals as goal

pub put-requires-clause-sorted : goal.put-requires-clause-sorted
put-requires-clause-sorted c =
    let there : get bytes_eq c.args.lists.now c.args.filing.key ≡ Some c.in-Some.list.now = sym c.in-Some.ensures.value in
    subst (IsSorted by_titled) (held_here c.args.lists.now c.args.filing.key c.in-Some.list.now there) c.requires.sorted

pub put-requires-clause-room : goal.put-requires-clause-room
put-requires-clause-room c =
    let there : get bytes_eq c.args.lists.now c.args.filing.key ≡ Some c.in-Some.list.now = sym c.in-Some.ensures.value in
    room_here c.args.lists.now c.args.filing.key c.in-Some.list.now c.requires.room there

pub returns : goal.returns
returns c =
    let there : get bytes_eq c.args.lists.now c.args.filing.key ≡ Some c.in-Some.list.now = sym c.in-Some.ensures.value in
    put_files c.args.lists.now (c.get_mut.follows.lender c.put.new.list) c.args.filing.key c.args.filing.item c.put.new.list ((c.get_mut.follows.holds c.put.new.list).3 (search rules)).0
    (c.put.ensures ∙ ap (with_held c.args.filing.item) (sym (held_here c.args.lists.now c.args.filing.key c.in-Some.list.now there)))
