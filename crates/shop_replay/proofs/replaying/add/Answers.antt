use Rattle.std.proofs.Common.{◌≡◌, false, true, rules, sym, ◌∙◌, subst}
use Rattle.shop_replay.specs.Replays.{IsInTime}
use Rattle.shop_replay.proofs.Adding.{last_in_time, stopped}
use Rattle.shop_replay.proofs.replaying.add.Goals as goal

pub returns-then-not-is_in_time-clause-adds : goal.returns-then-not-is_in_time-clause-adds
returns-then-not-is_in_time-clause-adds c is =
    let old = c.args.solo.now.book in
    let entry = c.args.entry.now in
    let time : IsInTime c.args.latest entry = subst (λ l. IsInTime l entry) (sym c.requires.latest) (last_in_time old entry c.requires.book is) in
    let yes : c.is_in_time.result ≡ true = c.is_in_time.ensures.1 time in
    let no : c.is_in_time.result ≡ false = search rules in
    absurd (cc (sym no ∙ yes))

pub returns-in-Err-clause-adds : goal.returns-in-Err-clause-adds
returns-in-Err-clause-adds c =
    stopped c.args.solo.now c.turn.new.self c.try_entry.new.store _ c.turn.ensures.is c.in-Err.ensures.looks.looked c.args.entry.now c.try_entry.new.store.book c.in-Err.stop c.in-Err.ensures.tries
