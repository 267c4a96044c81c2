use Rattle.std.proofs.Common.{rules, sym}
use Rattle.shop_pages.specs.Replies.{phrase_of}
use Rattle.shop_pages.proofs.Phrases.{short_phrase, no_phrase}
use Rattle.shop_pages.proofs.head.phrase_of.Goals as goal

pub returns-in-Some-clause-value : goal.returns-in-Some-clause-value
unfolding phrase_of
returns-in-Some-clause-value c = search rules

pub returns-in-Some-clause-most : goal.returns-in-Some-clause-most
returns-in-Some-clause-most c =
    rw c.as_bytes.ensures.value (short_phrase c.in-Ok.code c.in-Some.phrase.now c.in-Some.ensures.value)

pub returns-in-None-clause-value : goal.returns-in-None-clause-value
unfolding phrase_of
returns-in-None-clause-value c = search rules

pub returns-in-Err-clause-value : goal.returns-in-Err-clause-value
unfolding phrase_of
returns-in-Err-clause-value c = sym (no_phrase c.args.status c.in-Err.ensures)
