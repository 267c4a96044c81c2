-- What a rival's settle leaves to the caller at whose seat it was made.
use Rattle.std.proofs.Common.{◌≡◌, max, List, [], ◌∷◌, ◌++◌, Option, Some, None, refl, sym, ◌∙◌, ap, subst, arith}
use Rattle.shop_log.specs.Histories.{Extends}
use Rattle.shop_log.proofs.cited.Extends.{extends_trans}
use Rattle.shop_model.specs.declared.tables.Tables.{Tables}
use Rattle.shop_history.specs.declared.acts.Act.{Act}
use Rattle.shop_history.specs.declared.acts.Drawn.{Drawn}
use Rattle.shop_history.specs.declared.acts.Entry.{Entry}
use Rattle.shop_history.specs.Logs.{entries_of}
use Rattle.shop_attempt.specs.declared.attempts.Attempt.{Attempt}
use Rattle.shop_attempt.specs.declared.attempts.Settle.{Settle}
use Rattle.shop_attempt.specs.declared.attempts.Settle.TheVariants.{Done, Stale, Full, Memory}
use Rattle.shop_attempt.specs.Faithful.{Faithful}
use Rattle.shop_attempt.specs.Marks.{StillMarked, KeepsMarks}
use Rattle.shop_attempt.specs.Seats.{Seat, IsSeat, Follows, Looked}
use Rattle.shop_attempt.specs.Settles.{Found, Refused, Accepted, DoneAs, SettledAs, NotTaken}
use Rattle.shop_attempt.proofs.cited.Settles.{true_longer_all}
use Rattle.shop_book.specs.Books.{BookValue}
use Rattle.shop_book.specs.Solos.{SoloValue, seat_of, marks_of, IsKeptMark}
use Rattle.shop_book.proofs.cited.Marks.{marks_are}
use Rattle.rival_tests.specs.Rivals.{among}

-- what was faithful still is, where the log has only grown
pub faithful_grown : (t u : Tables) (log longer : List Entry) (attempt : Attempt) → u ≡ t → Extends log longer → Faithful t log attempt → Faithful u longer attempt
faithful_grown t u log longer attempt same grows faithful =
    subst (λ (t : Tables). Faithful t longer attempt) (sym same)
    (record { reads_are = true_longer_all t log longer attempt.reads grows faithful.reads_are; makes = faithful.makes })

-- so where calls settled nothing since
pub faithful_later : (old new : Seat) (attempt : Attempt) → Follows old new → Faithful old.opening old.seen attempt → Faithful new.opening new.seen attempt
faithful_later old new attempt follows = faithful_grown old.opening new.opening old.seen new.seen attempt follows.opening follows.grows

-- a seat is one wherever its latest stamp is told
valid_alone : (seat : Seat) → IsSeat (among seat) → IsSeat seat
valid_alone seat is = record { good = is.good; legal = is.legal; short = is.short }

valid_among : (seat : Seat) → IsSeat seat → IsSeat (among seat)
valid_among seat is = record { good = is.good; legal = is.legal; short = is.short }

-- a settle of a caller whose seat others used before it
module _ (old mid new : Seat) (attempt : Attempt) (looked : Looked (among old) (among mid)) where
  pub follows_then : Follows mid new → Follows (among old) (among new)
  follows_then follows = record {
    shop = follows.shop ∙ looked.follows.shop;
    opening = follows.opening ∙ looked.follows.opening;
    limit = follows.limit ∙ looked.follows.limit;
    caller = follows.caller ∙ looked.follows.caller;
    grows = extends_trans old.seen mid.seen new.seen looked.follows.grows follows.grows;
    calls = omega (arith, looked.follows.calls, follows.calls);
    valid = λ is. valid_among new (follows.valid (valid_alone mid (looked.follows.valid is)));
  }

  found_then : (found : List Entry) → Found mid found → Found (among old) found
  found_then found is = record {
    grows = extends_trans old.seen mid.seen found looked.follows.grows is.grows;
    mine = ap (λ caller. entries_of caller found) (sym looked.follows.caller) ∙ is.mine ∙ looked.mine;
    alone = λ some. absurd cc;
  }

  refused_then : Refused mid new → Refused (among old) (among new)
  refused_then is = record { found = found_then new.seen is.found; own = is.own ∙ looked.own; greatest = is.greatest ∙ looked.greatest; latest = refl }

  accepted_then : (found : List Entry) (drawn : Drawn) → Accepted mid new found attempt drawn → Accepted (among old) (among new) found attempt drawn
  accepted_then found drawn is = record {
    is_found = found_then found is.is_found;
    fresh = is.fresh;
    front = is.front;
    moment = is.moment;
    told = λ some. absurd cc;
    latest = refl;
    greatest = is.greatest ∙ ap (λ moment. max moment attempt.moment) looked.greatest;
  }

  done_then : (act : Option Act) (drawn : Drawn) → DoneAs mid new attempt act drawn → DoneAs (among old) (among new) attempt act drawn
  done_then None drawn is = record { accepted = accepted_then new.seen drawn is.accepted; own = is.own ∙ looked.own; ids = is.ids }
  done_then (Some act) drawn is = record {
    before = is.before;
    entry = is.entry;
    accepted = accepted_then is.before drawn is.accepted;
    seen = is.seen;
    own = is.own ∙ ap (λ (entries : List Entry). entries ++ is.entry ∷ []) looked.own;
    room = is.room;
    caller = is.caller;
    does = is.does;
    stamp = is.stamp;
    ids = is.ids;
  }

  not_taken_then : NotTaken mid new attempt → NotTaken (among old) (among new) attempt
  not_taken_then is = record { refused = refused_then is.refused; fresh = is.fresh; changes = is.changes }

  pub settled_then : (answer : Settle) → SettledAs mid new attempt answer → SettledAs (among old) (among new) attempt answer
  settled_then (Done drawn) is = done_then attempt.act drawn is
  settled_then (Stale conflict) is = (refused_then is.0, is.1)
  settled_then (Full size) is = (not_taken_then is.0, is.1, is.2)
  settled_then Memory is = (not_taken_then is.0, is.1)

-- marks are kept by those who have a book in turn

pub still_then : (a b c : SoloValue) → StillMarked (marks_of a) (marks_of b) → StillMarked (marks_of b) (marks_of c) → StillMarked (marks_of a) (marks_of c)
still_then a b c first second = record { kept = λ front moment mark. second.kept front moment (first.kept front moment mark) }

pub keeps_between : (a b c d : SoloValue) → b.book ≡ a.book → d.book ≡ c.book → StillMarked (marks_of b) (marks_of c) → KeepsMarks (marks_of a) (marks_of d) (among (seat_of a)) (among (seat_of d))
keeps_between a b c d first last still = record {
  still = record {
    kept = λ front moment mark.
        subst (λ (book : BookValue). IsKeptMark book front moment) (sym last)
        (still.kept front moment (subst (λ (book : BookValue). IsKeptMark book front moment) (sym first) mark));
  };
  are = λ _. marks_are d;
}
