-- What settles leave of a caller's entries, its counts and its latest stamp, one after another.
use Rattle.std.proofs.Common.{◌≡◌, ℕ, ◌+◌, ◌≤◌, min, max, List, [], ◌∷◌, ◌++◌, Some, None, IsSome, refl, sym, ◌∙◌, ap, subst, arith, append_assoc, append-nil, eqb}
use Rattle.std.specs.declared.option.Option.{Option}
use Rattle.std.proofs.lemmas.Bool.{eq-eqb, cond-true}
use Rattle.std.proofs.lemmas.List.Elements.{filter-append}
use Rattle.shop_history.specs.declared.acts.Drawn.{Drawn}
use Rattle.shop_history.specs.declared.acts.Entry.{Entry}
use Rattle.shop_history.specs.Logs.{entries_of}
use Rattle.shop_attempt.specs.declared.attempts.Attempt.{Attempt}
use Rattle.shop_attempt.specs.Seats.{Seat, Looked, last_count, Follows, RoseOnce}
use Rattle.shop_attempt.specs.Settles.{raised, Found, Refused, Confirmed}
use Rattle.shop_attempt.proofs.cited.Looks.{follows_trans, looked_self}
use Rattle.shop_engine.specs.Seats.{Stays}
use Rattle.shop_engine.specs.Tries.{StaysWithin}

-- latest stamps

-- a latest stamp that was told is told, and rose to no more than this moment
abbrev pub StampRose : Option ℕ → Option ℕ → ℕ → Type 0
StampRose old new moment = (told : ℕ) → old ≡ Some told → (now : ℕ) × (new ≡ Some now) × (told ≤ now) × (now ≤ max told moment)

pub stamp_kept : (old new : Option ℕ) (moment : ℕ) → new ≡ old → StampRose old new moment
stamp_kept old new moment kept told same = (told, kept ∙ same, omega arith, omega arith)

pub stamp_raised : (old new : Option ℕ) (moment : ℕ) → new ≡ raised old moment → StampRose old new moment
stamp_raised old new moment rose told same = (max told moment, rose ∙ ap (λ o. raised o moment) same, omega arith, omega arith)

stamp_later : (old new : Option ℕ) (moment later : ℕ) → moment ≤ later → StampRose old new moment → StampRose old new later
stamp_later old new moment later more rose told same =
    let now = rose told same in (now.0, now.1, now.2, omega (arith, now.3, more))

stamp_trans : (a b c : Option ℕ) (moment : ℕ) → StampRose a b moment → StampRose b c moment → StampRose a c moment
stamp_trans a b c moment first second told same =
    let mid = first told same in
    let now = second mid.0 mid.1 in
    (now.0, now.1, omega (arith, mid.2, now.2), omega (arith, mid.3, now.3))

pub still_told : (old new : Option ℕ) (moment : ℕ) → StampRose old new moment → IsSome old → IsSome new
still_told None new moment rose told = absurd cc
still_told (Some stamp) new moment rose told = subst IsSome (sym (rose stamp refl).1) refl

-- the stamp of a change, by the latest one some settles before, at moments up to its own
pub stamp_from : (first later : Option ℕ) (moment stamp : ℕ) → StampRose first later moment → ((told : ℕ) → later ≡ Some told → stamp ≡ max told moment)
    → (told : ℕ) → first ≡ Some told → stamp ≡ max told moment
stamp_from first later moment stamp rose exact told same =
    let now = rose told same in omega (arith, exact now.0 now.1, now.2, now.3)

-- reads alone
pub stays_looked : (old new : Seat) (moment : ℕ) → Looked old new → Stays old new [] 0 moment
stays_looked old new moment looked = record {
  follows = looked.follows;
  mine = looked.mine ∙ sym (append-nil (entries_of old.caller old.seen));
  own = looked.own ∙ sym (append-nil old.own);
  rose = omega (arith, looked.settles);
  kept = omega (arith, looked.settles);
  most = omega (arith, looked.settles);
  greatest = omega (arith, looked.greatest);
  stamp = stamp_kept old.latest new.latest moment looked.latest;
  alone = λ told. looked.alone told ∙ sym (append-nil old.seen);
}

-- no settle at all
pub stays_same : (seat : Seat) (moment : ℕ) → Stays seat seat [] 0 moment
stays_same seat moment = stays_looked seat seat moment (looked_self seat)

-- at moments up to a later one
pub stays_later : (old new : Seat) (entries : List Entry) (settles moment later : ℕ) → Stays old new entries settles moment → moment ≤ later → Stays old new entries settles later
stays_later old new entries settles moment later stays more = record {
  follows = stays.follows;
  mine = stays.mine;
  own = stays.own;
  rose = stays.rose;
  kept = stays.kept;
  most = stays.most;
  greatest = omega (arith, stays.greatest, more);
  stamp = stamp_later old.latest new.latest moment later more stays.stamp;
  alone = stays.alone;
}

-- settles add up

rose_trans : (one more before middle now last : ℕ) → min (before + one) last ≤ middle → min (middle + more) last ≤ now → middle ≤ now → min (before + (one + more)) last ≤ now
rose_trans one more before middle now last first second kept = omega arith

-- what was added in turn
added : (a b c one more : List Entry) → b ≡ a ++ one → c ≡ b ++ more → c ≡ a ++ (one ++ more)
added a b c one more first second = second ∙ ap (λ (l : List Entry). l ++ more) first ∙ append_assoc a one more

pub stays_trans : (a b c : Seat) (entries others : List Entry) (one more moment : ℕ) → Stays a b entries one moment → Stays b c others more moment → Stays a c (entries ++ others) (one + more) moment
stays_trans a b c entries others one more moment p q = record {
  follows = follows_trans a b c p.follows q.follows;
  mine = added (entries_of a.caller a.seen) (entries_of b.caller b.seen) (entries_of c.caller c.seen) entries others p.mine q.mine;
  own = added a.own b.own c.own entries others p.own q.own;
  rose = rose_trans one more a.settles b.settles c.settles last_count p.rose q.rose q.kept;
  kept = omega (arith, p.kept, q.kept);
  most = omega (arith, p.most, q.most);
  greatest = omega (arith, p.greatest, q.greatest);
  stamp = stamp_trans a.latest b.latest c.latest moment p.stamp q.stamp;
  alone = λ told. added a.seen b.seen c.seen entries others (p.alone told) (q.alone (still_told a.latest b.latest moment p.stamp told));
}

-- some settles, and no more than so many after them
pub within_trans : (a b c : Seat) (entries others : List Entry) (one more most moment : ℕ) → Stays a b entries one moment → StaysWithin b c others more moment → one + more ≤ most → StaysWithin a c (entries ++ others) most moment
within_trans a b c entries others one more most moment p q few = record {
  made = one + q.made;
  few = omega (arith, q.few, few);
  stays = stays_trans a b c entries others one q.made moment p q.stays;
}

pub within_of : (old new : Seat) (entries : List Entry) (settles most moment : ℕ) → Stays old new entries settles moment → settles ≤ most → StaysWithin old new entries most moment
within_of old new entries settles most moment stays few = record { made = settles; few = few; stays = stays }

-- an attempt and its settle, behind whose log found these entries of the caller stand

entries_none : (caller : ℕ) → entries_of caller [] ≡ []
entries_none caller = refl

pub entries_one : (caller : ℕ) (entry : Entry) → entry.caller ≡ caller → entries_of caller (entry ∷ []) ≡ entry ∷ []
entries_one caller entry same = cond-true (eqb entry.caller caller) (entry ∷ []) [] (eq-eqb entry.caller caller same)

pub stays_found : (start old new : Seat) (found entries : List Entry) (moment : ℕ) → Looked start old → Follows old new → RoseOnce old.settles new.settles → Found old found
    → new.seen ≡ found ++ entries → entries_of old.caller entries ≡ entries → new.own ≡ old.own ++ entries → new.greatest ≤ max old.greatest moment → StampRose old.latest new.latest moment
    → Stays start new entries 1 moment
stays_found start old new found entries moment looked follows rose is_found seen own_are own greatest stamp = record {
  follows = follows_trans start old new looked.follows follows;
  mine =
      ap (λ c. entries_of c new.seen) follows.caller
      ∙ ap (entries_of old.caller) seen
      ∙ filter-append (λ (e : Entry). eqb e.caller old.caller) found entries
      ∙ ap (λ (l : List Entry). l ++ entries_of old.caller entries) (is_found.mine ∙ looked.mine)
      ∙ ap (λ (l : List Entry). entries_of start.caller start.seen ++ l) own_are;
  own = own ∙ ap (λ (l : List Entry). l ++ entries) looked.own;
  rose = omega (arith, rose.rose, looked.settles);
  kept = omega (arith, rose.kept, looked.settles);
  most = omega (arith, rose.once, looked.settles);
  greatest = omega (arith, greatest, looked.greatest);
  stamp = subst (λ o. StampRose o new.latest moment) looked.latest stamp;
  alone = λ told.
      seen ∙ ap (λ (l : List Entry). l ++ entries) (is_found.alone (subst IsSome (sym looked.latest) told) ∙ looked.alone told);
}

-- a refusal
pub stays_refused : (start old new : Seat) (moment : ℕ) → Looked start old → Follows old new → RoseOnce old.settles new.settles → Refused old new → Stays start new [] 1 moment
stays_refused start old new moment looked follows rose refused =
    stays_found start old new new.seen [] moment looked follows rose refused.found (sym (append-nil new.seen)) (entries_none old.caller) (refused.own ∙ sym (append-nil old.own))
    (omega (arith, refused.greatest)) (stamp_kept old.latest new.latest moment refused.latest)

-- a settle that changes nothing
pub stays_confirmed : (start old new : Seat) (moment : ℕ) (attempt : Attempt) (drawn : Drawn) → Looked start old → Follows old new → RoseOnce old.settles new.settles → attempt.moment ≡ moment
    → Confirmed old new attempt drawn → Stays start new [] 1 moment
stays_confirmed start old new moment attempt drawn looked follows rose at was =
    stays_found start old new new.seen [] moment looked follows rose was.accepted.is_found (sym (append-nil new.seen)) (entries_none old.caller) (was.own ∙ sym (append-nil old.own))
    (omega (arith, was.accepted.greatest, at))
    (stamp_raised old.latest new.latest moment (was.accepted.latest ∙ ap (raised old.latest) at))
