-- What the driver has read, round by round, and the attempt that it makes of a decision.
use Rattle.std.proofs.Common.{◌≡◌, ◌≢◌, ℕ, suc, List, [], ◌∷◌, ◌++◌, ◌+◌, ◌≤◌, All, Some, None, refl, sym, ◌∙◌, ap, subst, arith}
use Rattle.std.proofs.lemmas.List.{append_assoc, append-nil, map-append}
use Rattle.std.proofs.lemmas.List.Elements.{All-nil, All-append, All-head, All-tail}
use Rattle.shop_model.specs.declared.page.Page.{Page}
use Rattle.shop_model.specs.declared.requests.IdsAsked.{IdsAsked}
use Rattle.shop_model.specs.declared.requests.Request.{Request}
use Rattle.shop_model.specs.declared.tables.Tables.{Tables}
use Rattle.shop_model.specs.lists.Catalogues.{Catalogue, opened}
use Rattle.shop_history.specs.declared.acts.Drawn.{Drawn}
use Rattle.shop_history.specs.declared.acts.Entry.{Entry}
use Rattle.shop_history.specs.declared.keys.Key.{Key}
use Rattle.shop_history.specs.Keys.{row_of}
use Rattle.shop_history.specs.Logs.{tables}
use Rattle.shop_history.proofs.cited.GoodTables.{sound_throughout}
use Rattle.shop_history.proofs.cited.KeptTables.{kept}
use Rattle.shop_cache.specs.declared.lines.ListLine.{ListLine}
use Rattle.shop_draft.specs.declared.draft.Draft.{Draft}
use Rattle.shop_draft.specs.declared.ids.PageIds.{PageIds}
use Rattle.shop_draft.specs.Drawing.{ids_at}
use Rattle.shop_draft.specs.Pages.{IsPage, Shows}
use Rattle.shop_attempt.specs.declared.attempts.ReadOf.{ReadOf}
use Rattle.shop_attempt.specs.Marks.{Looks}
use Rattle.shop_attempt.specs.Reads.{Agrees, AreTrue, IsReadOf, IsReadSince, AreReadSince}
use Rattle.shop_attempt.specs.Seats.{Seat, IsSeat, Looked, IsReadAt}
use Rattle.shop_attempt.proofs.cited.Marks.{looks_then}
use Rattle.shop_attempt.proofs.cited.Looks.{looked_self, since_now, all_since_later, all_since_earlier, are_true}
use Rattle.shop_browse.specs.declared.attempted.Ask.{Ask}
use Rattle.shop_browse.specs.declared.driver.Next.{Next}
use Rattle.shop_browse.specs.declared.driver.Next.TheVariants.{Show, ShowList, Change, Pay, Never}
use Rattle.shop_browse.specs.declared.attempted.Attempted.TheVariants as attempted
use Rattle.shop_history.specs.declared.acts.Act.{Act}
use Rattle.shop_attempt.specs.declared.attempts.Write.{Write}
use Rattle.shop_browse.specs.Attempts.{AreReadFor, IsAttempt, AttemptedAs, Suits, asking_of}
use Rattle.shop_browse.specs.Driver.{keys_of, Fits, AreSeen, WereRead, MayRead, AsksFor, Begins, IsNext, AddsReads, attempt_with}
use Rattle.shop_browse.specs.Footprints.{InFootprint}
use Rattle.shop_browse.proofs.Items.{seat_sound}

-- one read

read_since : (start now : Seat) (key : Key) (read : ReadOf) → Looked start now → IsReadOf now key read → IsReadSince start now read
read_since start now key read looked is =
    since_now start now read.key read.row read.version looked (subst (λ (k : Key). IsReadAt now k (read.row, read.version)) (sym is.key_is) is.is)

read_fits : (now : Seat) (key : Key) (read : ReadOf) → IsSeat now → IsReadOf now key read → Fits (opened now.opening) (tables now.opening now.seen) (read ∷ [])
read_fits now key read valid is = record {
  sound = seat_sound now valid;
  named = (kept now.opening now.seen valid.good.sound.born_items).catalogue;
  shows = (ap (row_of (tables now.opening now.seen)) is.key_is ∙ sym is.is.row, tt);
}

seen_append : (c : Catalogue) (one other : List ReadOf) → AreSeen c one → AreSeen c other → AreSeen c (one ++ other)
seen_append c [] other are more = more
seen_append c (read ∷ one) other are more = (are.0, seen_append c one other are.1 more)

since_append : (start now : Seat) (one other : List ReadOf) → AreReadSince start now one → AreReadSince start now other → AreReadSince start now (one ++ other)
since_append start now [] other are more = more
since_append start now (read ∷ one) other are more = (are.0, since_append start now one other are.1 more)

-- a row more was read
pub read_adds : (start now : Seat) (key : Key) (old new : List ReadOf) (read : ReadOf) → Looked start now → IsSeat now → IsReadOf now key read → new ≡ old ++ read ∷ []
    → AddsReads start now (key ∷ []) old new
read_adds start now key old new read looked valid of pushed = record {
  more = read ∷ [];
  added = pushed;
  keys_are = ap (λ (k : Key). k ∷ []) of.key_is;
  since = (read_since start now key read looked of, tt);
  seen = ((tables now.opening now.seen, read_fits now key read valid of), tt);
  valid = λ some. valid;
}

-- some of these rows were read, and these keys are left
pub record ReadsSome (start now : Seat) (keys left : List Key) (old new : List ReadOf) : Type 0 where
  pub more : List ReadOf
  pub added : new ≡ old ++ more
  pub keys_are : keys ≡ keys_of more ++ left
  pub since : AreReadSince start now more
  pub seen : AreSeen (opened now.opening) more
  pub valid : more ≢ [] → IsSeat now

pub none_read : (seat : Seat) (keys left : List Key) (reads : List ReadOf) → keys ≡ left → ReadsSome seat seat keys left reads reads
none_read seat keys left reads is = record { more = []; added = sym (append-nil reads); keys_are = is; since = tt; seen = tt; valid = λ some. absurd (some refl) }

pub one_more : (start middle now : Seat) (keys before left : List Key) (key : Key) (old reads new : List ReadOf) → ReadsSome start middle keys before old reads
    → before ≡ key ∷ left → Looked start middle → Looked middle now → AddsReads middle now (key ∷ []) reads new → ReadsSome start now keys left old new
one_more start middle now keys before left key old reads new some is first second adds = record {
  more = some.more ++ adds.more;
  added = adds.added ∙ ap (λ (l : List ReadOf). l ++ adds.more) some.added ∙ append_assoc old some.more adds.more;
  keys_are =
      some.keys_are
      ∙ ap (λ (l : List Key). keys_of some.more ++ l) (is ∙ ap (λ (l : List Key). l ++ left) (sym adds.keys_are))
      ∙ sym (append_assoc (keys_of some.more) (keys_of adds.more) left)
      ∙ ap (λ (l : List Key). l ++ left) (sym (map-append (λ (r : ReadOf). r.key) some.more adds.more));
  since = since_append start now some.more adds.more (all_since_later start middle now some.more second some.since) (all_since_earlier start middle now adds.more first second adds.since);
  seen = seen_append (opened now.opening) some.more adds.more
      (subst (λ (t : Tables). AreSeen (opened t) some.more) (sym second.follows.opening) some.seen) adds.seen;
  valid = λ both. adds.valid (λ none. absurd (cc (adds.keys_are)));
}

pub all_read : (start now : Seat) (keys left : List Key) (old new : List ReadOf) → ReadsSome start now keys left old new → left ≡ [] → AddsReads start now keys old new
all_read start now keys left old new some none = record {
  more = some.more;
  added = some.added;
  keys_are = sym (some.keys_are ∙ ap (λ (l : List Key). keys_of some.more ++ l) none ∙ append-nil (keys_of some.more));
  since = some.since;
  seen = some.seen;
  valid = some.valid;
}

-- two rows more were read
pub adds_two : (start middle now : Seat) (one other : Key) (old reads new : List ReadOf) → Looked start middle → Looked middle now → AddsReads start middle (one ∷ []) old reads → AddsReads middle now (other ∷ []) reads new
    → AddsReads start now (one ∷ other ∷ []) old new
adds_two start middle now one other old reads new first second before after =
    let keys : List Key = one ∷ other ∷ [] in
    let half = one_more start start middle keys keys (other ∷ []) one old old reads (none_read start keys keys old refl) refl (looked_self start) first before in
    all_read start now keys [] old new (one_more start middle now keys (other ∷ []) [] other old reads new half refl first second after) refl

-- a draft with the ids that a request hands on
pub with_ids : (draft : Draft) (page : IdsAsked → Page) (given : PageIds) (ids : IdsAsked) → ((drawn : Drawn) → ids_at drawn given ≡ ids)
    → Shows draft (λ drawn. page (ids_at drawn given)) → Shows draft (λ drawn. page ids)
with_ids draft page given ids same shows drawn = subst (λ i. IsPage draft drawn (page i)) (same drawn) (shows drawn)

-- the rounds

-- what holds of what a request has read since its call began
pub record HasRead (start now : Seat) (request : Request) (ask : Ask) (reads : List ReadOf) : Type 0 where
  pub same : ask.index.now ≡ opened now.opening
  pub since : AreReadSince start now reads
  pub seen : AreSeen ask.index.now reads
  pub may : MayRead request ask reads (keys_of reads)
  pub valid : reads ≢ [] → IsSeat now

pub has_none : (start : Seat) (request : Request) (ask : Ask) (reads : List ReadOf) → Suits ask start → reads ≡ [] → HasRead start start request ask reads
has_none start request ask [] suits none = record {
  same = suits;
  since = tt;
  seen = tt;
  may = λ opening log were. All-nil (InFootprint opening log request ask.draw);
  valid = λ some. absurd (some refl);
}
has_none start request ask (read ∷ reads) suits none = absurd cc

true_front : (opening : Tables) (log : List Entry) (one other : List ReadOf) → AreTrue opening log (one ++ other) → AreTrue opening log one
true_front opening log [] other are = tt
true_front opening log (read ∷ one) other are = (are.0, true_front opening log one other are.1)

more_may : (follows : ℕ → List ReadOf → Type 0) (request : Request) (ask : Ask) (round : ℕ) (reads more : List ReadOf) (keys : List Key)
    → MayRead request ask reads (keys_of reads) → AsksFor follows request ask round reads keys → keys_of more ≡ keys → MayRead request ask (reads ++ more) (keys_of (reads ++ more))
more_may follows request ask round reads more keys may asks are opening log were =
    let P : Key → Type 0 = InFootprint opening log request ask.draw in
    let before : WereRead ask.index.now opening log reads = record { named = were.named; sound = were.sound; are = true_front opening log reads more were.are } in
    subst (All P) (sym (map-append (λ (r : ReadOf). r.key) reads more))
    (All-append P (keys_of reads) (keys_of more) (may opening log before) (subst (All P) (sym are) (asks.may opening log before)))

pub has_more : (start middle now : Seat) (follows : ℕ → List ReadOf → Type 0) (request : Request) (ask : Ask) (round : ℕ) (reads new : List ReadOf) (keys : List Key) → Looked start middle → Looked middle now
    → HasRead start middle request ask reads → AsksFor follows request ask round reads keys → AddsReads middle now keys reads new → HasRead start now request ask new × follows (suc round) new
has_more start middle now follows request ask round reads new keys first second has asks adds =
    let same : ask.index.now ≡ opened now.opening = has.same ∙ ap opened (sym second.follows.opening) in
    subst (λ l. HasRead start now request ask l × follows (suc round) l) (sym adds.added) (
      record {
        same = same;
        since = since_append start now reads adds.more (all_since_later start middle now reads second has.since) (all_since_earlier start middle now adds.more first second adds.since);
        seen = seen_append ask.index.now reads adds.more has.seen (subst (λ c. AreSeen c adds.more) (sym same) adds.seen);
        may = more_may follows request ask round reads adds.more keys has.may asks adds.keys_are;
        valid = λ some. either adds.more (λ before. second.follows.valid (has.valid before)) adds.valid some;
      },
      asks.goes_on adds.more adds.keys_are,
    )
  where
    either : (more : List ReadOf) → (reads ≢ [] → IsSeat now) → (more ≢ [] → IsSeat now) → reads ++ more ≢ [] → IsSeat now
    either [] before behind some = before (λ none. some (append-nil reads ∙ none))
    either (read ∷ more) before behind some = behind (λ none. absurd cc)

-- before the first round
pub has_first : (start now : Seat) (first : List Key) (follows : ℕ → List ReadOf → Type 0) (request : Request) (ask : Ask) (new : List ReadOf) → Suits ask start → Looked start now
    → Begins first follows request ask → AddsReads start now first [] new → HasRead start now request ask new × follows 0 new
has_first start now first follows request ask new suits looked begins adds =
    has_more start start now (λ round. follows 0) request ask 0 [] new first (looked_self start) looked (has_none start request ask [] suits refl)
    (record { few = omega arith; goes_on = begins.goes_on; may = λ opening log were. begins.may opening log }) adds

-- none is read there
pub begins_with_none : (follows : ℕ → List ReadOf → Type 0) (request : Request) (ask : Ask) → follows 0 [] → Begins [] follows request ask
begins_with_none follows request ask begins = record { may = λ opening log. All-nil (InFootprint opening log request ask.draw); goes_on = none }
  where
    none : (reads : List ReadOf) → keys_of reads ≡ [] → follows 0 reads
    none [] of = begins
    none (read ∷ reads) of = absurd cc

-- what has been read in so many rounds
pub record HasGone {Store : Type 0} (seat : Store → Seat) (marked : Store → ℕ → ℕ → Type 0) (first now : Store) (follows : ℕ → List ReadOf → Type 0) (request : Request) (ask : Ask) (round : ℕ) (reads : List ReadOf) : Type 0 where
  pub looks : Looks seat marked first now
  pub has : HasRead (seat first) (seat now) request ask reads
  pub few : round ≤ 6
  pub asked_for : follows round reads

-- one round more
pub one_round : {Store : Type 0} (seat : Store → Seat) (marked : Store → ℕ → ℕ → Type 0) (first old now : Store) (before follows : ℕ → List ReadOf → Type 0) (request : Request) (ask : Ask) (round : ℕ) (reads new : List ReadOf) (keys : List Key)
    → HasGone seat marked first old before request ask round reads → AsksFor follows request ask round reads keys → Looks seat marked old now → AddsReads (seat old) (seat now) keys reads new
    → HasGone seat marked first now follows request ask (round + 1) new
one_round seat marked first old now before follows request ask round reads new keys gone asks looks adds =
    let more = has_more _ _ _ follows request ask round reads new keys gone.looks.looked looks.looked gone.has asks adds in
    let few = asks.few in
    let next : suc round ≡ round + 1 = omega arith in
    record {
      looks = looks_then gone.looks looks;
      has = more.0;
      few = omega (arith, few);
      asked_for = subst (λ n. follows n new) next more.1;
    }

-- what is next is this, of the same request
pub next_is : (follows : ℕ → List ReadOf → Type 0) (own request : Request) (ask : Ask) (round : ℕ) (reads seen : List ReadOf) (draft : Draft) (next one : Next) → own ≡ request → seen ≡ reads → next ≡ one
    → IsNext follows own ask round seen draft next → IsNext follows request ask round reads draft one
next_is follows own request ask round reads seen draft next one same are is right =
    subst (λ r. IsNext follows r ask round reads draft one) same
    (subst (λ (l : List ReadOf). IsNext follows own ask round l draft one) are (subst (IsNext follows own ask round seen draft) is right))

-- the decision

-- all that was read may be read after the log seen
reads_for : (start now : Seat) (request : Request) (ask : Ask) (reads : List ReadOf) → HasRead start now request ask reads → AreReadFor start now (asking_of ask request) reads
reads_for start now request ask [] has = tt
reads_for start now request ask (read ∷ reads) has =
    let valid : IsSeat now = has.valid (λ none. absurd cc) in
    each (read ∷ reads) has.since (has.may now.opening now.seen (record {
      named = has.same;
      sound = sound_throughout now.opening (now.limit + 1) valid.good now.seen valid.legal (omega (arith, valid.short));
      are = are_true start now (read ∷ reads) has.since;
    }))
  where
    each : (rs : List ReadOf) → AreReadSince start now rs → All (InFootprint now.opening now.seen request ask.draw) (keys_of rs) → AreReadFor start now (asking_of ask request) rs
    each [] since about = tt
    each (r ∷ rs) since about =
        let P : Key → Type 0 = InFootprint now.opening now.seen request ask.draw in
        (record { since = since.0; footprint = All-head P r.key (keys_of rs) about }, each rs since.1 (All-tail P r.key (keys_of rs) about))

-- tables that agree with what was read fit it
fits : (c : Catalogue) (opening t : Tables) (reads : List ReadOf) → c ≡ opened opening → Agrees opening t reads → Fits c t reads
fits c opening t reads is agrees = record { sound = agrees.sound; named = agrees.catalogue ∙ sym is; shows = agrees.shows }

looks_only : (start now : Seat) (request : Request) (ask : Ask) (reads : List ReadOf) → HasRead start now request ask reads → IsAttempt start now (asking_of ask request) (attempt_with ask reads None None)
looks_only start now request ask reads has = record {
  at = refl;
  drew = refl;
  reads = reads_for start now request ask reads has;
  faithful = record { reads_are = are_true start now reads has.since; makes = tt };
}

pub showed : (start now : Seat) (follows : ℕ → List ReadOf → Type 0) (request : Request) (ask : Ask) (round : ℕ) (reads : List ReadOf) (draft : Draft) → HasRead start now request ask reads
    → IsNext follows request ask round reads draft Show → AttemptedAs start now (asking_of ask request) draft (attempted.Ready (attempt_with ask reads None None))
showed start now follows request ask round reads draft has is = record {
  ready = record {
    attempts = looks_only start now request ask reads has;
    drafts = λ t agrees. is.1 t (fits ask.index.now now.opening t reads has.same agrees);
  };
  free = tt;
  unlisted = λ none. is.0;
}

pub listed : (start now : Seat) (follows : ℕ → List ReadOf → Type 0) (request : Request) (ask : Ask) (round : ℕ) (reads : List ReadOf) (draft : Draft) (lines : List ListLine) → HasRead start now request ask reads
    → IsNext follows request ask round reads draft (ShowList lines) → AttemptedAs start now (asking_of ask request) draft (attempted.Listed (attempt_with ask reads None None) lines)
listed start now follows request ask round reads draft lines has is = record {
  ready = record {
    attempts = looks_only start now request ask reads has;
    drafts = λ t agrees. is.1 t (fits ask.index.now now.opening t reads has.same agrees);
  };
  reading = refl;
  listed = λ t agrees. is.0 t (fits ask.index.now now.opening t reads has.same agrees);
}

pub changed : (start now : Seat) (follows : ℕ → List ReadOf → Type 0) (request : Request) (ask : Ask) (round : ℕ) (reads : List ReadOf) (draft : Draft) (act : Act) (writes : List Write)
    → HasRead start now request ask reads → IsNext follows request ask round reads draft (Change act writes)
    → AttemptedAs start now (asking_of ask request) draft (attempted.Ready (attempt_with ask reads (Some writes) (Some act)))
changed start now follows request ask round reads draft act writes has is = record {
  ready = record {
    attempts = record {
      at = refl;
      drew = refl;
      reads = reads_for start now request ask reads has;
      faithful = record {
        reads_are = are_true start now reads has.since;
        makes = λ t stamp agrees bound. is.makes t stamp (fits ask.index.now now.opening t reads has.same agrees) bound;
      };
    };
    drafts = (is.does, λ t stamp agrees bound. is.becomes t stamp (fits ask.index.now now.opening t reads has.same agrees) bound);
  };
  free = is.free;
  unlisted = λ none. absurd cc;
}

pub payable : (start now : Seat) (follows : ℕ → List ReadOf → Type 0) (request : Request) (ask : Ask) (round : ℕ) (reads : List ReadOf) (draft : Draft) → HasRead start now request ask reads
    → IsNext follows request ask round reads draft Pay → AttemptedAs start now (asking_of ask request) draft (attempted.Pay (attempt_with ask reads None None))
payable start now follows request ask round reads draft has is = record {
  attempts = looks_only start now request ask reads has;
  reading = refl;
  basket = record { basket = is; seen = subst (λ c. AreSeen c reads) has.same has.seen };
}

pub never_shown : (start now : Seat) (follows : ℕ → List ReadOf → Type 0) (request : Request) (ask : Ask) (round : ℕ) (reads : List ReadOf) (draft : Draft) → HasRead start now request ask reads
    → IsNext follows request ask round reads draft Never → AttemptedAs start now (asking_of ask request) draft (attempted.Contradiction (attempt_with ask reads None None))
never_shown start now follows request ask round reads draft has is = record {
  attempts = looks_only start now request ask reads has;
  reading = refl;
  never = λ t agrees. is t (fits ask.index.now now.opening t reads has.same agrees);
}
