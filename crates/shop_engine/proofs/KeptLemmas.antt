-- Lists that a worker keeps: they stay so, one is shown again, and one that was read is kept.
use Rattle.std.proofs.Common.{◌≡◌, ℕ, ◌+◌, ◌≤◌, List, [], ◌∷◌, ◌++◌, length, length-append, take, false, All, Option, Some, None, IsSome, is_some, refl, sym, ◌∙◌, ap, subst, arith}
use Rattle.std.proofs.lemmas.List.{take_all, take-append-le}
use Rattle.std.proofs.lemmas.List.Elements.{All-contains, All-push, All-weaker}
use Rattle.shop_model.specs.declared.page.Page.{Page}
use Rattle.shop_model.specs.declared.requests.Request.{Request}
use Rattle.shop_model.specs.declared.requests.Request.TheVariants.{NewProducts, BestSellers, SearchResults}
use Rattle.shop_model.specs.declared.requests.BestSellers.{BestSellers as BestAsked}
use Rattle.shop_model.specs.declared.requests.NewProducts.{NewProducts as NewAsked}
use Rattle.shop_model.specs.asked.SearchAsked.{SearchAsked}
use Rattle.shop_model.specs.declared.tables.Tables.{Tables}
use Rattle.shop_model.specs.pages.Show.{show}
use Rattle.shop_edges.specs.declared.charge.Call.{Call}
use Rattle.shop_history.specs.declared.acts.Entry.{Entry}
use Rattle.shop_history.specs.Logs.{tables}
use Rattle.shop_cache.specs.declared.cache.Kept.{Kept}
use Rattle.shop_cache.specs.declared.lines.ListLine.{ListLine}
use Rattle.shop_cache.specs.declared.keys.ListKey.{ListKey}
use Rattle.shop_cache.specs.Caches.{AllTaken, Entries, age_limit, found}
use Rattle.shop_cache.specs.Keys.{key_asked}
use Rattle.shop_cache.proofs.cited.Caches.{found_age, found_among}
use Rattle.shop_attempt.specs.Marks.{KeepsMarks}
use Rattle.shop_attempt.specs.Seats.{Seat, Follows}
use Rattle.shop_browse.specs.Lists.{AreLines, items_on, page_by}
use Rattle.shop_browse.proofs.cited.Lists.{listed_shown}
use Rattle.shop_pages.specs.declared.reply.Form.{Form}
use Rattle.shop_pages.specs.Replies.{reply}
use Rattle.shop_engine.specs.declared.report.Point.{Point}
use Rattle.shop_engine.specs.declared.report.PointKind.{PointKind}
use Rattle.shop_engine.specs.declared.report.PointKind.TheVariants as kind
use Rattle.shop_engine.specs.Decided.{CauseAs, Decision, IsDecided}
use Rattle.shop_engine.specs.Keeping.{IsFoundList, KeepsLines, found_for, kept_now}
use Rattle.shop_engine.specs.Lists.{IsFresh, IsFreshAs, IsFreshPoint, IsMarkedFresh, looked_for}
use Rattle.shop_engine.specs.Keeping.{AreKept, IsKept}
use Rattle.shop_engine.specs.Payments.{AreFor}
use Rattle.shop_engine.specs.Steps.{KeepsAs}
use Rattle.shop_engine.specs.Tries.{HasLines, LeavesMark}
use Rattle.shop_engine.specs.Workers.{Standing}
use Rattle.shop_engine.proofs.cited.Fresh.{is_fresh}
use Rattle.shop_engine.proofs.Seats.{stays_same}

-- at a later moment

pub kept_later : (seat : Seat) (marked : ℕ → ℕ → Type 0) (last later : ℕ) (entries : Entries) → last ≤ later → AreKept seat marked last entries → AreKept seat marked later entries
kept_later seat marked last later entries le =
    All-weaker (λ e. IsKept seat marked last e.0 e.1) (λ e. IsKept seat marked later e.0 e.1)
    (λ e is. record { within = is.within; lines = is.lines; past = omega (arith, is.past, le); mark = is.mark; marks = is.marks }) entries

pub taken_by : (seat : Seat) (marked : ℕ → ℕ → Type 0) (last : ℕ) (entries : Entries) → AreKept seat marked last entries → AllTaken last entries
taken_by seat marked last = All-weaker (λ e. IsKept seat marked last e.0 e.1) (λ e. e.1.taken ≤ last) (λ e is. is.past)

-- after calls of the store

still_kept : (old new : Seat) (marked marked' : ℕ → ℕ → Type 0) (last : ℕ) → Follows old new → KeepsMarks marked marked' old new → (key : ListKey) (kept : Kept) → IsKept old marked last key kept → IsKept new marked' last key kept
still_kept old new marked marked' last follows keeps key kept is =
    let rest : List Entry = follows.grows.rest in
    let front : take kept.front new.seen ≡ take kept.front old.seen
    = ap (take kept.front) follows.grows.is ∙ take-append-le kept.front old.seen rest is.within in
    let same : tables new.opening (take kept.front new.seen) ≡ tables old.opening (take kept.front old.seen)
    = ap (tables new.opening) front ∙ ap (λ (t : Tables). tables t (take kept.front old.seen)) follows.opening in
    record {
      within = omega (arith, is.within, ap length follows.grows.is, length-append old.seen rest);
      lines = subst (λ t. AreLines t (items_on t key) kept.lines) (sym same) is.lines;
      past = is.past;
      mark = keeps.still.kept kept.front kept.taken is.mark;
      marks = keeps.are is.marks;
    }

pub all_still : (old new : Seat) (marked marked' : ℕ → ℕ → Type 0) (last : ℕ) (entries : Entries) → Follows old new → KeepsMarks marked marked' old new → AreKept old marked last entries → AreKept new marked' last entries
all_still old new marked marked' last entries follows keeps =
    All-weaker (λ e. IsKept old marked last e.0 e.1) (λ e. IsKept new marked' last e.0 e.1) (λ e is. still_kept old new marked marked' last follows keeps e.0 e.1 is) entries

-- a point of a list that was kept stays fresh
fresh_as : (old new : Seat) (marked marked' : ℕ → ℕ → Type 0) (point : Point) (of : PointKind) → KeepsMarks marked marked' old new → IsFreshAs marked old.seen point of → IsFreshAs marked' new.seen point of
fresh_as old new marked marked' point kind.List keeps is = record { at = is.at; holds = keeps.still.kept point.front is.at is.holds; young = is.young; marks = keeps.are is.marks }
fresh_as old new marked marked' point _ keeps is = tt

pub points_fresh : (old new : Seat) (marked marked' : ℕ → ℕ → Type 0) (points : List Point) → KeepsMarks marked marked' old new
    → All (IsFreshPoint marked old.seen) points → All (IsFreshPoint marked' new.seen) points
points_fresh old new marked marked' points keeps =
    All-weaker (IsFreshPoint marked old.seen) (IsFreshPoint marked' new.seen) (λ p is. fresh_as old new marked marked' p p.kind keeps is) points

-- and one more point is fresh
pub points_more : (old new : Seat) (marked marked' : ℕ → ℕ → Type 0) (points reserved points' : List Point) (point : Point) → KeepsMarks marked marked' old new → IsFreshPoint marked' new.seen point
    → reserved ≡ points → points' ≡ reserved ++ point ∷ [] → All (IsFreshPoint marked old.seen) points → All (IsFreshPoint marked' new.seen) points'
points_more old new marked marked' points reserved points' point keeps fresh same added all =
    subst (All (IsFreshPoint marked' new.seen)) (sym (added ∙ ap (λ (l : List Point). l ++ point ∷ []) same))
    (All-push (IsFreshPoint marked' new.seen) points point (points_fresh old new marked marked' points keeps all) fresh)

-- a request for a list

by_list : (P : Request → Type 0) → ((asked : NewAsked) → P (NewProducts asked)) → ((asked : BestAsked) → P (BestSellers asked)) → ((asked : SearchAsked) → P (SearchResults asked))
    → (request : Request) (key : ListKey) → key_asked request ≡ Some key → P request
by_list P new best found (NewProducts asked) key is = new asked
by_list P new best found (BestSellers asked) key is = best asked
by_list P new best found (SearchResults asked) key is = found asked
by_list P new best found _ key is = absurd cc

page_there : (lines : List ListLine) (request : Request) (key : ListKey) → key_asked request ≡ Some key → (page : Page) × (page_by request lines ≡ Some page)
page_there lines = by_list (λ r. (page : Page) × (page_by r lines ≡ Some page)) (λ asked. (_, refl)) (λ asked. (_, refl)) (λ asked. (_, refl))

none_asked : (call : Call) (request : Request) (key : ListKey) → key_asked request ≡ Some key → AreFor request call []
none_asked call = by_list (λ r. AreFor r call []) (λ asked. refl) (λ asked. refl) (λ asked. refl)

-- the test of a request for one
pub none_listed : (key : Option ListKey) → is_some key ≡ false → key ≡ None
none_listed None is = refl
none_listed (Some key) is = absurd cc

-- the list that is found

pub found_list : (seat : Seat) (marked : ℕ → ℕ → Type 0) (request : Request) (form : Form) (front moment : ℕ) (bytes : List ℕ) (entries : Entries) (key : ListKey) (kept : Kept) → key_asked request ≡ Some key
    → AreKept seat marked moment entries → found key moment entries ≡ Some kept → front ≡ kept.front → ((page : Page) → page_by request kept.lines ≡ Some page → bytes ≡ reply page form)
    → IsFoundList seat marked request form front moment bytes entries
found_list seat marked request form front moment bytes entries key kept asked all there front_is replies =
    let is : IsKept seat marked moment key kept = All-contains (λ e. IsKept seat marked moment e.0 e.1) entries (key, kept) all (found_among key moment entries kept there) in
    let age = found_age key moment entries kept there in
    let enough : moment ≤ kept.taken + age_limit = omega (arith, age) in
    let page = page_there kept.lines request key asked in
    let fresh : IsMarkedFresh marked seat.seen kept.front moment = record { at = kept.taken; holds = is.mark; young = enough; marks = is.marks } in
    record {
      key = key;
      asked = asked;
      kept = kept;
      found_is = there;
      front_is = front_is;
      page = page.0;
      page_is = page.1;
      bytes_are = replies page.0 page.1;
      shows = λ draw.
          subst (λ n. show (tables seat.opening (take n seat.seen)) request draw ≡ Some page.0) (sym front_is)
          (listed_shown (tables seat.opening (take kept.front seat.seen)) request draw kept.lines (record { key = key; asked = asked; are = is.lines }) ∙ page.1);
      fresh_is = subst (λ n. IsFresh seat.seen n moment) (sym front_is) (is_fresh marked seat.seen kept.front moment fresh);
      marked_is = subst (λ n. IsMarkedFresh marked seat.seen n moment) (sym front_is) fresh;
    }

abbrev pub point_again : ℕ → ℕ → ℕ → ℕ → Point
point_again front moment call draw = record { kind = kind.List; front = front; moment = moment; call = call; draw = draw; tries = 0 }

-- nothing else is asked or made
pub shown_again : (seat : Seat) (marked : ℕ → ℕ → Type 0) (request : Request) (form : Form) (front moment call draw : ℕ) (bytes : List ℕ) (entries : Entries)
    → (is : IsFoundList seat marked request form front moment bytes entries)
    → IsDecided seat seat request (record { point = point_again front moment call draw; made = []; answers = [] }) is.page
shown_again seat marked request form front moment call draw bytes entries is = record {
  stays = stays_same seat moment;
  some = omega arith;
  few = omega arith;
  alone = λ told. refl;
  asks = none_asked (record { caller = seat.caller; number = call }) request is.key is.asked;
  cause = record { asked = subst IsSome (sym is.asked) refl; stands = refl; made = refl; tries = refl; fresh = is.fresh_is };
  shows = is.shows draw;
}

-- a list that was read is kept
pub keeps_as : (from to : Standing) (request : Request) (point : Point) (page : Page) (of : PointKind) (lines : Option (List ListLine)) (o : Option ListKey) → key_asked request ≡ o → HasLines to.seat request of lines
    → found_for o point.moment from.kept ≡ None → to.kept ≡ kept_now o point.front point.moment lines (looked_for o from.kept) → KeepsAs o from to request point page of
keeps_as from to request point page of lines None asked has none kept = kept
keeps_as from to request point page kind.At (Some lines) (Some key) asked has none kept =
    let t : Tables = tables to.seat.opening to.seat.seen in
    let same : has.key ≡ key = let is = has.asked in cc in
    record { none = none; lines = lines; are = subst (λ k. AreLines t (items_on t k) lines) same has.are; kept = kept }
keeps_as from to request point page kind.At None (Some key) asked has none kept = absurd cc
keeps_as from to request point page kind.List None (Some key) asked has none kept = absurd has
keeps_as from to request point page _ (Some lines) (Some key) asked has none kept = absurd has
keeps_as from to request point page _ None (Some key) asked has none kept = (none, kept)

-- and may be
pub keeps_lines : (old seat : Seat) (marked : ℕ → ℕ → Type 0) (request : Request) (decision : Decision) (last : ℕ) (of : PointKind) (lines : Option (List ListLine)) (key : Option ListKey) → key ≡ key_asked request
    → HasLines seat request of lines → CauseAs old seat request decision of → (IsSome lines → LeavesMark marked seat.seen decision.point.front last)
    → KeepsLines seat marked last key decision.point.front lines
keeps_lines old seat marked request decision last of lines None asked has cause leaves = tt
keeps_lines old seat marked request decision last of None (Some key) asked has cause leaves = tt
keeps_lines old seat marked request decision last kind.At (Some lines) (Some key) asked has cause leaves =
    let front : decision.point.front ≡ length seat.seen = cause.1 in
    let all : take decision.point.front seat.seen ≡ seat.seen = take_all decision.point.front seat.seen (omega (arith, front)) in
    let t : Tables = tables seat.opening seat.seen in
    let same : has.key ≡ key = let is = has.asked in cc in
    record {
      within = omega (arith, front);
      lines = subst (λ l. AreLines (tables seat.opening l) (items_on (tables seat.opening l) key) lines) (sym all) (subst (λ k. AreLines t (items_on t k) lines) same has.are);
      past = omega arith;
      mark = (leaves refl).mark;
      marks = (leaves refl).marks;
    }
keeps_lines old seat marked request decision last _ (Some lines) (Some key) asked has cause leaves = absurd has

-- what was decided with lines is a list that was read, for which nothing was made, and nobody asked
pub record IsReadAlone (request : Request) (decision : Decision) (of : PointKind) : Type 0 where
  pub kind_is : of ≡ kind.At
  pub none_made : decision.made ≡ []
  pub none_asked_for : decision.answers ≡ []

pub read_alone : (old seat : Seat) (request : Request) (decision : Decision) (call : Call) (of : PointKind) (lines : Option (List ListLine)) → HasLines seat request of lines → CauseAs old seat request decision of
    → AreFor request call decision.answers → IsSome lines → IsReadAlone request decision of
read_alone old seat request decision call of None has cause asks some = absurd (let no : IsSome {T = List ListLine} None = some in cc)
read_alone old seat request decision call kind.At (Some lines) has cause asks some = record {
  kind_is = refl;
  none_made = cause.0;
  none_asked_for = by_list (λ r. AreFor r call decision.answers → decision.answers ≡ []) (λ asked is. is) (λ asked is. is) (λ asked is. is) request has.key has.asked asks;
}
read_alone old seat request decision call _ (Some lines) has cause asks some = absurd has

-- what was decided by tries is no list that was kept
pub fresh_else : (marked : ℕ → ℕ → Type 0) (seat : Seat) (request : Request) (point : Point) (of : PointKind) (lines : Option (List ListLine)) → HasLines seat request of lines → IsFreshAs marked seat.seen point of
fresh_else marked seat request point kind.List lines has = absurd has
fresh_else marked seat request point _ lines has = tt
