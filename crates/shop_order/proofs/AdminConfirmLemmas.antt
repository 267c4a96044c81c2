-- Admin Confirm: what it may read, round by round, and where it stops.
use Rattle.std.proofs.Common.{◌≡◌, ℕ, zero, suc, ◌≤◌, List, [], ◌∷◌, ◌++◌, append-nil, length, length-append, take, drop, map, get_or, All, refl, sym, ◌∙◌, ap, subst, inl, inr, arith}
use Rattle.std.specs.List.{Contains, sum_by}
use Rattle.std.proofs.Math.Seq.{take-append_seam, drop-append_seam}
use Rattle.std.proofs.lemmas.List.{length-map}
use Rattle.std.proofs.lemmas.List.Elements.{All-nil, All-cons, All-map, Contains-get_or}
use Rattle.std.proofs.lemmas.List.Sums.{sum_by-le}
use Rattle.shop_model.specs.declared.requests.Request.{Request}
use Rattle.shop_model.specs.declared.requests.Request.TheVariants.{AdminConfirm}
use Rattle.shop_model.specs.declared.refusal.Refusal.TheVariants.{NoItem}
use Rattle.shop_model.specs.declared.tables.Tables.{Tables}
use Rattle.shop_model.specs.asked.AdminAsked.{AdminAsked}
use Rattle.shop_model.specs.lists.Catalogues.{Catalogue}
use Rattle.shop_model.specs.lists.Related.{bought}
use Rattle.shop_model.specs.pages.Show.{check_there}
use Rattle.shop_model.specs.rows.Limits.{recent_orders}
use Rattle.shop_model.specs.rows.Lookups.{row_numbered}
use Rattle.shop_model.specs.rows.Sound.{Has}
use Rattle.shop_model.proofs.cited.RelatedFive.{related_there}
use Rattle.shop_history.specs.declared.acts.Entry.{Entry}
use Rattle.shop_history.specs.declared.keys.Key.{Key}
use Rattle.shop_history.specs.declared.keys.Key.TheVariants as key
use Rattle.shop_history.specs.declared.keys.Row.{Row}
use Rattle.shop_history.specs.declared.keys.Row.TheVariants as row
use Rattle.shop_history.specs.Keys.{row_of, shown}
use Rattle.shop_history.specs.Logs.{tables}
use Rattle.shop_draft.specs.declared.draft.Draft.{Draft}
use Rattle.shop_attempt.specs.declared.attempts.ReadOf.{ReadOf}
use Rattle.shop_attempt.specs.Reads.{Shows, AreTrue}
use Rattle.shop_browse.specs.declared.attempted.Ask.{Ask}
use Rattle.shop_browse.specs.declared.driver.Next.{Next}
use Rattle.shop_browse.specs.declared.driver.Next.TheVariants.{ReadOne, ReadTwo, Read}
use Rattle.shop_browse.specs.Counting.{HasCount, number_in}
use Rattle.shop_browse.specs.Driver.{keys_of, Fits, AreSeen, AsksFor, IsNext}
use Rattle.shop_browse.specs.Footprints.{InFootprint, IsBoughtBeside, WasShown}
use Rattle.shop_browse.specs.Names.{label_keys}
use Rattle.shop_browse.proofs.cited.Counting.{asks_behind, number_first, size_read, was_shown}
use Rattle.shop_browse.proofs.cited.Names.{labels_may}
use Rattle.shop_order.specs.declared.stops.Stop.{Stop}
use Rattle.shop_order.specs.declared.stops.Stop.TheVariants.{Refused, Never}
use Rattle.shop_order.specs.AdminConfirm.{customers_in, totals_in, lists_in, five_by, first_keys, Reads, HasFirst, HasSecond, FollowsMending, FollowsAdmin, AreAmong, AreFew}
use Rattle.shop_order.specs.Stops.{StopsBy, IsStop}
use Rattle.shop_order.proofs.RelatedLemmas.{few_buyers, few_bought}

-- the reads behind the number of items

two_reads : (item : ℕ) (reads : List ReadOf) → keys_of reads ≡ first_keys item → HasFirst item reads
two_reads item [] are = absurd cc
two_reads item (book ∷ []) are = absurd cc
two_reads item (book ∷ buyers ∷ more) are = record { book = book; buyers = buyers; more = more; reads_are = refl; book_is = cc; buyers_is = cc }

none_more : (item : ℕ) (book buyers : ReadOf) (more : List ReadOf) → keys_of (book ∷ buyers ∷ more) ≡ first_keys item → more ≡ []
none_more item book buyers [] are = refl
none_more item book buyers (other ∷ more) are = absurd cc

pub has_first : (c : Catalogue) (item items round : ℕ) (reads : List ReadOf) → (round ≡ 0 → ⊥) → FollowsMending c item items round reads → HasFirst item reads
has_first c item items zero reads some follows = absurd (some refl)
has_first c item items (suc zero) reads some follows = two_reads item reads follows
has_first c item items (suc (suc zero)) reads some follows = follows.0.first
has_first c item items (suc (suc (suc more))) reads some follows = follows.second.first

-- what the buyers bought was read, and after the next round the labels behind it
pub record HasBought (c : Catalogue) (item items round : ℕ) (reads : List ReadOf) : Type 0 where
  pub second : HasSecond item reads
  pub none : round ≡ 2 → second.labels ≡ []
  pub labels_are : (round ≡ 2 → ⊥) → keys_of second.labels ≡ label_keys c (five_by item items second.bought)

pub has_bought : (c : Catalogue) (item items round : ℕ) (reads : List ReadOf) → (round ≡ 0 → ⊥) → (round ≡ 1 → ⊥) → FollowsMending c item items round reads → HasBought c item items round reads
has_bought c item items zero reads some more follows = absurd (some refl)
has_bought c item items (suc zero) reads some more follows = absurd (more refl)
has_bought c item items (suc (suc zero)) reads some more follows = record { second = follows.0; none = λ is. follows.1; labels_are = λ later. absurd (later refl) }
has_bought c item items (suc (suc (suc round))) reads some more follows = record { second = follows.second; none = λ is. absurd (omega (arith, is)); labels_are = λ later. follows.labels_are }

-- what was bought can be added

few_units : (c : Catalogue) (customers : List ℕ) (reads more : List ReadOf) → keys_of reads ≡ map key.Bought customers → AreSeen c (reads ++ more)
    → All (λ (r : ReadOf). sum_by (λ p. p.1) (totals_in r.row) ≤ 999_000_000_000_000) reads
few_units c customers [] more are seen = All-nil (λ (r : ReadOf). sum_by (λ p. p.1) (totals_in r.row) ≤ 999_000_000_000_000)
few_units c [] (read ∷ reads) more are seen = absurd cc
few_units c (customer ∷ customers) (read ∷ reads) more are seen =
    let t : Tables = seen.0.0 in
    let is : read.key ≡ key.Bought customer = cc are in
    let rest : keys_of reads ≡ map key.Bought customers = cc are in
    let totals : bought t customer ≡ totals_in read.row = ap totals_in (ap (row_of t) (sym is) ∙ seen.0.1.shows.0) in
    All-cons (λ (r : ReadOf). sum_by (λ p. p.1) (totals_in r.row) ≤ 999_000_000_000_000) read reads
    (subst (λ (l : List (ℕ × ℕ)). sum_by (λ p. p.1) l ≤ 999_000_000_000_000) totals (few_bought t seen.0.1.sound customer)) (few_units c customers reads more rest seen.1)

-- few customers bought an item
few_customers : (item : ℕ) (c : Catalogue) (read : ReadOf) → read.key ≡ key.Buyers item → AreSeen c (read ∷ []) → length (customers_in read.row) ≤ recent_orders
few_customers item c read is seen =
    let t : Tables = seen.0.0 in
    subst (λ (l : List ℕ). length l ≤ recent_orders) (ap customers_in (ap (row_of t) (sym is) ∙ seen.0.1.shows.0)) (few_buyers t seen.0.1.sound item)

-- rows that may be read are read next
pub reads_next : (follows : ℕ → List ReadOf → Type 0) (request : Request) (ask : Ask) (round : ℕ) (reads : List ReadOf) (draft : Draft) (keys : List Key) (next : Next) → AsksFor follows request ask round reads keys
    → Reads keys next → IsNext follows request ask round reads draft next
reads_next follows request ask round reads draft keys (ReadOne one) asks is = subst (AsksFor follows request ask round reads) is asks
reads_next follows request ask round reads draft keys (ReadTwo one other) asks is = subst (AsksFor follows request ask round reads) is asks
reads_next follows request ask round reads draft keys (Read list) asks is = subst (AsksFor follows request ask round reads) is asks
reads_next follows request ask round reads draft keys _ asks is = absurd is

-- a customer among the buyers that a row shows
bought_beside : (opening : Tables) (log : List Entry) (item : ℕ) (r : Row) (customer : ℕ) → WasShown opening log (key.Buyers item) r → Contains (customers_in r) customer
    → IsBoughtBeside opening log item (key.Bought customer)
bought_beside opening log item (row.Customers shown) customer was among = (shown, was, customer, among, refl)
bought_beside opening log item _ customer was among = absurd (omega (arith, among.1))

module _ (asked : AdminAsked) (ask : Ask) (round : ℕ) (reads : List ReadOf) (has : HasCount (FollowsMending ask.index.now asked.item) round reads) where
  abbrev follows : ℕ → ℕ → List ReadOf → Type 0
  follows = FollowsMending ask.index.now asked.item

  abbrev items : ℕ
  items = number_in has.count.row

  module _ (first : HasFirst asked.item has.rest) where
    pub first_reads : reads ≡ has.count ∷ first.book ∷ first.buyers ∷ first.more
    first_reads = has.reads_are ∙ ap (λ (l : List ReadOf). has.count ∷ l) first.reads_are

    pub shown_first : (t : Tables) → Fits ask.index.now t reads → Shows t (has.count ∷ first.book ∷ first.buyers ∷ first.more)
    shown_first t fits = subst (Shows t) first_reads fits.shows

    -- the item is the one in its row
    pub book_shown : (t : Tables) → Fits ask.index.now t reads → shown row.Item (row_numbered t.items asked.item) ≡ first.book.row
    book_shown t fits = ap (row_of t) (sym first.book_is) ∙ (shown_first t fits).1.0

    pub item_stops : (stop : Stop) → StopsBy row.Item (check_there NoItem) first.book.row stop → IsStop (λ t. Fits ask.index.now t reads) (AdminConfirm asked) stop
    item_stops (Refused refusal) stops = λ t fits. stops (row_numbered t.items asked.item) (book_shown t fits)
    item_stops Never stops = λ t fits. stops (row_numbered t.items asked.item) (book_shown t fits)

    -- what each buyer bought is asked for
    pub asks_bought : round ≡ 1 → (keys : List Key) → keys ≡ map key.Bought (customers_in first.buyers.row)
        → AsksFor (FollowsAdmin asked ask) (AdminConfirm asked) ask round reads keys
    asks_bought one keys are =
        asks_behind follows round reads has (AdminConfirm asked) ask keys (omega (arith, one))
        (λ more of.
        let none : first.more ≡ []
        = none_more asked.item first.book first.buyers first.more (ap keys_of (sym first.reads_are) ∙ subst (λ r. follows items r has.rest) one has.rest_are) in
        subst (λ r. follows items (suc r) (has.rest ++ more)) (sym one) (
          record {
            first = record {
              book = first.book;
              buyers = first.buyers;
              more = more;
              reads_are = ap (λ (l : List ReadOf). l ++ more) (first.reads_are ∙ ap (λ (l : List ReadOf). first.book ∷ first.buyers ∷ l) none);
              book_is = first.book_is;
              buyers_is = first.buyers_is;
            };
            bought = more;
            labels = [];
            more_are = sym (append-nil more);
            bought_are = of ∙ are;
          },
          refl,
        ))
        (λ opening log were.
        let P : Key → Type 0 = InFootprint opening log (AdminConfirm asked) ask.draw in
        let customers : List ℕ = customers_in first.buyers.row in
        let true_of : AreTrue opening log (has.count ∷ first.book ∷ first.buyers ∷ first.more) = subst (λ (l : List ReadOf). AreTrue opening log (has.count ∷ l)) first.reads_are were.are in
        let was : WasShown opening log (key.Buyers asked.item) first.buyers.row
        = subst (λ k. WasShown opening log k first.buyers.row) first.buyers_is (was_shown opening log first.buyers first.more true_of.1.1) in
        subst (All P) (sym are)
        (All-map P key.Bought customers (λ k d lt. inl (inr (bought_beside opening log asked.item first.buyers.row (get_or customers k d) was (Contains-get_or customers k d lt))))))

  module _ (bought : HasBought ask.index.now asked.item (number_in has.count.row) round has.rest) where
    -- how many reads there are of what the buyers bought
    many_bought : length bought.second.bought ≡ length (customers_in bought.second.first.buyers.row)
    many_bought =
        sym (length-map bought.second.bought (λ (r : ReadOf). r.key))
        ∙ ap (λ (l : List Key). length l) bought.second.bought_are ∙ length-map (customers_in bought.second.first.buyers.row) key.Bought

    pub bought_reads : reads ≡ has.count ∷ bought.second.first.book ∷ bought.second.first.buyers ∷ bought.second.bought ++ bought.second.labels
    bought_reads = first_reads bought.second.first ∙ ap (λ (l : List ReadOf). has.count ∷ bought.second.first.book ∷ bought.second.first.buyers ∷ l) bought.second.more_are

    -- they come first of those behind the first three
    module _ (many : ℕ) (many_is : many ≡ length (customers_in bought.second.first.buyers.row)) where
      pub many_within : many ≤ length (drop 3 reads)
      many_within = omega (arith, many_is, many_bought, ap (λ (l : List ReadOf). length (drop 3 l)) bought_reads, length-append bought.second.bought bought.second.labels)

      pub bought_taken : take many (drop 3 reads) ≡ bought.second.bought
      bought_taken =
          ap (λ n. take n (drop 3 reads)) (many_is ∙ sym many_bought) ∙ ap (λ (l : List ReadOf). take (length bought.second.bought) (drop 3 l)) bought_reads
          ∙ take-append_seam bought.second.bought bought.second.labels

      pub labels_left : drop many (drop 3 reads) ≡ bought.second.labels
      labels_left =
          ap (λ n. drop n (drop 3 reads)) (many_is ∙ sym many_bought) ∙ ap (λ (l : List ReadOf). drop (length bought.second.bought) (drop 3 l)) bought_reads
          ∙ drop-append_seam bought.second.bought bought.second.labels

    pub few_sold : AreSeen ask.index.now reads → AreFew bought.second.bought
    few_sold seen =
        let first : HasFirst asked.item has.rest = bought.second.first in
        let all : AreSeen ask.index.now (has.count ∷ first.book ∷ first.buyers ∷ bought.second.bought ++ bought.second.labels) = subst (AreSeen ask.index.now) bought_reads seen in
        let few = few_units ask.index.now (customers_in first.buyers.row) bought.second.bought bought.second.labels bought.second.bought_are all.1.1.1 in
        let most = sum_by-le (λ pairs. sum_by (λ p. p.1) pairs) 999_000_000_000_000 (lists_in bought.second.bought)
        (All-map (λ (pairs : List (ℕ × ℕ)). sum_by (λ p. p.1) pairs ≤ 999_000_000_000_000) (λ (r : ReadOf). totals_in r.row) bought.second.bought few) in
        omega (
          arith,
          most,
          length-map bought.second.bought (λ (r : ReadOf). totals_in r.row),
          many_bought,
          few_customers asked.item ask.index.now first.buyers first.buyers_is (all.1.1.0, tt),
        )

    -- the labels of the related items are asked for
    pub asks_labels : AreSeen ask.index.now reads → AreAmong (number_in has.count.row) asked.item bought.second.bought → round ≡ 2
        → (keys : List Key) → keys ≡ label_keys ask.index.now (five_by asked.item (number_in has.count.row) bought.second.bought) → AsksFor (FollowsAdmin asked ask) (AdminConfirm asked) ask round reads keys
    asks_labels seen among two keys are =
        let first : HasFirst asked.item has.rest = bought.second.first in
        let five : List ℕ = five_by asked.item items bought.second.bought in
        asks_behind follows round reads has (AdminConfirm asked) ask keys (omega (arith, two))
        (λ more of.
        let before : first.more ≡ bought.second.bought = bought.second.more_are ∙ ap (λ (l : List ReadOf). bought.second.bought ++ l) (bought.none two) ∙ append-nil bought.second.bought in
        subst (λ r. follows items (suc r) (has.rest ++ more)) (sym two) (record {
          second = record {
            first = record {
              book = first.book;
              buyers = first.buyers;
              more = bought.second.bought ++ more;
              reads_are = ap (λ (l : List ReadOf). l ++ more) (first.reads_are ∙ ap (λ (l : List ReadOf). first.book ∷ first.buyers ∷ l) before);
              book_is = first.book_is;
              buyers_is = first.buyers_is;
            };
            bought = bought.second.bought;
            labels = more;
            more_are = refl;
            bought_are = bought.second.bought_are;
          };
          labels_are = of ∙ are;
        }))
        (λ opening log were.
        let was : WasShown opening log has.count.key has.count.row = was_shown opening log has.count has.rest were.are in
        let size : items ≡ length (tables opening (take was.front log)).items = size_read has.count has.key_is (tables opening (take was.front log)) was.is in
        subst (All (InFootprint opening log (AdminConfirm asked) ask.draw)) (sym are)
        (labels_may ask.index.now opening log was.front (AdminConfirm asked) ask.draw five
        (subst (λ n. All (Has n) five) size (related_there (lists_in bought.second.bought) asked.item items among.there (number_first follows round reads has ask.index.now seen).six))))
