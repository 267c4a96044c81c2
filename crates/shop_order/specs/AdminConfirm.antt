-- Admin Confirm: what it reads, round by round, and the change that it makes.
use Rattle.std.specs.Prelude.{◌≡◌, ℕ, zero, suc, ◌^◌, ◌<◌, List, [], ◌∷◌, ◌++◌, map, sum_by, All}
use Rattle.shop_model.specs.declared.requests.IdsAsked.{IdsAsked}
use Rattle.shop_model.specs.declared.tables.Tables.{Tables}
use Rattle.shop_model.specs.asked.AdminAsked.{AdminAsked}
use Rattle.shop_model.specs.lists.Catalogues.{Catalogue}
use Rattle.shop_model.specs.lists.Related.{five_of}
use Rattle.shop_model.specs.pages.AdminConfirm.{mended_page}
use Rattle.shop_model.specs.rows.Rows.{ItemRow}
use Rattle.shop_model.specs.rows.Sound.{Has}
use Rattle.shop_history.specs.declared.acts.Act.TheVariants.{Admin}
use Rattle.shop_history.specs.declared.acts.Drawn.{Drawn}
use Rattle.shop_history.specs.declared.keys.Key.{Key}
use Rattle.shop_history.specs.declared.keys.Key.TheVariants as key
use Rattle.shop_history.specs.declared.keys.Row.{Row}
use Rattle.shop_history.specs.declared.keys.Row.TheVariants as rows
use Rattle.shop_draft.specs.declared.draft.Draft.{Draft}
use Rattle.shop_draft.specs.Drawing.{day_after}
use Rattle.shop_draft.specs.Pages.{IsPage}
use Rattle.shop_attempt.specs.declared.attempts.ReadOf.{ReadOf}
use Rattle.shop_attempt.specs.declared.attempts.Write.TheVariants.{PutItem}
use Rattle.shop_browse.specs.declared.attempted.Ask.{Ask}
use Rattle.shop_browse.specs.declared.driver.Next.{Next}
use Rattle.shop_browse.specs.declared.driver.Next.TheVariants.{ReadOne, ReadTwo, Read, Change}
use Rattle.shop_browse.specs.Counting.{HasCount}
use Rattle.shop_browse.specs.Driver.{keys_of}
use Rattle.shop_browse.specs.declared.names.Names.{Names}
use Rattle.shop_browse.specs.Names.{HaveTitles, label_keys}

-- the customers in a row; another row has none
abbrev pub customers_in : Row → List ℕ
customers_in (rows.Customers customers) = customers
customers_in _ = []

-- the items in a row, with how many units of each; another row has none
abbrev pub totals_in : Row → List (ℕ × ℕ)
totals_in (rows.Totals totals) = totals
totals_in _ = []

-- what buyers bought, as it was read
abbrev pub lists_in : List ReadOf → List (List (ℕ × ℕ))
lists_in bought = map (λ r. totals_in r.row) bought

-- what is done next is to read these rows
abbrev pub Reads : List Key → Next → Type 0
Reads keys (ReadOne one) = keys ≡ one ∷ []
Reads keys (ReadTwo one other) = keys ≡ one ∷ other ∷ []
Reads keys (Read list) = keys ≡ list
Reads keys _ = ⊥

-- the keys of the first round
abbrev pub first_keys : ℕ → List Key
first_keys item = key.Item item ∷ key.Buyers item ∷ []

-- the reads of the first round, and others behind them
pub record HasFirst (item : ℕ) (reads : List ReadOf) : Type 0 where
  pub book : ReadOf
  pub buyers : ReadOf
  pub more : List ReadOf
  pub reads_are : reads ≡ book ∷ buyers ∷ more
  pub book_is : book.key ≡ key.Item item
  pub buyers_is : buyers.key ≡ key.Buyers item

-- behind these come reads of what each buyer bought, and others
pub record HasSecond (item : ℕ) (reads : List ReadOf) : Type 0 where
  pub first : HasFirst item reads
  pub bought : List ReadOf
  pub labels : List ReadOf
  pub more_are : first.more ≡ bought ++ labels
  pub bought_are : keys_of bought ≡ map key.Bought (customers_in first.buyers.row)

-- the five items, of so many, that are related to one by what was read of its buyers
abbrev pub five_by : ℕ → ℕ → List ReadOf → List ℕ
five_by item items bought = five_of (lists_in bought) item items

-- behind these come the labels of those of the related items that the catalogue doesn't have
pub record HasThird (c : Catalogue) (item items : ℕ) (reads : List ReadOf) : Type 0 where
  pub second : HasSecond item reads
  pub labels_are : keys_of second.labels ≡ label_keys c (five_by item items second.bought)

-- the reads by the rounds, in a shop of so many items
abbrev pub FollowsMending : Catalogue → ℕ → ℕ → ℕ → List ReadOf → Type 0
FollowsMending c item items zero reads = reads ≡ []
FollowsMending c item items (suc zero) reads = keys_of reads ≡ first_keys item
FollowsMending c item items (suc (suc zero)) reads = (has : HasSecond item reads) × (has.labels ≡ [])
FollowsMending c item items (suc (suc (suc more))) reads = HasThird c item items reads

-- the number of items was read before
abbrev pub FollowsAdmin : AdminAsked → Ask → ℕ → List ReadOf → Type 0
FollowsAdmin asked ask = HasCount (FollowsMending ask.index.now asked.item)

-- of so many items this one is there, and so are those that were bought
pub record AreAmong (items item : ℕ) (bought : List ReadOf) : Type 0 where
  pub there : Has items item
  pub named : All (λ pairs. All (λ p. Has items p.0) pairs) (lists_in bought)

-- the units that were bought can be added
abbrev pub AreFew : List ReadOf → Type 0
AreFew bought = sum_by (λ pairs. sum_by (λ p. p.1) pairs) (lists_in bought) < 2 ^ 64

-- these five are related to the item by what was read of its buyers, in a shop of so many, where all of these are
pub record AreRelated (items item : ℕ) (bought : List ReadOf) (five : List ℕ) : Type 0 where
  pub among : AreAmong items item bought
  pub are : five ≡ five_by item items bought

-- an item as it is asked for, with those that are related to it; the settle publishes it
abbrev pub mended_row : AdminAsked → List ℕ → ItemRow → ItemRow
mended_row asked five item = record item {
  related = five;
  thumb = asked.thumb;
  image = asked.image;
  cost = asked.cost;
}

-- an item that is published on the day of a stamp
abbrev pub published_at : ℕ → ItemRow → ItemRow
published_at stamp item = record item { published = day_after stamp 0 }

-- the draft is of the page of an item that is published at the settle, in whichever tables have the titles that are known
abbrev pub IsMendedPage : Names → IdsAsked → ItemRow → Draft → Type 0
IsMendedPage names ids item draft =
    (t : Tables) → HaveTitles t names item.related → (drawn : Drawn) → IsPage draft drawn (mended_page t ids (published_at drawn.stamp item))

-- the change that leaves this item, with the draft of its page
pub record IsChangeTo (names : Names) (asked : AdminAsked) (item : ItemRow) (draft : Draft) (next : Next) : Type 0 where
  pub written : IsMendedPage names asked.ids item draft
  pub is : next ≡ Change (Admin asked) (PutItem item ∷ [])
