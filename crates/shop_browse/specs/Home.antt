-- What Home reads, and what it shows by that.
use Rattle.std.specs.Prelude.{◌≡◌, ℕ, zero, suc, List, [], ◌∷◌, ◌++◌, map, codes, Option, Some, None}
use Rattle.shop_model.specs.declared.page.Block.TheVariants.{Heading}
use Rattle.shop_model.specs.declared.page.Page.{Page}
use Rattle.shop_model.specs.declared.requests.IdsAsked.{IdsAsked}
use Rattle.shop_model.specs.declared.refusal.Refusal.TheVariants.{NoCustomer}
use Rattle.shop_model.specs.declared.subject.Subject.TheVariants.{Arts}
use Rattle.shop_model.specs.asked.Refusals.{page_of}
use Rattle.shop_model.specs.lists.Catalogues.{Catalogue}
use Rattle.shop_model.specs.rows.Rows.{CustomerRow}
use Rattle.shop_model.specs.pages.Home.{greetings, subject_links}
use Rattle.shop_model.specs.rows.Subjects.{subjects}
use Rattle.shop_model.specs.pages.Targets.{nav}
use Rattle.shop_model.specs.population.Words.{entry}
use Rattle.shop_history.specs.declared.keys.Key.{Key}
use Rattle.shop_history.specs.declared.keys.Key.TheVariants.{Customer}
use Rattle.shop_history.specs.declared.keys.Row.{Row}
use Rattle.shop_history.specs.declared.keys.Row.TheVariants as row
use Rattle.shop_draft.specs.declared.draft.Draft.{Draft}
use Rattle.shop_draft.specs.Pages.{Shows}
use Rattle.shop_attempt.specs.declared.attempts.ReadOf.{ReadOf}
use Rattle.shop_browse.specs.declared.attempted.Ask.{Ask}
use Rattle.shop_browse.specs.declared.driver.Next.{Next}
use Rattle.shop_browse.specs.declared.driver.Next.TheVariants.{Show, Never}
use Rattle.shop_browse.specs.Counting.{HasCount, drawn_key}
use Rattle.shop_browse.specs.Fitting.{keys_of}
use Rattle.shop_browse.specs.declared.names.Names.{Names}
use Rattle.shop_browse.specs.Names.{ReadsNamed, FollowsNamed}
use Rattle.shop_browse.specs.Related.{promoted_in, related_in}

-- the customer whose number is given was read, if any, and the drawn item, and behind it labels of items related to it
pub record ReadsKnown (number : ℕ) (c : Catalogue) (drawn : Key) (reads : List ReadOf) : Type 0 where
  pub known : ReadOf
  pub rest : List ReadOf
  pub reads_are : reads ≡ known ∷ rest
  pub key_is : known.key ≡ Customer number
  pub rest_are : ReadsNamed c related_in drawn rest

abbrev pub FollowsWelcome : Option ℕ → Catalogue → Key → ℕ → List ReadOf → Type 0
FollowsWelcome None c drawn round reads = FollowsNamed c related_in drawn round reads
FollowsWelcome (Some number) c drawn zero reads = reads ≡ []
FollowsWelcome (Some number) c drawn (suc zero) reads = keys_of reads ≡ Customer number ∷ drawn ∷ []
FollowsWelcome (Some number) c drawn (suc (suc more)) reads = ReadsKnown number c drawn reads

-- the number of items was read before
abbrev pub FollowsHome : Option ℕ → Ask → ℕ → List ReadOf → Type 0
FollowsHome number ask = HasCount (λ items. FollowsWelcome number ask.index.now (drawn_key ask.draw items))

-- the page for a customer or for anyone, with a promotion of these items
unfoldable pub home_in : Names → ℕ → IdsAsked → Option CustomerRow → List ℕ → Page
home_in names draw ids customer items = record {
  status = 200;
  title = codes "Home";
  blocks =
      Heading (codes "Welcome")
      ∷ greetings customer
      ++ map (promoted_in names ids) items
      ++ subject_links (entry Arts subjects draw) ids
      ++ nav ids;
}

-- what is done by what was read of a customer: the page for it, or a refusal; no shop shows another row
abbrev pub IsGreeting : Names → ℕ → IdsAsked → Row → List ℕ → Draft → Next → Type 0
IsGreeting names draw ids row.Absent items draft next = (next ≡ Show) × Shows draft (λ drawn. page_of NoCustomer)
IsGreeting names draw ids (row.Customer customer) items draft next =
    (next ≡ Show) × Shows draft (λ drawn. home_in names draw ids (Some customer) items)
IsGreeting names draw ids _ items draft next = next ≡ Never
