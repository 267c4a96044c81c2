-- Where a request to buy a cart stops, in fewer tables, and that what is done there is right next.
use Rattle.std.proofs.Common.{◌≡◌, ℕ, List, None, sym, ap, subst}
use Rattle.shop_model.specs.declared.requests.Request.{Request}
use Rattle.shop_model.specs.declared.tables.Tables.{Tables}
use Rattle.shop_model.specs.asked.Refusals.{page_of}
use Rattle.shop_model.specs.pages.Show.{page_for, refused_or}
use Rattle.shop_cache.specs.Keys.{key_asked}
use Rattle.shop_draft.specs.declared.draft.Draft.{Draft}
use Rattle.shop_attempt.specs.declared.attempts.ReadOf.{ReadOf}
use Rattle.shop_browse.specs.declared.attempted.Ask.{Ask}
use Rattle.shop_browse.specs.declared.driver.Next.{Next}
use Rattle.shop_browse.specs.Driver.{Fits, IsNext}
use Rattle.shop_browse.proofs.cited.Reads.{shows_page}
use Rattle.shop_order.specs.declared.stops.Stop.{Stop}
use Rattle.shop_order.specs.declared.stops.Stop.TheVariants.{Refused, Never}
use Rattle.shop_order.specs.Stops.{IsStop, IsStopped}

pub stop_weaker : (One Other : Tables → Type 0) (request : Request) (stop : Stop) → ((t : Tables) → Other t → One t) → IsStop One request stop → IsStop Other request stop
stop_weaker One Other request (Refused refusal) fewer is = λ t other. is t (fewer t other)
stop_weaker One Other request Never fewer is = λ t other. is t (fewer t other)

pub stopped_next : (follows : ℕ → List ReadOf → Type 0) (request : Request) (ask : Ask) (reads : List ReadOf) (draft : Draft) (stop : Stop) (next : Next) → key_asked request ≡ None → IsStop (λ t. Fits ask.index.now t reads) request stop → IsStopped stop draft next
    → (round : ℕ) → IsNext follows request ask round reads draft next
stopped_next follows request ask reads draft (Refused refusal) next none is done round =
    subst (IsNext follows request ask round reads draft) (sym done.0)
    (none, λ t fits. shows_page t request ask.draw draft (page_of refusal) (ap (λ o. refused_or o (page_for t request ask.draw)) (is t fits)) done.1)
stopped_next follows request ask reads draft Never next none is done round = subst (IsNext follows request ask round reads draft) (sym done) is
