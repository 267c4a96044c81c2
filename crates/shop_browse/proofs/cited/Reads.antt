-- The reads of a request by their keys, and the page that a draft shows of it.
use Rattle.std.proofs.Common.{◌≡◌, ℕ, zero, suc, List, [], ◌∷◌, ◌-◌, ◌≤◌, length, take, drop, get_or, Some, refl, sym, ap, arith}
use Rattle.std.proofs.lemmas.List.{length-drop, take_all}
use Rattle.shop_model.specs.declared.page.Page.{Page}
use Rattle.shop_model.specs.declared.requests.Request.{Request}
use Rattle.shop_model.specs.declared.tables.Tables.{Tables}
use Rattle.shop_model.specs.pages.Show.{show}
use Rattle.shop_history.specs.declared.keys.Key.{Key}
use Rattle.shop_draft.specs.declared.draft.Draft.{Draft}
use Rattle.shop_draft.specs.Pages.{Shows}
use Rattle.shop_attempt.specs.declared.attempts.ReadOf.{ReadOf}
use Rattle.shop_browse.specs.Attempts.{IsShownBy}
use Rattle.shop_browse.specs.Driver.{keys_of, FollowsOne}

pub one_read : (k : Key) (reads : List ReadOf) (read : ReadOf) → keys_of reads ≡ k ∷ [] → read ≡ get_or reads 0 read → (reads ≡ read ∷ []) × (read.key ≡ k)
one_read k [] read are at = absurd cc
one_read k (one ∷ []) read are at = (ap (λ (r : ReadOf). r ∷ []) (sym at), cc)
one_read k (one ∷ other ∷ reads) read are at = absurd cc

-- after the first round the row was read
pub one_follows : (k : Key) (round : ℕ) (reads : List ReadOf) → (round ≡ 0 → ⊥) → FollowsOne k round reads → keys_of reads ≡ k ∷ []
one_follows k zero reads some follows = absurd (some refl)
one_follows k (suc round) reads some follows = follows

-- the reads behind the first so many
pub rest_of : (n : ℕ) (reads : List ReadOf) → take (length reads - n) (drop n reads) ≡ drop n reads
rest_of n reads = let many : length (drop n reads) ≤ length reads - n = omega (arith, length-drop n reads) in take_all (length reads - n) (drop n reads) many

pub behind : (reads : List ReadOf) → take (length reads - 1) (drop 1 reads) ≡ drop 1 reads
behind reads = rest_of 1 reads

-- the page of a draft is what a request shows
pub shows_page : (t : Tables) (request : Request) (draw : ℕ) (draft : Draft) (page : Page) → show t request draw ≡ Some page → Shows draft (λ drawn. page) → IsShownBy t request draw draft
shows_page t request draw draft page shows written = record { page = page; shows = shows; written = written }
