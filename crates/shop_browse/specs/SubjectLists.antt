-- The lists of a subject, the newest items and the best sold ones, in one form.
use Rattle.std.specs.Prelude.{ℕ, List}
use Rattle.shop_model.specs.declared.page.Page.{Page}
use Rattle.shop_model.specs.declared.requests.Request.{Request}
use Rattle.shop_model.specs.declared.requests.Request.TheVariants.{NewProducts, BestSellers}
use Rattle.shop_history.specs.declared.keys.Key.{Key}
use Rattle.shop_history.specs.declared.keys.Key.TheVariants.{NewIn, BestIn}
use Rattle.shop_cache.specs.declared.lines.ListLine.{ListLine}
use Rattle.shop_attempt.specs.declared.attempts.ReadOf.{ReadOf}
use Rattle.shop_browse.specs.declared.attempted.Ask.{Ask}
use Rattle.shop_browse.specs.declared.subject_lists.SubjectList.{SubjectList}
use Rattle.shop_browse.specs.declared.subject_lists.SubjectList.TheVariants.{New, Best}
use Rattle.shop_browse.specs.Lines.{items_in}
use Rattle.shop_browse.specs.Lists.{new_page, best_page}
use Rattle.shop_browse.specs.Names.{FollowsNamed}

abbrev pub request_of : SubjectList → Request
request_of (New asked) = NewProducts asked.now
request_of (Best asked) = BestSellers asked.now

-- the key whose row is the list
abbrev pub key_of : SubjectList → Key
key_of (New asked) = NewIn asked.now.subject
key_of (Best asked) = BestIn asked.now.subject

-- its page, by its lines
abbrev pub page_of : SubjectList → List ListLine → Page
page_of (New asked) = new_page asked.now
page_of (Best asked) = best_page asked.now

abbrev pub follows : SubjectList → Ask → ℕ → List ReadOf → Type 0
follows list ask = FollowsNamed ask.index.now items_in (key_of list)
