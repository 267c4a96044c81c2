-- The lists of a subject: that their rows may be read, and what their lines show.
use Rattle.std.proofs.Common.{◌≡◌, ℕ, List, length, All, Some, inl, refl}
use Rattle.shop_model.specs.declared.tables.Tables.{Tables}
use Rattle.shop_model.specs.pages.Show.{show}
use Rattle.shop_model.specs.rows.Sound.{Has, Sound}
use Rattle.shop_history.specs.declared.acts.Entry.{Entry}
use Rattle.shop_history.specs.Keys.{row_of}
use Rattle.shop_cache.specs.declared.keys.ListKey.TheVariants as list_key
use Rattle.shop_cache.specs.declared.lines.ListLine.{ListLine}
use Rattle.shop_browse.specs.declared.subject_lists.SubjectList.{SubjectList}
use Rattle.shop_browse.specs.declared.subject_lists.SubjectList.TheVariants.{New, Best}
use Rattle.shop_browse.specs.Footprints.{InFootprint}
use Rattle.shop_browse.specs.Lines.{items_in}
use Rattle.shop_browse.specs.Lists.{AreLines, AreListed}
use Rattle.shop_browse.specs.SubjectLists.{request_of, key_of, page_of}
use Rattle.shop_browse.proofs.ListedItems.{newest_within, best_within}
use Rattle.shop_browse.proofs.cited.Lists.{listed_shown}

pub may_read : (list : SubjectList) (opening : Tables) (log : List Entry) (draw : ℕ) → InFootprint opening log (request_of list) draw (key_of list)
may_read (New asked) opening log draw = inl refl
may_read (Best asked) opening log draw = inl refl

pub listed_by : (list : SubjectList) (t : Tables) (lines : List ListLine) → AreLines t (items_in (row_of t (key_of list))) lines → AreListed t (request_of list) lines
listed_by (New asked) t lines are = record { key = list_key.New asked.now.subject; asked = refl; are = are }
listed_by (Best asked) t lines are = record { key = list_key.Best asked.now.subject; asked = refl; are = are }

pub page_shown : (list : SubjectList) (t : Tables) (draw : ℕ) (lines : List ListLine) → AreListed t (request_of list) lines → show t (request_of list) draw ≡ Some (page_of list lines)
page_shown (New asked) t draw lines listed = listed_shown t (request_of (New asked)) draw lines listed
page_shown (Best asked) t draw lines listed = listed_shown t (request_of (Best asked)) draw lines listed

pub all_within : (list : SubjectList) (t : Tables) → Sound t → All (Has (length t.items)) (items_in (row_of t (key_of list)))
all_within (New asked) t sound = newest_within t sound asked.now.subject
all_within (Best asked) t sound = best_within t sound asked.now.subject
