-- A row that was read, and the labels of the items that it names, which are read behind it.
use Rattle.std.proofs.Common.{◌≡◌, ℕ, suc, List, [], ◌∷◌, ◌++◌, ◌-◌, length, take, drop, get_or, All, sym, ◌∙◌, ap, subst, arith}
use Rattle.std.proofs.lemmas.List.Elements.{All-nil, All-cons}
use Rattle.shop_model.specs.declared.requests.Request.{Request}
use Rattle.shop_model.specs.declared.tables.Tables.{Tables}
use Rattle.shop_model.specs.lists.Catalogues.{Catalogue}
use Rattle.shop_model.specs.rows.Sound.{Has, Sound}
use Rattle.shop_history.specs.declared.acts.Entry.{Entry}
use Rattle.shop_history.specs.declared.keys.Key.{Key}
use Rattle.shop_history.specs.declared.keys.Row.{Row}
use Rattle.shop_history.specs.Keys.{row_of}
use Rattle.shop_attempt.specs.declared.attempts.ReadOf.{ReadOf}
use Rattle.shop_attempt.specs.Reads.{AreTrue}
use Rattle.shop_browse.specs.declared.attempted.Ask.{Ask}
use Rattle.shop_browse.specs.declared.names.Names.{Names}
use Rattle.shop_browse.specs.Driver.{AsksFor}
use Rattle.shop_browse.specs.Footprints.{InFootprint}
use Rattle.shop_browse.specs.Names.{label_keys, FollowsNamed}
use Rattle.shop_browse.proofs.cited.Counting.{was_shown}
use Rattle.shop_browse.proofs.cited.Names.{HasNamed, named_on, named_may}
use Rattle.shop_browse.proofs.cited.Reads.{behind}

-- what is known behind the first of the reads
abbrev pub names_behind : Ask → List ReadOf → Names
names_behind ask reads = record { index = ask.index; labels = record { ref_ptr = ask.index.ref_ptr; now = take (length reads - 1) (drop 1 reads) } }

-- the first of the reads is that of the row, and those behind it are the labels
module _ (c : Catalogue) (named : Row → List ℕ) (k : Key) (round : ℕ) (reads : List ReadOf) (has : HasNamed c named k round reads) where
  pub first_is : (default : ReadOf) → get_or reads 0 default ≡ has.read
  first_is default = ap (λ (l : List ReadOf). get_or l 0 default) has.reads_are

  pub labels_behind : take (length reads - 1) (drop 1 reads) ≡ has.labels
  labels_behind = behind reads ∙ ap (drop 1) has.reads_are

-- the first round reads the row
pub asks_row : (named : Row → List ℕ) (k : Key) (request : Request) (ask : Ask) (round : ℕ) (reads : List ReadOf) → round ≡ 0 → FollowsNamed ask.index.now named k round reads
    → ((opening : Tables) (log : List Entry) → InFootprint opening log request ask.draw k)
    → AsksFor (FollowsNamed ask.index.now named k) request ask round reads (k ∷ [])
asks_row named k request ask round reads is follows about =
    let F : ℕ → List ReadOf → Type 0 = FollowsNamed ask.index.now named k in
    record {
      few = omega (arith, is);
      goes_on = λ more of.
          let none : reads ≡ [] = subst (λ r. F r reads) is follows in
          subst (λ r. F (suc r) (reads ++ more)) (sym is) (subst (λ (l : List ReadOf). F 1 (l ++ more)) (sym none) of);
      may = λ opening log were.
          let P : Key → Type 0 = InFootprint opening log request ask.draw in
          All-cons P k [] (about opening log) (All-nil P);
    }

-- the second reads the labels of the items that it names, which are there where it is shown
pub asks_labels : (named : Row → List ℕ) (k : Key) (request : Request) (ask : Ask) (round : ℕ) (reads : List ReadOf) (has : HasNamed ask.index.now named k round reads) → round ≡ 1
    → ((t : Tables) → Sound t → All (Has (length t.items)) (named (row_of t k)))
    → AsksFor (FollowsNamed ask.index.now named k) request ask round reads (label_keys ask.index.now (named has.read.row))
asks_labels named k request ask round reads has is there = record {
  few = omega (arith, is);
  goes_on = λ more of. named_on ask.index.now named k round reads more has is of;
  may = λ opening log were.
      named_may ask.index.now opening log request ask.draw named k has.read has.key_is there were.sound
      (was_shown opening log has.read has.labels (subst (AreTrue opening log) has.reads_are were.are));
}
