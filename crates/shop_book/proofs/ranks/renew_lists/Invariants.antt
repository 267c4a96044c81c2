use Rattle.std.proofs.Common.{◌≡◌, ℕ, List, ◌++◌, length, map, take}
use Rattle.shop_model.specs.declared.subject.Subject.{Subject}
use Rattle.shop_model.specs.rows.Subjects.{subjects}
use Rattle.shop_history.specs.declared.keys.Key.{Key}
use Rattle.shop_ranking.specs.StandingBest.{standing_best}
use Rattle.shop_book.specs.Sales.{Renews, subject_in}
use Rattle.shop_book.specs.Stored.{stored, MorePlaces}
use Rattle.shop_book.proofs.ranks.renew_lists.Given as goal

-- the lists of the subjects of the first lines' items are written anew
abbrev pub invariant-loop-line : goal.invariant-loop-line
invariant-loop-line l = record {
  size : length l.lists.items ≡ length subjects;
  places : MorePlaces l.fn.versions l.versions;
  renewed : (was : Subject → List ℕ) (old : Key → ℕ) (done : List Subject) → Renews was (standing_best l.best) l.number done l.fn.lists.items old (stored l.fn.versions)
      → Renews was (standing_best l.best) l.number (done ++ map (subject_in l.items) (map (λ r. r.item) (take l.line-index l.line-items))) l.lists.items old (stored l.versions);
}
