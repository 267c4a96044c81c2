use Rattle.shop_ranking.proofs.NewLists.{AreNewTo}
use Rattle.shop_ranking.proofs.subjects.new_lists.Given as goal

abbrev pub invariant-loop-subject : goal.invariant-loop-subject
invariant-loop-subject g l = AreNewTo l.subject-index l.subjects l.lists.items
