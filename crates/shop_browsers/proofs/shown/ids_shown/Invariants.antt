use Rattle.std.proofs.Common.{◌≡◌, ℕ, List, map, length}
use Rattle.std.specs.List.{flat_map}
use Rattle.shop_text.specs.Escape.{escape}
use Rattle.shop_model.specs.declared.page.Page.{Page}
use Rattle.shop_browsers.specs.Scanned.{links_in, with_pairs}
use Rattle.shop_browsers.specs.Shown.{Shows, pairs_in, ids_in}
use Rattle.shop_browsers.proofs.shown.ids_shown.Given as goal

abbrev pub invariant-loop-after : goal.invariant-loop-after
invariant-loop-after l =
    (p : Page) → Shows l.shown p → (left : List (List ℕ)) × (links_in l.rest ≡ map escape left) × (with_pairs l.ids (flat_map pairs_in left) ≡ ids_in p)

abbrev pub decreases-loop-after : goal.decreases-loop-after
decreases-loop-after l = length l.rest
