-- The units of items that rise, once lines are added to them.
use Rattle.std.proofs.Common.{◌≡◌, ◌≢◌, ℕ, suc, ◌+◌, ◌^◌, ◌<◌, ◌≤◌, ◌==◌, Bool, true, false, List, [], ◌∷◌, ◌++◌, length, map, get_or, set, nat_lt, refl, ap, sym, ◌∙◌, subst, arith, if◌then◌else◌}
use Rattle.std.specs.List.{prefix_len, insert}
use Rattle.std.proofs.lemmas.Bool.{eq-eqb, ne_eqb, eqb-true, eqb-false, ltb-true, ltb-false}
use Rattle.std.proofs.lemmas.List.Sums.{sum_by-cons, sum_by-append}
use Rattle.shop_model.specs.lists.Related.{put_once, ascending, units_in_lines, totals_of}
use Rattle.shop_window.specs.Totals.{add_to, add_all, units_of}
use Rattle.shop_window.proofs.Adding.{units_cons}
use Rattle.shop_window.proofs.Placing.{put_behind, put_same, put_before}

-- numbers that rise, from above a number

abbrev Above : ℕ → List ℕ → Type 0
Above x [] = Unit {0}
Above x (y ∷ ys) = (x < y) × Above x ys

abbrev IsRising : List ℕ → Type 0
IsRising [] = Unit {0}
IsRising (y ∷ ys) = Above y ys × IsRising ys

abbrev IsMissing : ℕ → List ℕ → Type 0
IsMissing x [] = Unit {0}
IsMissing x (y ∷ ys) = (x ≢ y) × IsMissing x ys

above_less : (x y : ℕ) (zs : List ℕ) → x < y → Above y zs → Above x zs
above_less x y [] low above = tt
above_less x y (z ∷ zs) low above = (omega (arith, low, above.0), above_less x y zs low above.1)

above_missing : (x : ℕ) (ys : List ℕ) → Above x ys → IsMissing x ys
above_missing x [] above = tt
above_missing x (y ∷ ys) above = (λ e. absurd (omega (arith, e, above.0)), above_missing x ys above.1)

above_cons : (lt eq : Bool) (x y z : ℕ) (zs : List ℕ) → nat_lt z y ≡ lt → (y == z) ≡ eq → x < y → Above x (z ∷ zs)
    → (Above x zs → Above x (put_once y zs)) → Above x (put_once y (z ∷ zs))
above_cons true eq x y z zs is same low above rest = rw (put_behind y z zs is) (above.0, rest above.1)
above_cons false true x y z zs is same low above rest = rw (put_same y z zs is same) above
above_cons false false x y z zs is same low above rest = rw (put_before y z zs is same) (low, above)

above_put : (x y : ℕ) (zs : List ℕ) → x < y → Above x zs → Above x (put_once y zs)
unfolding put_once
above_put x y [] low above = (low, tt)
above_put x y (z ∷ zs) low above = above_cons (nat_lt z y) (y == z) x y z zs refl refl low above (above_put x y zs low)

rising_cons : (lt eq : Bool) (x y : ℕ) (ys : List ℕ) → nat_lt y x ≡ lt → (x == y) ≡ eq → IsRising (y ∷ ys)
    → (IsRising ys → IsRising (put_once x ys)) → IsRising (put_once x (y ∷ ys))
rising_cons true eq x y ys is same rising rest =
    rw (put_behind x y ys is) (above_put y x ys (ltb-true y x is) rising.0, rest rising.1)
rising_cons false true x y ys is same rising rest = rw (put_same x y ys is same) rising
rising_cons false false x y ys is same rising rest =
    let apart = eqb-false x y same in
    let low : x < y = omega (arith, ltb-false y x is, apart) in
    rw (put_before x y ys is same) ((low, above_less x y ys low rising.0), rising)

rising_put : (x : ℕ) (ys : List ℕ) → IsRising ys → IsRising (put_once x ys)
unfolding put_once
rising_put x [] rising = (tt, tt)
rising_put x (y ∷ ys) rising = rising_cons (nat_lt y x) (x == y) x y ys refl refl rising (rising_put x ys)

rising_ascending : (xs : List ℕ) → IsRising (ascending xs)
unfolding ascending
rising_ascending [] = tt
rising_ascending (x ∷ xs) = rising_put x (ascending xs) (rising_ascending xs)

missing_cons : (lt eq : Bool) (x y z : ℕ) (zs : List ℕ) → nat_lt z y ≡ lt → (y == z) ≡ eq → IsMissing x (put_once y (z ∷ zs))
    → (IsMissing x (put_once y zs) → IsMissing x (y ∷ zs)) → IsMissing x (y ∷ z ∷ zs)
missing_cons true eq x y z zs is same missing rest =
    let behind = rw (put_behind y z zs is) at missing in
    let others = rest behind.1 in (others.0, (behind.0, others.1))
missing_cons false true x y z zs is same missing rest =
    let here = rw (put_same y z zs is same) at missing in
    ((λ e. here.0 (e ∙ eqb-true y z same)), (here.0, here.1))
missing_cons false false x y z zs is same missing rest = rw (put_before y z zs is same) at missing

missing_put : (x y : ℕ) (zs : List ℕ) → IsMissing x (put_once y zs) → IsMissing x (y ∷ zs)
unfolding put_once
missing_put x y [] missing = missing
missing_put x y (z ∷ zs) missing = missing_cons (nat_lt z y) (y == z) x y z zs refl refl missing (missing_put x y zs)

missing_ascending : (x : ℕ) (ys : List ℕ) → IsMissing x (ascending ys) → IsMissing x ys
unfolding ascending
missing_ascending x [] missing = tt
missing_ascending x (y ∷ ys) missing =
    let others = missing_put x y (ascending ys) missing in (others.0, missing_ascending x ys others.1)

-- an item that no line has
none_of : (item : ℕ) (lines : List (ℕ × ℕ)) → IsMissing item (map (λ l. l.0) lines) → units_in_lines item lines ≡ 0
none_of item [] missing = refl
none_of item (line ∷ lines) missing =
    let more = units_cons item line lines in
    let other : (line.0 == item) ≡ false = ne_eqb line.0 item (λ e. missing.0 (sym e)) in
    let rest = none_of item lines missing.1 in
    more ∙ rw other (omega (arith, rest))

-- one line more

add_behind : (line total : ℕ × ℕ) (totals : List (ℕ × ℕ)) → nat_lt total.0 line.0 ≡ true → add_to line (total ∷ totals) ≡ total ∷ add_to line totals
unfolding add_to
add_behind line total totals is = rw is refl

add_same : (line total : ℕ × ℕ) (totals : List (ℕ × ℕ)) → nat_lt total.0 line.0 ≡ false → (line.0 == total.0) ≡ true
    → add_to line (total ∷ totals) ≡ (total.0, total.1 + line.1) ∷ totals
unfolding add_to
add_same line total totals is same = rw (is, same) refl

add_before : (line total : ℕ × ℕ) (totals : List (ℕ × ℕ)) → nat_lt total.0 line.0 ≡ false → (line.0 == total.0) ≡ false
    → add_to line (total ∷ totals) ≡ line ∷ total ∷ totals
unfolding add_to
add_before line total totals is other = rw (is, other) refl

abbrev pair : (ℕ → ℕ) → ℕ → ℕ × ℕ
pair units item = (item, units item)

-- units of an item are those before, and a quantity where it is this item
abbrev Gains : ℕ → ℕ → (ℕ → ℕ) → (ℕ → ℕ) → Type 0
Gains x quantity before now = (item : ℕ) → now item ≡ (if x == item then quantity else 0) + before item

gains_other : (x quantity item : ℕ) (before now : ℕ → ℕ) → Gains x quantity before now → x ≢ item → now item ≡ before item
gains_other x quantity item before now gains other = gains item ∙ rw (ne_eqb x item other) (omega arith)

gains_here : (x quantity item : ℕ) (before now : ℕ → ℕ) → Gains x quantity before now → x ≡ item → now item ≡ before item + quantity
gains_here x quantity item before now gains same = gains item ∙ rw (eq-eqb x item same) (omega arith)

map_above : (x quantity : ℕ) (before now : ℕ → ℕ) → Gains x quantity before now → (ys : List ℕ) → Above x ys → map (pair now) ys ≡ map (pair before) ys
map_above x quantity before now gains [] above = refl
map_above x quantity before now gains (y ∷ ys) above =
    ap (λ k. (y, k) ∷ map (pair now) ys) (gains_other x quantity y before now gains (λ e. absurd (omega (arith, e, above.0))))
    ∙ ap (λ ps. (y, before y) ∷ ps) (map_above x quantity before now gains ys above.1)

map_cons : (lt eq : Bool) (x quantity : ℕ) (before now : ℕ → ℕ) → Gains x quantity before now → (y : ℕ) (ys : List ℕ)
    → nat_lt y x ≡ lt → (x == y) ≡ eq → IsRising (y ∷ ys) → (IsMissing x (y ∷ ys) → before x ≡ 0)
    → ((IsMissing x ys → before x ≡ 0) → map (pair now) (put_once x ys) ≡ add_to (x, quantity) (map (pair before) ys))
    → map (pair now) (put_once x (y ∷ ys)) ≡ add_to (x, quantity) (map (pair before) (y ∷ ys))
map_cons true eq x quantity before now gains y ys is same rising none rest =
    let apart : x ≢ y = λ e. absurd (omega (arith, e, ltb-true y x is)) in
    rw (put_behind x y ys is, add_behind (x, quantity) (pair before y) (map (pair before) ys) is)
    (ap (λ k. (y, k) ∷ map (pair now) (put_once x ys)) (gains_other x quantity y before now gains apart)
    ∙ ap (λ ps. (y, before y) ∷ ps) (rest (λ missing. none (apart, missing))))
map_cons false true x quantity before now gains y ys is same rising none rest =
    let here : x ≡ y = eqb-true x y same in
    rw (put_same x y ys is same, add_same (x, quantity) (pair before y) (map (pair before) ys) is same)
    (ap (λ k. (y, k) ∷ map (pair now) ys) (gains_here x quantity y before now gains here)
    ∙ ap (λ ps. (y, before y + quantity) ∷ ps) (map_above x quantity before now gains ys (subst (λ k. Above k ys) (sym here) rising.0)))
map_cons false false x quantity before now gains y ys is same rising none rest =
    let apart = eqb-false x y same in
    let low : x < y = omega (arith, ltb-false y x is, apart) in
    let above : Above x (y ∷ ys) = (low, above_less x y ys low rising.0) in
    let zero = none (above_missing x (y ∷ ys) above) in
    let one : now x ≡ quantity = omega (arith, gains_here x quantity x before now gains refl, zero) in
    rw (put_before x y ys is same, add_before (x, quantity) (pair before y) (map (pair before) ys) is same)
    (ap (λ k. (x, k) ∷ map (pair now) (y ∷ ys)) one
    ∙ ap (λ ps. (x, quantity) ∷ ps) (map_above x quantity before now gains (y ∷ ys) above))

map_put : (x quantity : ℕ) (before now : ℕ → ℕ) → Gains x quantity before now → (ys : List ℕ) → IsRising ys → (IsMissing x ys → before x ≡ 0)
    → map (pair now) (put_once x ys) ≡ add_to (x, quantity) (map (pair before) ys)
unfolding put_once add_to
map_put x quantity before now gains [] rising none =
    let zero = none tt in
    ap (λ k. (x, k) ∷ []) (omega (arith, gains_here x quantity x before now gains refl, zero))
map_put x quantity before now gains (y ∷ ys) rising none =
    map_cons (nat_lt y x) (x == y) x quantity before now gains y ys refl refl rising none (map_put x quantity before now gains ys rising.1)

totals_cons : (line : ℕ × ℕ) (lines : List (ℕ × ℕ)) → totals_of (line ∷ lines) ≡ add_to line (totals_of lines)
unfolding ascending
totals_cons line lines =
    map_put line.0 line.1 (λ item. units_in_lines item lines) (λ item. units_in_lines item (line ∷ lines))
    (λ item. units_cons item line lines) (ascending (map (λ l. l.0) lines)) (rising_ascending (map (λ l. l.0) lines))
    (λ missing. none_of line.0 lines (missing_ascending line.0 (map (λ l. l.0) lines) missing))

-- lines have their totals once all are added
pub totals_added : (lines : List (ℕ × ℕ)) → totals_of lines ≡ add_all lines []
unfolding ascending add_all
totals_added [] = refl
totals_added (line ∷ lines) = totals_cons line lines ∙ ap (add_to line) (totals_added lines)

pub add_all_append : (more lines totals : List (ℕ × ℕ)) → add_all (more ++ lines) totals ≡ add_all more (add_all lines totals)
unfolding add_all
add_all_append [] lines totals = refl
add_all_append (line ∷ more) lines totals = ap (add_to line) (add_all_append more lines totals)

-- all units, once lines are added

units_add_cons : (lt eq : Bool) (line total : ℕ × ℕ) (totals : List (ℕ × ℕ)) → nat_lt total.0 line.0 ≡ lt → (line.0 == total.0) ≡ eq
    → units_of (add_to line totals) ≡ units_of totals + line.1 → units_of (add_to line (total ∷ totals)) ≡ units_of (total ∷ totals) + line.1
units_add_cons true eq line total totals is same rest =
    rw (add_behind line total totals is) (omega (arith, rest, sum_by-cons (λ (l : ℕ × ℕ). l.1) total (add_to line totals), sum_by-cons (λ (l : ℕ × ℕ). l.1) total totals))
units_add_cons false true line total totals is same rest =
    rw (add_same line total totals is same) (omega (arith, sum_by-cons (λ (l : ℕ × ℕ). l.1) (total.0, total.1 + line.1) totals, sum_by-cons (λ (l : ℕ × ℕ). l.1) total totals))
units_add_cons false false line total totals is same rest =
    rw (add_before line total totals is same) (omega (arith, sum_by-cons (λ (l : ℕ × ℕ). l.1) line (total ∷ totals)))

units_add_to : (line : ℕ × ℕ) (totals : List (ℕ × ℕ)) → units_of (add_to line totals) ≡ units_of totals + line.1
unfolding add_to
units_add_to line [] = omega arith
units_add_to line (total ∷ totals) = units_add_cons (nat_lt total.0 line.0) (line.0 == total.0) line total totals refl refl (units_add_to line totals)

pub units_add_all : (lines totals : List (ℕ × ℕ)) → units_of (add_all lines totals) ≡ units_of totals + units_of lines
unfolding add_all
units_add_all [] totals = omega arith
units_add_all (line ∷ lines) totals =
    omega (arith, units_add_to line (add_all lines totals), units_add_all lines totals, sum_by-cons (λ (l : ℕ × ℕ). l.1) line lines)

-- there is room for lines that are among those that are still to be added
pub totals_room : (rest lines all totals : List (ℕ × ℕ)) → add_all (rest ++ lines) totals ≡ totals_of all → units_of all < 2 ^ 64
    → units_of totals + units_of lines < 2 ^ 64
totals_room rest lines all totals is fits =
    let left = units_add_all (rest ++ lines) totals in
    let right = units_add_all all [] in
    let same : units_of (add_all (rest ++ lines) totals) ≡ units_of (add_all all []) = ap units_of (is ∙ totals_added all) in
    let parts = sum_by-append (λ (l : ℕ × ℕ). l.1) rest lines in
    omega (arith, left, right, same, parts, fits)

-- a line at the place of its item

abbrev pub below : ℕ → List (ℕ × ℕ) → ℕ
below item totals = prefix_len (λ t. nat_lt t.0 item) totals

below_more : (item : ℕ) (total : ℕ × ℕ) (totals : List (ℕ × ℕ)) → nat_lt total.0 item ≡ true → below item (total ∷ totals) ≡ suc (below item totals)
below_more item total totals is = rw is (omega arith)

below_none : (item : ℕ) (total : ℕ × ℕ) (totals : List (ℕ × ℕ)) → nat_lt total.0 item ≡ false → below item (total ∷ totals) ≡ 0
below_none item total totals is = rw is refl

within_cons : (b : Bool) (item : ℕ) (total : ℕ × ℕ) (totals : List (ℕ × ℕ)) → nat_lt total.0 item ≡ b
    → below item totals ≤ length totals → below item (total ∷ totals) ≤ length (total ∷ totals)
within_cons true item total totals is rest = rw (below_more item total totals is) (omega arith)
within_cons false item total totals is rest = rw (below_none item total totals is) (omega arith)

pub below_within : (item : ℕ) (totals : List (ℕ × ℕ)) → below item totals ≤ length totals
below_within item [] = omega arith
below_within item (total ∷ totals) = within_cons (nat_lt total.0 item) item total totals refl (below_within item totals)

abbrev gained : ℕ × ℕ → ℕ × ℕ → ℕ × ℕ
gained line total = (total.0, total.1 + line.1)

present_cons : (b : Bool) (line d total : ℕ × ℕ) (totals : List (ℕ × ℕ)) → nat_lt total.0 line.0 ≡ b
    → (below line.0 totals < length totals → (get_or totals (below line.0 totals) d).0 ≡ line.0
    → set totals (below line.0 totals) (gained line (get_or totals (below line.0 totals) d)) ≡ add_to line totals)
    → below line.0 (total ∷ totals) < length (total ∷ totals) → (get_or (total ∷ totals) (below line.0 (total ∷ totals)) d).0 ≡ line.0
    → set (total ∷ totals) (below line.0 (total ∷ totals)) (gained line (get_or (total ∷ totals) (below line.0 (total ∷ totals)) d)) ≡ add_to line (total ∷ totals)
present_cons true line d total totals is rest within here =
    let at = below_more line.0 total totals is in
    let there : (get_or (total ∷ totals) (suc (below line.0 totals)) d).0 ≡ line.0 = subst (λ k. (get_or (total ∷ totals) k d).0 ≡ line.0) at here in
    rw (at, add_behind line total totals is) (ap (λ ts. total ∷ ts) (rest (omega (arith, at)) there))
present_cons false line d total totals is rest within here =
    let at = below_none line.0 total totals is in
    let same : total.0 ≡ line.0 = subst (λ k. (get_or (total ∷ totals) k d).0 ≡ line.0) at here in
    rw (at, add_same line total totals is (eq-eqb line.0 total.0 (sym same))) refl

-- an item that is there
pub add_present : (line d : ℕ × ℕ) (totals : List (ℕ × ℕ)) → below line.0 totals < length totals → (get_or totals (below line.0 totals) d).0 ≡ line.0
    → set totals (below line.0 totals) (gained line (get_or totals (below line.0 totals) d)) ≡ add_to line totals
add_present line d [] within here = absurd (omega arith)
add_present line d (total ∷ totals) within here = present_cons (nat_lt total.0 line.0) line d total totals refl (add_present line d totals) within here

absent_cons : (b : Bool) (line d total : ℕ × ℕ) (totals : List (ℕ × ℕ)) → nat_lt total.0 line.0 ≡ b
    → ((below line.0 totals < length totals → (get_or totals (below line.0 totals) d).0 ≢ line.0) → insert totals (below line.0 totals) line ≡ add_to line totals)
    → (below line.0 (total ∷ totals) < length (total ∷ totals) → (get_or (total ∷ totals) (below line.0 (total ∷ totals)) d).0 ≢ line.0)
    → insert (total ∷ totals) (below line.0 (total ∷ totals)) line ≡ add_to line (total ∷ totals)
absent_cons true line d total totals is rest apart =
    let at = below_more line.0 total totals is in
    let other = subst (λ k. k < length (total ∷ totals) → (get_or (total ∷ totals) k d).0 ≢ line.0) at apart in
    rw (at, add_behind line total totals is) (ap (λ ts. total ∷ ts) (rest (λ low. other (omega (arith, low)))))
absent_cons false line d total totals is rest apart =
    let at = below_none line.0 total totals is in
    let other = subst (λ k. k < length (total ∷ totals) → (get_or (total ∷ totals) k d).0 ≢ line.0) at apart in
    rw (at, add_before line total totals is (ne_eqb line.0 total.0 (λ e. other (omega arith) (sym e)))) refl

-- an item that is not there
pub add_absent : (line d : ℕ × ℕ) (totals : List (ℕ × ℕ)) → (below line.0 totals < length totals → (get_or totals (below line.0 totals) d).0 ≢ line.0)
    → insert totals (below line.0 totals) line ≡ add_to line totals
unfolding add_to
add_absent line d [] apart = refl
add_absent line d (total ∷ totals) apart = absent_cons (nat_lt total.0 line.0) line d total totals refl (add_absent line d totals) apart
