use Rattle.std.proofs.Common.{◌≡◌, ℕ, zero, suc, ◌-◌, ◌<◌, List, [], ◌∷◌, map, Option, Some, None, slice_get, slice_set, sym, ◌∙◌, ap, subst, arith}
use Rattle.std.proofs.lemmas.Bool.{cond-false, ne_eqb}
use Rattle.std.specs.Prelude.{Result, Ok, Err, IfOk}
use Rattle.std.specs.Result.{result_ok}
use Rattle.shop_history.proofs.cited.Shown.{cart_found}
use Rattle.shop_model.specs.declared.tables.Tables.{Tables}
use Rattle.shop_model.specs.rows.Lookups.{row_numbered}
use Rattle.shop_model.specs.rows.Rows.{CartRow}
use Rattle.shop_model.specs.rows.Sound.{Sound, Runs}
use Rattle.shop_history.specs.declared.acts.Act.{Act}
use Rattle.shop_history.specs.declared.keys.Key.{Key}
use Rattle.shop_history.specs.declared.keys.Key.TheVariants as key
use Rattle.shop_history.specs.declared.keys.Row.TheVariants as row
use Rattle.shop_history.specs.Keys.{row_of}
use Rattle.shop_history.proofs.cited.Places.{IsThere, is_there, id_numbered}
use Rattle.shop_attempt.specs.declared.attempts.Attempt.{Attempt}
use Rattle.shop_attempt.specs.declared.attempts.ReadOf.{ReadOf}
use Rattle.shop_attempt.specs.declared.attempts.Write.{Write}
use Rattle.shop_attempt.specs.declared.attempts.Write.TheVariants.{PutCart}
use Rattle.shop_attempt.specs.Faithful.{Makes, MakesAct, Faithful}
use Rattle.shop_attempt.specs.Reads.{Agrees, IsReadOf}
use Rattle.shop_attempt.specs.Seats.{Seat, IsReadAt, Follows}
use Rattle.shop_attempt.specs.Writes.{put_row, written}
use Rattle.shop_attempt.proofs.cited.Looks.{read_true}
use Rattle.rival_tests.proofs.Rivals.{faithful_later}
use Rattle.rival_tests.proofs.cancelling.put_cancelling.Goals as goal

-- a row that is changed and put back

put_back : {A : Type 0} (xs : List A) (i : ℕ) (x y : A) → slice_get xs i ≡ Some x → slice_set (slice_set xs i y) i x ≡ xs
put_back [] i x y at = absurd cc
put_back (z ∷ xs) zero x y at = cc
put_back (z ∷ xs) (suc i) x y at = ap (λ zs. z ∷ zs) (put_back xs i x y at)

put_there : {A : Type 0} (rows : List A) (id : ℕ) (make : ℕ → A) → 0 < id → put_row rows id make ≡ slice_set rows (id - 1) (make id)
put_there rows id make above = cond-false _ _ _ (ne_eqb id 0 (λ e. omega (arith, e, above)))

-- a cart is emptied and put back, in front of other writes

abbrev emptied : CartRow → CartRow
emptied cart = record cart { lines = [] }

abbrev beside : CartRow → List Write → List Write
beside cart writes = PutCart (emptied cart) ∷ PutCart cart ∷ writes

carts_same : (carts : List CartRow) (id : ℕ) (cart : CartRow) → Runs (map (λ c. c.id) carts) → row_numbered carts id ≡ Some cart
    → put_row (put_row carts cart.id (λ n. record (emptied cart) { id = n })) cart.id (λ n. record cart { id = n }) ≡ carts
carts_same carts id cart runs is =
    let there : IsThere carts id cart = is_there carts id cart is in
    let same : cart.id ≡ id = id_numbered (λ (c : CartRow). c.id) carts id cart runs is in
    let above : 0 < cart.id = omega (arith, same, there.above) in
    put_there (put_row carts cart.id (λ n. record (emptied cart) { id = n })) cart.id (λ n. record cart { id = n }) above
    ∙ ap (λ (cs : List CartRow). slice_set cs (cart.id - 1) cart) (put_there carts cart.id (λ n. record (emptied cart) { id = n }) above)
    ∙ put_back carts (cart.id - 1) cart (emptied cart) (subst (λ n. slice_get carts (n - 1) ≡ Some cart) (sym same) there.at)

-- that leaves sound tables which show the cart as they are
tables_same : (t : Tables) (stamp id : ℕ) (cart : CartRow) (writes : List Write) → Sound t → row_of t (key.Cart id) ≡ row.Cart cart
    → written t stamp (beside cart writes) ≡ written t stamp writes
tables_same t stamp id cart writes sound shows =
    ap (λ (carts : List CartRow). written (record t { carts = carts }) stamp writes)
    (carts_same t.carts id cart sound.ids.carts (cart_found (row_numbered t.carts id) cart shows))

-- so the writes make what they made, where the cart is read too
makes_same : (opening : Tables) (reads : List ReadOf) (read : ReadOf) (id : ℕ) (cart : CartRow) (act : Option Act) (writes : List Write) → read.key ≡ key.Cart id → read.row ≡ row.Cart cart
    → MakesAct opening reads act (Some writes) → MakesAct opening (read ∷ reads) act (Some (beside cart writes))
makes_same opening reads read id cart None writes key_is row_is makes = makes
makes_same opening reads read id cart (Some act) writes key_is row_is makes = λ t stamp agrees bound.
    let without : Agrees opening t reads = record { sound = agrees.sound; room_for = agrees.room_for; catalogue = agrees.catalogue; shows = agrees.shows.1 } in
    let made : Makes t stamp act writes = makes t stamp without bound in
    record {
      passes = made.passes;
      tables_are = tables_same t stamp id cart writes agrees.sound (ap (row_of t) (sym key_is) ∙ agrees.shows.0 ∙ row_is) ∙ made.tables_are;
    }

faithful_beside : (old now : Seat) (attempt : Attempt) (id : ℕ) (read : ReadOf) (cart : CartRow) (writes : List Write) → Follows old now → Faithful old.opening old.seen attempt
    → IsReadOf now (key.Cart id) read → read.row ≡ row.Cart cart → attempt.writes ≡ Some writes
    → Faithful now.opening now.seen (record attempt { reads = read ∷ attempt.reads; writes = Some (beside cart writes) })
faithful_beside old now attempt id read cart writes follows was is row_is own =
    let later : Faithful now.opening now.seen attempt = faithful_later old now attempt follows was in
    let at : IsReadAt now read.key (read.row, read.version) = subst (λ (key : Key). IsReadAt now key (read.row, read.version)) (sym is.key_is) is.is in
    record {
      reads_are = (read_true now read.key read.row read.version at, later.reads_are);
      makes = makes_same now.opening attempt.reads read id cart attempt.act writes is.key_is row_is (subst (MakesAct now.opening attempt.reads attempt.act) own later.makes);
    }

-- what holds of a value that is there holds of the one that `ok` takes out
of_ok : {T E : Type 0} (r : Result T E) (P : T → Type 0) (x : T) → Some x ≡ result_ok r → IfOk r P → P x
of_ok (Ok y) P x is holds =
    let same : y ≡ x = cc in
    subst P same holds
of_ok (Err e) P x is holds = absurd cc

pub returns-clause-faithful : goal.returns-clause-faithful
returns-clause-faithful g c =
    let writes : c.in_ok-ok.field-0 ≡ beside c.in_ok-cart.cart c.in_ok-writes.writes
    = of_ok c.cancelling.result (λ longer. longer ≡ beside c.in_ok-cart.cart c.in_ok-writes.writes) c.in_ok-ok.field-0 c.in_ok-ok.ensures.value c.cancelling.ensures in
    let reads : c.in_ok-attempt.field-0 ≡ c.in_ok-read.read ∷ c.replace-reads.result
    = of_ok c.with_first.result (λ longer. longer ≡ c.in_ok-read.read ∷ c.replace-reads.result) c.in_ok-attempt.field-0 c.in_ok-attempt.ensures.value c.with_first.ensures in
    let is_read : IsReadOf (g.St.Store.seat c.read.new.store) (key.Cart c.args.id) c.in_ok-read.read
    = of_ok c.read.result (IsReadOf (g.St.Store.seat c.read.new.store) (key.Cart c.args.id)) c.in_ok-read.read c.in_ok-read.ensures.value c.read.ensures.read in
    rw (writes, reads, c.replace-reads.ensures.value)
    (faithful_beside _ _ c.args.attempt.now c.args.id c.in_ok-read.read c.in_ok-cart.cart c.in_ok-writes.writes c.read.ensures.looks.looked.follows c.requires is_read
    c.in_ok-cart.ensures (sym c.in_ok-writes.ensures.value))
