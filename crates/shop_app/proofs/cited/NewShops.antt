-- A new shop, and its desks one after another.
use Rattle.std.proofs.Common.{◌≡◌, ℕ, ◌+◌, ◌-◌, ◌<◌, List, [], ◌∷◌, ◌++◌, length, get_or, refl, sym, ap, ◌∙◌, subst, arith, length-append}
use Rattle.std.specs.List.{All}
use Rattle.std.proofs.lemmas.List.{get_or_append_left, get_or-append_right}
use Rattle.shop_model.specs.declared.tables.Tables.{Tables}
use Rattle.shop_model.specs.lists.Catalogues.{Catalogue, opened}
use Rattle.shop_model.specs.population.Population.{populated}
use Rattle.shop_attempt.specs.Seats.{IsSeat}
use Rattle.shop_book.specs.Books.{BookValue}
use Rattle.atomic_table.specs.Seated.{TableId}
use Rattle.shop_turn.specs.Desks.{DeskValue, seat_of}
use Rattle.shop_turn.specs.Shops.{Opens, new_desk}
use Rattle.shop_turn.proofs.cited.Desks.{new_at, new_size}
use Rattle.shop_engine.specs.Posts.{IsPosted}
use Rattle.shop_words.specs.declared.command.Session.{Session}
use Rattle.shop_app.specs.NewShops.{AreNewDesks, caller_of, new_book}

pub opens_new : (session : Session) (book : BookValue) (t : Tables) (callers : ℕ) (desks : List DeskValue) → book ≡ record { opening = record { tables = t; limit = session.limit }; log = []; latest = 0 }
    → t ≡ populated session.seed session.scale → Opens book callers desks → Opens (new_book session) callers desks
unfolding new_book
opens_new session book t callers desks is drawn =
    subst (λ (b : BookValue). Opens b callers desks) (is ∙ ap (λ (u : Tables). record { opening = record { tables = u; limit = session.limit }; log = []; latest = 0 }) drawn)

-- the desk that comes next in a list of new ones
pub next_desk : (session : Session) (callers : ℕ) (before : List DeskValue) (desk : DeskValue) (behind desks : List DeskValue) (is : AreNewDesks session callers desks) → before ++ desk ∷ behind ≡ desks
    → desk ≡ new_desk is.table (new_book session) callers (length before + 1)
next_desk session callers before desk behind desks is split =
    let none : length before - length before ≡ 0 = omega arith in
    let here : get_or (before ++ desk ∷ behind) (length before) desk ≡ desk = get_or-append_right before (desk ∷ behind) (length before) (length before) desk refl (omega arith) ∙ ap (λ i. get_or (desk ∷ behind) i desk) none in
    let within : length before < length desks = omega (arith, ap length split, length-append before (desk ∷ behind)) in
    sym here ∙ ap (λ (ds : List DeskValue). get_or ds (length before) desk) split ∙ is.at (length before) desk within

pub posted_at : (session : Session) (all number : ℕ) (table : TableId) (desk : DeskValue) (index : Catalogue) → desk ≡ new_desk table (new_book session) all number
    → index ≡ opened (populated session.seed session.scale) → IsSeat (seat_of desk) → IsPosted (seat_of desk) index (caller_of session number)
unfolding new_book
posted_at session all number table desk index is named valid = record {
  valid = valid;
  number = ap (λ (d : DeskValue). d.number) is;
  named = named ∙ ap (λ (d : DeskValue). opened d.origin.opening.tables) (sym is);
}

pub holds_next : (P : DeskValue → Type 0) (before : List DeskValue) (desk : DeskValue) (behind desks : List DeskValue) → before ++ desk ∷ behind ≡ desks → All P desks → P desk
holds_next P before desk behind desks split all =
    let none : length before - length before ≡ 0 = omega arith in
    let here : get_or (before ++ desk ∷ behind) (length before) desk ≡ desk = get_or-append_right before (desk ∷ behind) (length before) (length before) desk refl (omega arith) ∙ ap (λ i. get_or (desk ∷ behind) i desk) none in
    let within : length before < length desks = omega (arith, ap length split, length-append before (desk ∷ behind)) in
    subst P (ap (λ (ds : List DeskValue). get_or ds (length before) desk) (sym split) ∙ here) (all (length before) desk within)

-- the desks of a new shop but its last
module _ (session : Session) (callers : ℕ) (desks rest : List DeskValue) (own : DeskValue) (opens : Opens (new_book session) callers desks) (popped : desks ≡ rest ++ own ∷ []) where
  pub rest_size : length rest + 1 ≡ callers
  rest_size = omega (arith, length-append rest (own ∷ []), ap length popped, ap length opens.are, new_size opens.table (new_book session) callers callers)

  pub rest_new : AreNewDesks session callers rest
  rest_new = record {
    table = opens.table;
    at = λ place other within.
        sym (get_or_append_left rest (own ∷ []) other place within)
        ∙ ap (λ (ds : List DeskValue). get_or ds place other) (sym popped ∙ opens.are)
        ∙ new_at opens.table (new_book session) callers callers place other (omega (arith, within, rest_size));
    valid = λ place other within. subst (λ (d : DeskValue). IsSeat (seat_of d))
        (ap (λ (ds : List DeskValue). get_or ds place other) popped ∙ get_or_append_left rest (own ∷ []) other place within)
        (opens.valid place other (omega (arith, within, ap length popped, length-append rest (own ∷ []))));
  }

  pub rest_opens : Opens (new_book session) callers (rest ++ own ∷ [])
  rest_opens = subst (Opens (new_book session) callers) popped opens
