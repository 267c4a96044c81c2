-- A caller who has a shop alone is posted there.
use Rattle.std.proofs.Common.{◌≡◌, sym, ◌∙◌, ap}
use Rattle.shop_model.specs.declared.tables.Tables.{Tables}
use Rattle.shop_model.specs.lists.Catalogues.{Catalogue, opened}
use Rattle.shop_model.specs.population.Scales.{ScaleRow}
use Rattle.shop_attempt.specs.Seats.{IsSeat}
use Rattle.shop_book.specs.Books.{BookValue}
use Rattle.shop_book.specs.Solos.{SoloValue, seat_of, seated}
use Rattle.shop_engine.specs.Posts.{IsPosted}

pub posted : (scale : ScaleRow) (t : Tables) (index : Catalogue) (book : BookValue) (solo : SoloValue) → index ≡ opened t
    → book.opening.tables ≡ t → solo ≡ seated book 1 → IsSeat (seat_of solo) → IsPosted (seat_of solo) index (record { number = 1; seed = 0; scale = scale })
posted scale t index book solo named opens is valid =
    let tables : solo.book.opening.tables ≡ t = ap (λ (s : SoloValue). s.book.opening.tables) is ∙ opens in
    record {
      valid = valid;
      number = ap (λ (s : SoloValue). s.visitor.caller) is;
      named = named ∙ ap opened (sym tables);
    }
