use Rattle.std.proofs.Common.{◌≡◌, ℕ, List, [], ◌∷◌, ◌++◌, length, get_or, sym, ◌∙◌, ap, arith, length-append}
use Rattle.shop_book.specs.Columns.{at}
use Rattle.shop_book.proofs.Grid.{push_each, push_none}
use Rattle.shop_book.proofs.versions.Versions.new.Goals as goal

pub loop-size-preserved : goal.loop-size-preserved
loop-size-preserved c =
    let columns : List (List ℕ) = c.loop-size.columns.items in
    let column : List ℕ = c.in_ok-zeros.field-0 in
    let is : c.push.new.self.items ≡ columns ++ column ∷ [] = c.in_ok-push.ensures.items in
    let long : length columns ≡ c.loop-size.size-index = c.loop-size.invariant.long in
    record {
      sizes = c.loop-size.invariant.sizes;
      long = ap length is ∙ length-append columns (column ∷ []) ∙ omega (arith, long);
      each = λ n lt.
          ap (λ (cs : List (List ℕ)). length (get_or cs n [])) is
          ∙ push_each (λ k x. length x ≡ get_or c.sizes-size-items.result k 0) columns column (λ k within. c.loop-size.invariant.each k (omega (arith, within, long)))
          (c.in_ok-zeros.ensures.long ∙ ap (λ k. get_or c.sizes-size-items.result k 0) (sym long)) n (omega (arith, lt, long));
      none = λ n id.
          ap (λ (cs : List (List ℕ)). at (get_or cs n []) id) is
          ∙ push_none columns column c.loop-size.invariant.none c.in_ok-zeros.ensures.none n id;
    }
