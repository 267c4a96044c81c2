use Rattle.std.proofs.Common.{◌≡◌, ℕ, suc, ◌+◌, List, [], ◌∷◌, ◌++◌, length, length-append, map, sym, ap, ◌∙◌, arith}
use Rattle.std.specs.List.{range_with_len}
use Rattle.std.proofs.lemmas.List.{map-append}
use Rattle.shop_text.proofs.cited.Lists.{range_more}
use Rattle.shop_model.specs.rows.Rows.{ItemRow}
use Rattle.unit_tests.proofs.rankings.sixty.Goals as goal

pub loop-before-preserved : goal.loop-before-preserved
loop-before-preserved c =
    let before : ℕ = c.loop-before.before in
    let items : List ItemRow = c.loop-before.items.items in
    let item : ItemRow = c.in_ok-item.field-0 in
    let more : c.push.new.self.items ≡ items ++ item ∷ [] = c.in_ok-push.ensures.items in
    let next : before + 1 ≡ suc before = omega arith in
    let id : item.id ≡ 1 + before = c.in_ok-item.ensures ∙ (let e : before + 1 ≡ 1 + before = omega arith in e) in
    record {
      size = ap length more ∙ length-append items (item ∷ []) ∙ ap (λ n. n + 1) c.loop-before.invariant.size;
      ids =
          ap (map (λ (i : ItemRow). i.id)) more
          ∙ map-append (λ (i : ItemRow). i.id) items (item ∷ [])
          ∙ ap (λ (ids : List ℕ). ids ++ item.id ∷ []) c.loop-before.invariant.ids
          ∙ ap (λ n. range_with_len 1 before ++ n ∷ []) id
          ∙ sym (ap (range_with_len 1) next ∙ range_more 1 before);
    }
