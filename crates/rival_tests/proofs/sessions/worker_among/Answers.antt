use Rattle.std.proofs.Common.{rules, ◌≡◌, sym, ap, ◌∙◌}
use Rattle.std.specs.Arc.{arc_value}
use Rattle.shop_model.specs.lists.Catalogues.{opened}
use Rattle.shop_model.specs.population.Population.{populated}
use Rattle.rival_tests.specs.Rivals.{RivalledValue}
use Rattle.rival_tests.proofs.sessions.worker_among.Goals as goal

pub new-requires-2 : goal.new-requires-2
new-requires-2 c =
    let opening : c.new-store.result.solo.book.opening.tables ≡ c.in_ok-book.book.opening.tables
    = ap (λ (r : RivalledValue). r.solo.book.opening.tables) c.new-store.ensures.value in
    let named : arc_value c.in_ok-index.index ≡ opened (populated 0 c.desk-scale.result) = search rules in
    record {
      valid = c.new-store.ensures.valid;
      number = ap (λ (r : RivalledValue). r.solo.visitor.caller) c.new-store.ensures.value;
      named = named ∙ ap opened (sym (opening ∙ c.in_ok-book.ensures));
    }
