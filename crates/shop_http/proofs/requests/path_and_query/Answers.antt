use Rattle.std.proofs.Common.{ℕ, ◌+◌, ◌==◌, length, take, drop, sym, ap, ◌∙◌, arith, take_all}
use Rattle.std.proofs.lemmas.Bool.{false_from_ne_true}
use Rattle.std.proofs.lemmas.List.Sums.{position_or_len_is}
use Rattle.std.proofs.lemmas.List.{take_rest, drop_all}
use Rattle.shop_http.proofs.requests.path_and_query.Goals as goal

pub returns-in-Some : goal.returns-in-Some
returns-in-Some c =
    let target = c.args.target.now in
    let first = c.in-Some.ensures in
    let found =
    position_or_len_is (λ (byte : ℕ). byte == 63) target c.in-Some.mark 0 (omega (arith, first.0.high))
    (λ k below. false_from_ne_true _ (first.0.before k (omega arith) below)) (λ _. first.1) in
    record { path = ap (λ n. take n target) (sym found); query = take_rest target _ ∙ ap (λ n. drop (n + 1) target) (sym found) }

pub returns-in-None : goal.returns-in-None
returns-in-None c =
    let target = c.args.target.now in
    let none =
    position_or_len_is (λ (byte : ℕ). byte == 63) target (length target) 0 (omega arith)
    (λ k below. false_from_ne_true _ (c.in-None.ensures k (omega arith) below)) (λ below. absurd (omega (arith, below))) in
    record {
      path = sym (ap (λ n. take n target) none ∙ take_all (length target) target (omega arith));
      query = sym (ap (λ n. drop (n + 1) target) none ∙ drop_all (length target + 1) target (omega arith));
    }
