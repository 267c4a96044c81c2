use Rattle.std.proofs.Common.{sym, ◌∙◌, ap}
use Rattle.std.specs.Prelude.{IfOk}
use Rattle.std.specs.declared.result.Result.{Result}
use Rattle.std.specs.declared.result.Result.TheVariants.{Ok, Err}
use Rattle.shop_edges.specs.declared.gateway.Answer.{Answer}
use Rattle.shop_gateway.proofs.Charges.{next_same, next_other}
use Rattle.shop_gateway.proofs.emulator.next_answer.Goals as goal

ok_then : {A E : Type 0} (result : Result A E) (P Q : A → Type 0) → ((x : A) → P x → Q x) → IfOk result P → IfOk result Q
ok_then (Ok x) P Q then holds = then x holds
ok_then (Err e) P Q then holds = tt

pub returns-then-is_same : goal.returns-then-is_same
returns-then-is_same c =
    let charge = ap (λ (a : Answer). a.charge) c.get.ensures in
    let same = next_same c.args.entry.now c.args.charge.now (sym charge ∙ c.is_same.ensures.0 c.if-is_same.true) in
    ok_then c.share.result _ _ (λ answer is. is ∙ same) c.share.ensures

pub returns : goal.returns
returns c =
    let charge = ap (λ (a : Answer). a.charge) c.get.ensures in
    let other = next_other c.args.entry.now c.args.charge.now _ c.copy.ensures
    (λ same. let yes = c.is_same.ensures.1 (charge ∙ same) in let no = c.if-is_same.false in cc) in
    ok_then c.new.result _ _ (λ answer is. is ∙ other) c.new.ensures
