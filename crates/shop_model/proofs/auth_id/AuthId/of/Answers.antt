use Rattle.std.proofs.Common.{◌≡◌, ◌∙◌, sym, arith}
use Rattle.std.specs.Char.{IsAsciiDigit}
use Rattle.std.proofs.Math.ListN.{length-set}
use Rattle.std.proofs.lemmas.List.Elements.{All-set}
use Rattle.shop_model.specs.rows.AuthIds as spec
use Rattle.shop_model.proofs.DigitLemmas.{digits_more}
use Rattle.shop_model.proofs.auth_id.AuthId.of.Goals as goal

pub loop-place-preserved : goal.loop-place-preserved
loop-place-preserved c =
    let now = c.loop-place.invariant in
    record {
      within = omega (arith, now.within);
      size = rw length-set now.size;
      ascii = All-set IsAsciiDigit _ _ _ (omega arith, omega arith) now.ascii;
      so_far = now.so_far ∙ digits_more _ _ _ c.loop-place-test.true (omega (arith, now.within, now.size));
    }

pub returns : goal.returns
unfolding spec.digits
returns c =
    let first : c.loop-place.place ≡ 0 = omega (arith, c.loop-place-test.false) in
    sym (rw first at c.loop-place.invariant.so_far)
