use Rattle.std.proofs.Common.{◌≡◌, List, ℕ, [], ◌-◌, length, map, take, drop, sym, ◌∙◌, ap, subst}
use Rattle.std.proofs.lemmas.List.{take_rest}
use Rattle.std.specs.Borrow.{Bor}
use Rattle.shop_records.specs.Records.{header_length}
use Rattle.shop_records.proofs.Scans.{IsRead, none_read, all_found}
use Rattle.shop_records.proofs.contents.Contents.payloads.Goals as goal

pub loop-payload-init : goal.loop-payload-init
loop-payload-init c =
    let bytes = c.deref.result.now in
    let same = c.deref.ensures.value ∙ c.self.view_is in
    let rest : drop header_length c.args.self.now ≡ take (length bytes - 32) (drop 32 bytes) = ap (drop header_length) (sym same) ∙ sym (take_rest bytes 32) in
    let none : map (λ (p : Bor (List ℕ)). p.now) c.new-payloads.result.items ≡ [] = ap (map (λ (p : Bor (List ℕ)). p.now)) c.new-payloads.ensures.items in
    subst (λ (l : List (List ℕ)). IsRead l (drop header_length c.args.self.now) (take (length bytes - 32) (drop 32 bytes))) (sym none)
    (subst (λ (r : List ℕ). IsRead [] (drop header_length c.args.self.now) r) rest (none_read (drop header_length c.args.self.now)))

pub returns : goal.returns
returns c = record {
  payloads = λ header payloads keeps.
      all_found c.args.self.now header payloads keeps (map (λ (p : Bor (List ℕ)). p.now) c.loop-payload.payloads.items) c.loop-payload.rest.now c.next_record.result c.loop-payload.invariant c.next_record.ensures
      (λ p r is. absurd (c.in_default.not-Record p r is));
}
