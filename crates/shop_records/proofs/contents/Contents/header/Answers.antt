use Rattle.std.proofs.Common.{List, ℕ, take, length, sym, ◌∙◌, ap}
use Rattle.std.proofs.lemmas.List.{length-take-le}
use Rattle.shop_records.proofs.Scans.{header_fits, header_is}
use Rattle.shop_records.proofs.contents.Contents.header.Goals as goal

pub slice_bounds-result-end : goal.slice_bounds-result-end
slice_bounds-result-end c =
    let bytes = c.self.inside.bytes.items in
    let kept = c.self.invariant in
    sym (ap (λ (l : List ℕ). length (take 32 l)) c.deref.ensures.value ∙ length-take-le 32 bytes (header_fits bytes kept.header kept.payloads kept.keeps))

pub returns-clause-header : goal.returns-clause-header
returns-clause-header c = λ header payloads keeps.
    let same = c.deref.ensures.value ∙ c.self.view_is in
    ap (take 32) same ∙ header_is c.args.self.now header payloads keeps
