use Rattle.std.proofs.Common.{◌-◌, ◌++◌, List, ℕ, take, drop, ap, ◌∙◌}
use Rattle.std.proofs.Math.Seq.{take-add}
use Rattle.shop_gateway.proofs.line_reader.LineReader.fill.Goals as goal

pub returns-in-Bytes-clause-piece : goal.returns-in-Bytes-clause-piece
returns-in-Bytes-clause-piece g c =
    let held : ℕ = c.self.inside.end - c.self.inside.start in
    let piece : List ℕ = take c.in-Bytes.count (drop held c.read_behind-got.new.bytes) in
    record {
      piece = piece;
      taken = c.in-Bytes.ensures.read;
      is = take-add held c.in-Bytes.count c.read_behind-got.new.bytes ∙ ap (λ xs. xs ++ piece) (c.in-Bytes.ensures.front ∙ c.move_to_front.ensures ∙ c.self.view_is);
    }
