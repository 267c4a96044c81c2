use Rattle.std.proofs.Common.{sym, ◌∙◌}
use Rattle.shop_http.proofs.DecodedLemmas.{decoded_text-plain, utf8-plain}
use Rattle.shop_http.proofs.requests.decoding.decoded.Goals as goal

pub returns-then-is_plain : goal.returns-then-is_plain
returns-then-is_plain c =
    let plain = sym c.is_plain.ensures ∙ c.if-is_plain.true in
    record { value = sym (decoded_text-plain _ plain); utf8 = utf8-plain _ plain }
