use Rattle.std.proofs.Common.{refl}
use Rattle.shop_http.proofs.DecodedLemmas.{decoded_text-number}
use Rattle.shop_http.proofs.requests.forms.number_in.Goals as goal

pub returns-in-Some : goal.returns-in-Some
returns-in-Some c =
    let is = c.in-Some.ensures in
    rw (decoded_text-number c.args.encoded.now c.in-Some.number is, is) refl
