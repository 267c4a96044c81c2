use Rattle.std.proofs.lemmas.Str.{IsUtf8-string_bytes}
use Rattle.shop_http.proofs.requests.decoding.decoded_anew.Goals as goal

pub returns-in-Owned-clause-utf8 : goal.returns-in-Owned-clause-utf8
returns-in-Owned-clause-utf8 c = rw c.into_bytes.ensures.value (IsUtf8-string_bytes c.in-Owned.text)
