-- A fault stays one, whatever was to follow.
use Rattle.std.proofs.Common.{◌≡◌, List, ℕ, Option, Some, None, ap, subst}
use Rattle.std.specs.Option.{option_map, ok_or}
use Rattle.std.specs.Prelude.{Result, Ok, Err, IsErrAnd}
use Rattle.shop_model.specs.declared.parameter.Parameter.{Parameter}
use Rattle.shop_http.specs.Answers.{Reads}
use Rattle.shop_http.specs.Forms.{Form, Pair, value_of, optional, optional_by}
use Rattle.shop_http.specs.declared.requests.fault.Fault.{Fault}
use Rattle.shop_http.specs.declared.requests.fault.Fault.TheVariants as fault

pub carried : {T : Type 0} (result : Result T Fault) (why : Fault) → IsErrAnd result (λ e. e ≡ why) → result ≡ Err why
carried (Ok _) why is = elim is [ ]
carried (Err e) why is = ap Err is

module _ {A : Type 0} (parameter : Parameter) where
  mapped : {B : Type 0} (f : A → B) (asked : Option A) (why : Fault) → Reads (ok_or asked parameter) (Err why) → Reads (ok_or (option_map f asked) parameter) (Err why)
  mapped f None (fault.Parameter other) reads = let same : parameter ≡ other = cc in ap Err same
  mapped f (Some x) (fault.Parameter other) reads = cc
  mapped f asked fault.Memory reads = tt

  -- where a value is there, and is not in its form
  pub optional-fault : (form : Form A) (pairs : List Pair) (value : List ℕ) (why : Fault) → Some value ≡ value_of pairs parameter
      → Reads (ok_or (form value) parameter) (Err why) → Reads (optional form pairs parameter) (Err why)
  optional-fault form pairs value why found reads =
      subst (λ value. Reads (optional_by form value parameter) (Err why)) found (mapped (λ x. Some x) (form value) why reads)
