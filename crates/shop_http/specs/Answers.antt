-- What the reading of a message's parts answers, but where memory ran out.
use Rattle.std.specs.Prelude.{◌≡◌, Result, Ok, Err}
use Rattle.shop_model.specs.declared.parameter.Parameter.{Parameter}
use Rattle.shop_model.specs.declared.requests.Request.{Request}
use Rattle.shop_http.specs.declared.requests.Asked.{Asked}
use Rattle.shop_http.specs.declared.requests.Asked.TheVariants as answer
use Rattle.shop_http.specs.declared.requests.Refusal.{Refusal}
use Rattle.shop_http.specs.declared.requests.fault.Fault.{Fault}
use Rattle.shop_http.specs.declared.requests.fault.Fault.TheVariants as fault

-- these pairs were read
abbrev pub Reads : {A : Type 0} → Result A Parameter → Result A Fault → Type 0
Reads asked (Ok x) = asked ≡ Ok x
Reads asked (Err (fault.Parameter parameter)) = asked ≡ Err parameter
Reads asked (Err fault.Memory) = Unit {0}

-- this message was answered
abbrev pub Answers : Result Request Refusal → Asked → Type 0
Answers asked (answer.Request request) = asked ≡ Ok request
Answers asked (answer.Refuse refusal) = asked ≡ Err refusal
Answers asked answer.Memory = Unit {0}
