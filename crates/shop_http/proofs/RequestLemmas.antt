-- What a message asks for, by the form that is read of it.
use Rattle.std.proofs.Common.{◌≡◌, ℕ, Bool, true, false, List, [], ◌++◌, Some, None, refl, ap, ◌∙◌, codes}
use Rattle.std.specs.Prelude.{◌||◌, Err, if◌then◌else◌}
use Rattle.std.specs.Str.{bytes_eq}
use Rattle.std.proofs.lemmas.Slice.Eq.{bytes_eq-Decides}
use Rattle.shop_model.specs.declared.requests.Interaction.{Interaction}
use Rattle.shop_model.specs.asked.Interactions.{interaction_of}
use Rattle.shop_http.specs.declared.requests.Refusal.TheVariants as refusal
use Rattle.shop_http.specs.Forms.{pairs}
use Rattle.shop_http.specs.Requests.{path_of, query_of, request_by, named, form_of, asked_at, pairs_asked, asked_of}
use Rattle.shop_http.proofs.Pairs.{pairs-none}

asked-get : (method target body : List ℕ) (interaction : Interaction)
    → bytes_eq method (codes "GET") ≡ true → interaction_of (path_of target) ≡ Some interaction
    → asked_of method target body ≡ named (request_by interaction (pairs (query_of target) ++ pairs []))
unfolding asked_of
asked-get method target body interaction get found =
    rw ((bytes_eq-Decides method (codes "GET")).0 get, found, pairs-none) refl

asked-post : (method target body : List ℕ) (interaction : Interaction)
    → bytes_eq method (codes "POST") ≡ true → interaction_of (path_of target) ≡ Some interaction
    → asked_of method target body ≡ named (request_by interaction (pairs (query_of target) ++ pairs body))
unfolding asked_of
asked-post method target body interaction post found =
    rw ((bytes_eq-Decides method (codes "POST")).0 post, found) refl

asked-neither : (method target body : List ℕ) (interaction : Interaction)
    → bytes_eq method (codes "GET") ≡ false → bytes_eq method (codes "POST") ≡ false → interaction_of (path_of target) ≡ Some interaction
    → asked_of method target body ≡ Err refusal.Method
unfolding asked_of
asked-neither method target body interaction get post found =
    let asked = pairs_asked method target body in
    ap (λ found. asked_at found method asked) found
    ∙ ap (λ (either : Bool). if either then named (request_by interaction asked) else Err refusal.Method)
    (ap (λ get. get || bytes_eq method (codes "POST")) get ∙ post)

-- by the form
module _ (method target body : List ℕ) (interaction : Interaction) (found : interaction_of (path_of target) ≡ Some interaction) where
  pub asked-form : (form : List ℕ) → form_of method body ≡ Some form
      → asked_of method target body ≡ named (request_by interaction (pairs (query_of target) ++ pairs form))
  asked-form form is = go (bytes_eq method (codes "GET")) (bytes_eq method (codes "POST")) refl refl is
    where
      go : (get post : Bool) → bytes_eq method (codes "GET") ≡ get → bytes_eq method (codes "POST") ≡ post
          → (if get then Some [] else (if post then Some body else None)) ≡ Some form
          → asked_of method target body ≡ named (request_by interaction (pairs (query_of target) ++ pairs form))
      go true post get_is post_is is =
          let none : [] ≡ form = cc in
          asked-get method target body interaction get_is found ∙ ap (λ form. named (request_by interaction (pairs (query_of target) ++ pairs form))) none
      go false true get_is post_is is =
          let all : body ≡ form = cc in
          asked-post method target body interaction post_is found ∙ ap (λ form. named (request_by interaction (pairs (query_of target) ++ pairs form))) all
      go false false get_is post_is is = cc

  pub asked-no_form : form_of method body ≡ None → asked_of method target body ≡ Err refusal.Method
  asked-no_form is = go (bytes_eq method (codes "GET")) (bytes_eq method (codes "POST")) refl refl is
    where
      go : (get post : Bool) → bytes_eq method (codes "GET") ≡ get → bytes_eq method (codes "POST") ≡ post
          → (if get then Some [] else (if post then Some body else None)) ≡ None
          → asked_of method target body ≡ Err refusal.Method
      go true post get_is post_is is = cc
      go false true get_is post_is is = cc
      go false false get_is post_is is = asked-neither method target body interaction get_is post_is found
