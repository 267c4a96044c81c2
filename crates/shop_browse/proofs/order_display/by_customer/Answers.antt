use Rattle.std.proofs.Common.{◌≡◌, ◌∷◌, [], ap, ◌∙◌, refl, sym, subst}
use Rattle.shop_model.specs.declared.buying.OrderDisplay as asked_for
use Rattle.shop_model.specs.declared.refusal.Refusal.TheVariants.{WrongPassword}
use Rattle.shop_model.specs.declared.requests.Request.TheVariants.{OrderDisplay}
use Rattle.shop_model.specs.asked.Refusals.{page_of}
use Rattle.shop_history.specs.declared.keys.Key.TheVariants.{LastOrder}
use Rattle.shop_browse.specs.Driver.{AsksFor}
use Rattle.shop_browse.specs.OrderDisplay.{FollowsDisplay}
use Rattle.shop_browse.proofs.cited.Reads.{shows_page}
use Rattle.shop_browse.proofs.OrderDisplayLemmas.{has_login, is_named, is_user, password_refused}
use Rattle.shop_browse.proofs.OrderReads.{asks_last}
use Rattle.shop_browse.proofs.order_display.by_customer.Goals as goal
use Rattle.shop_browse.proofs.order_display.by_customer.Goals.{in_default-via-in-Id+in_default, in_default-via-in_default}

pub returns-then-is_password : goal.returns-then-is_password
returns-then-is_password c catalogue ask _ =
    let asked = c.args.asked.now in
    let reads = c.args.reads.now in
    let id = c.in-Id-Customer.id in
    let same : id ≡ c.requires.0 = cc (c.in-Id-Customer.is-0, is_user asked.login reads c.requires c.index-reads-0.result) in
    let passes = ap (λ (o : asked_for.OrderDisplay). o.login.pass) (sym c.asked.view_is) ∙ c.is_password.ensures.0 c.if-is_password.true in
    subst (λ i. AsksFor (FollowsDisplay asked catalogue) (OrderDisplay asked) ask 2 reads (LastOrder i ∷ [])) (sym same)
    (asks_last catalogue asked ask reads c.requires.0 (has_login asked.login reads c.requires c.index-reads-1.result c.in-Id-Customer.customer c.in-Id-Customer.is-1 passes))

pub returns-in_ok-refusal-in-Id-Customer : goal.returns-in_ok-refusal-in-Id-Customer
returns-in_ok-refusal-in-Id-Customer c catalogue ask _ = (
  refl,
  λ t fits.
      let asked = c.args.asked.now in
      let other = λ (same : asked.login.pass ≡ c.in-Id-Customer.customer.password). absurd (cc (c.if-is_password.false, c.is_password.ensures.1 (ap (λ (o : asked_for.OrderDisplay). o.login.pass) c.asked.view_is ∙ same))) in
      shows_page t (OrderDisplay asked) ask.draw _ (page_of WrongPassword)
      (password_refused asked ask.draw c.args.reads.now c.requires _ c.in-Id-Customer.customer ask.index.now t c.in-Id-Customer.is-1 other fits) c.in_ok-refusal-in-Id-Customer.ensures,
)

pub returns-in_default : goal.returns-in_default
returns-in_default c catalogue ask _ t fits =
    let asked = c.args.asked.now.login in
    let reads = c.args.reads.now in
    let named = is_named asked reads c.requires c.index-reads-1.result ask.index.now t fits in
    elim c.in_default.branch [
      | in_default-via-in-Id+in_default w ↦ w.in_default.not-Customer-1 named.0 named.2
      | in_default-via-in_default w ↦ w.in_default.not-Id-0 c.requires.0 (is_user asked reads c.requires c.index-reads-0.result)
    ]
