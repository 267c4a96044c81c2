use Rattle.std.proofs.Common.{◌≡◌, subst}
use Rattle.shop_model.specs.declared.requests.Request.TheVariants.{BuyConfirm}
use Rattle.shop_model.specs.asked.PurchaseAsked.{PurchaseAsked}
use Rattle.shop_attempt.specs.declared.attempts.Attempt.{Attempt}
use Rattle.shop_attempt.specs.Seats.{Seat}
use Rattle.shop_browse.specs.declared.attempted.Ask.{Ask}
use Rattle.shop_browse.specs.Attempts.{IsPayable, asking_of}
use Rattle.rival_tests.proofs.deeds.buying.Goals as goal

-- what is payable for a purchase is so for an equal one
payable_for : (start now : Seat) (ask : Ask) (one other : PurchaseAsked) (attempt : Attempt) → one ≡ other → IsPayable start now (asking_of ask (BuyConfirm one)) attempt
    → IsPayable start now (asking_of ask (BuyConfirm other)) attempt
payable_for start now ask one other attempt same = subst (λ (a : PurchaseAsked). IsPayable start now (asking_of ask (BuyConfirm a)) attempt) same

pub returns-in-Approved-clause-faithful : goal.returns-in-Approved-clause-faithful
returns-in-Approved-clause-faithful g c =
    (c.in-Approved.ensures.paid _ _ (payable_for _ _ c.args.ask.now _ _ _ c.get.ensures c.in-Pay.ensures.attempted)).ready.attempts.faithful

pub returns-in-Approved-clause-moment : goal.returns-in-Approved-clause-moment
returns-in-Approved-clause-moment g c =
    (c.in-Approved.ensures.paid _ _ (payable_for _ _ c.args.ask.now _ _ _ c.get.ensures c.in-Pay.ensures.attempted)).ready.attempts.at
