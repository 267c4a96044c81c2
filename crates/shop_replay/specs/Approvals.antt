-- What a gateway tells that approves every charge with one authorisation.
use Rattle.std.specs.Prelude.{ℕ, List, [], ◌∷◌, map, Option, Some}
use Rattle.shop_model.specs.declared.card_type.CardType.TheVariants.{Visa}
use Rattle.shop_edges.specs.declared.gateway.Answer.{Answer}
use Rattle.shop_edges.specs.declared.gateway.Verdict.TheVariants.{Approved}
use Rattle.shop_edges.specs.Charges.{ChargeValue}
use Rattle.shop_replay.specs.declared.approver.Approver.{Approver}

abbrev pub approval : List ℕ → ChargeValue → Answer
approval auth charge = record { charge = charge; verdict = Approved auth }

-- a charge that nobody asks for
abbrev pub no_charge : ChargeValue
no_charge = record { caller = 0; call = 0; cents = 0; card = Visa; number = []; expiry = [] }

-- first of all it tells the authorisation, by its approval of no charge; so what it tells later is of the same one
abbrev pub told : Approver → Option (List Answer)
told approver = Some (map (approval approver.auth) (no_charge ∷ approver.charges))
