-- A gateway that notes what another one answers, as its callers see it.
use Rattle.std.specs.Prelude.{◌≡◌, List, Option}
use Rattle.shop_edges.specs.Gateways.{Answered}
use Rattle.shop_edges.specs.declared.gateway.Answer.{Answer}
use Rattle.shop_gateway.specs.Notes.{firsts}

-- the gateway that it asks, and all answers that it gave
pub record NotingValue (G : Type 0) : Type 0 where
  pub gateway : G
  pub all : List Answer

-- the notes of what a gateway answered that told this before, and this now
pub record AreNotes (old new : Option (List Answer)) (notes : List Answer) : Type 0 where
  pub all : List Answer
  pub told : Answered old new all
  pub firsts : notes ≡ firsts all
