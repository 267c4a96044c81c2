use Rattle.std.proofs.Common.{refl, subst}
use Rattle.shop_model.specs.asked.Refusals.{page_of}
use Rattle.shop_draft.specs.Pages.{Shows}
use Rattle.shop_order.proofs.decision.denied.Goals as goal

pub returns : goal.returns
returns c = record {
  is = refl;
  written = subst (λ refusal. Shows c.refusal-2.new.draft (λ drawn. page_of refusal)) c.refusal.ensures c.in_ok-refusal.ensures;
}
