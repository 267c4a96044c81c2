-- Acts that do what another act does, and requests that the tables refuse.
use Rattle.std.proofs.Common.{◌≡◌, ◌≢◌, ℕ, List, Option, Some, None, refl, sym, ◌∙◌, ap, subst}
use Rattle.shop_model.specs.declared.page.Page.{Page}
use Rattle.shop_model.specs.declared.refusal.Refusal.{Refusal}
use Rattle.shop_model.specs.declared.tables.Tables.{Tables}
use Rattle.shop_model.specs.declared.tax.TaxRule.{TaxRule}
use Rattle.shop_model.specs.asked.PurchaseAsked.{PurchaseAsked}
use Rattle.shop_model.specs.pages.Show.{check, page_for, refused_or, show}
use Rattle.shop_history.specs.declared.acts.Act.{Act}
use Rattle.shop_history.specs.declared.acts.Act.TheVariants.{Cart, Enter, Confirm, Admin, Add}
use Rattle.shop_history.specs.Acts.{request_of, IsActOf, HasDrawn}
use Rattle.shop_browse.specs.Attempts.{IsFree}
use Rattle.shop_replay.specs.Tries.{draw_of, tax_of}

-- an act for which nothing is to be paid is the one act of its request with its draw

same_act : (act given : Act) → request_of act ≡ request_of given → HasDrawn (draw_of given) act → IsFree (Some act) → act ≡ given
same_act (Cart asked draw) (Cart other word) does drew free = cc
same_act (Cart asked draw) _ does drew free = absurd cc
same_act (Enter asked draw) (Enter other word) does drew free = cc
same_act (Enter asked draw) _ does drew free = absurd cc
same_act (Confirm asked draw auth tax) _ does drew free = absurd free
same_act (Admin asked) (Admin other) does drew free = cc
same_act (Admin asked) _ does drew free = absurd cc
same_act (Add asked) (Add other) does drew free = cc
same_act (Add asked) _ does drew free = absurd cc

pub free_act : (act given : Act) → IsActOf (request_of given) (draw_of given) (tax_of given) act → IsFree (Some act) → act ≡ given
free_act act given is free = same_act act given is.does is.drew free

-- a request that would change rows shows a page alone where it is refused

no_page : (t : Tables) (act : Act) (draw : ℕ) → page_for t (request_of act) draw ≡ None
no_page t (Cart asked word) draw = refl
no_page t _ draw = refl

pub page_refuses : (t : Tables) (act : Act) (draw : ℕ) (page : Page) → show t (request_of act) draw ≡ Some page → check t (request_of act) ≢ None
page_refuses t act draw page shows none =
    absurd (cc (sym shows ∙ ap (λ (c : Option Refusal). refused_or c (page_for t (request_of act) draw)) none ∙ no_page t act draw))

-- a purchase, by its draw and its rule of the tax
pub confirm_is : (act : Act) (asked : PurchaseAsked) (draw : ℕ) (auth : List ℕ) (tax : TaxRule) → act ≡ Confirm asked draw auth tax → act ≡ Confirm asked (draw_of act) auth (tax_of act)
confirm_is act asked draw auth tax is = subst (λ (a : Act). a ≡ Confirm asked (draw_of a) auth (tax_of a)) (sym is) refl
