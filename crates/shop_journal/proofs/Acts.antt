-- The act that a request did, with what else is kept of it.
use Rattle.std.proofs.Common.{◌≡◌, ℕ, List, refl}
use Rattle.shop_model.specs.declared.buying.BuyRequest as buying
use Rattle.shop_model.specs.declared.requests.Request.TheVariants as request
use Rattle.shop_model.specs.declared.tax.TaxRule.{TaxRule}
use Rattle.shop_model.specs.declared.tax.TaxRule.TheVariants.{Flat, ByCountry}
use Rattle.shop_model.specs.asked.AddAsked.{AddAsked}
use Rattle.shop_model.specs.asked.AdminAsked.{AdminAsked}
use Rattle.shop_model.specs.asked.CartAsked.{CartAsked}
use Rattle.shop_model.specs.asked.PurchaseAsked.{PurchaseAsked}
use Rattle.shop_history.specs.declared.acts.Act.{Act}
use Rattle.shop_history.specs.declared.acts.Act.TheVariants.{Cart, Enter, Confirm, Admin, Add}
use Rattle.shop_history.specs.Acts.{request_of}
use Rattle.shop_journal.specs.declared.headers.Format.{Format}
use Rattle.shop_journal.specs.declared.headers.Format.TheVariants.{First, Second}
use Rattle.shop_journal.specs.Payloads.{IsActIn, auth_of, draw_of, rule_of, tax_byte, tax_of}

pub cart_act : (act : Act) (asked : CartAsked) (draw : ℕ) → request.CartRequest asked ≡ request_of act → draw ≡ draw_of act → Cart asked draw ≡ act
cart_act (Cart a d) asked draw same drew = cc (same, drew)
cart_act (Enter a d) asked draw same drew = absurd (cc same)
cart_act (Confirm a d auth tax) asked draw same drew = absurd (cc same)
cart_act (Admin a) asked draw same drew = absurd (cc same)
cart_act (Add a) asked draw same drew = absurd (cc same)

pub enter_act : (act : Act) (asked : buying.BuyRequest) (draw : ℕ) → request.BuyRequest asked ≡ request_of act → draw ≡ draw_of act → Enter asked draw ≡ act
enter_act (Cart a d) asked draw same drew = absurd (cc same)
enter_act (Enter a d) asked draw same drew = cc (same, drew)
enter_act (Confirm a d auth tax) asked draw same drew = absurd (cc same)
enter_act (Admin a) asked draw same drew = absurd (cc same)
enter_act (Add a) asked draw same drew = absurd (cc same)

pub confirm_act : (act : Act) (asked : PurchaseAsked) (draw : ℕ) (auth : List ℕ) (tax : TaxRule) → request.BuyConfirm asked ≡ request_of act → draw ≡ draw_of act
    → auth ≡ auth_of act → tax_byte tax ≡ tax_of act → Confirm asked draw auth tax ≡ act
confirm_act (Cart a d) asked draw auth tax same drew paid taxed = absurd (cc same)
confirm_act (Enter a d) asked draw auth tax same drew paid taxed = absurd (cc same)
confirm_act (Confirm a d b rule) asked draw auth tax same drew paid taxed = cc (same, drew, paid, rules_same tax rule taxed)
  where
    rules_same : (x y : TaxRule) → tax_byte x ≡ tax_byte y → x ≡ y
    rules_same Flat Flat e = refl
    rules_same Flat ByCountry e = absurd (cc e)
    rules_same ByCountry Flat e = absurd (cc e)
    rules_same ByCountry ByCountry e = refl
confirm_act (Admin a) asked draw auth tax same drew paid taxed = absurd (cc same)
confirm_act (Add a) asked draw auth tax same drew paid taxed = absurd (cc same)

pub admin_act : (act : Act) (asked : AdminAsked) → request.AdminConfirm asked ≡ request_of act → Admin asked ≡ act
admin_act (Cart a d) asked same = absurd (cc same)
admin_act (Enter a d) asked same = absurd (cc same)
admin_act (Confirm a d auth tax) asked same = absurd (cc same)
admin_act (Admin a) asked same = cc same
admin_act (Add a) asked same = absurd (cc same)

pub add_act : (act : Act) (asked : AddAsked) → request.AdminAdd asked ≡ request_of act → Add asked ≡ act
add_act (Cart a d) asked same = absurd (cc same)
add_act (Enter a d) asked same = absurd (cc same)
add_act (Confirm a d auth tax) asked same = absurd (cc same)
add_act (Admin a) asked same = absurd (cc same)
add_act (Add a) asked same = cc same

-- the rule of a purchase is read of its byte
pub rule_again : (format : Format) (act : Act) → IsActIn format act → tax_byte (rule_of format (tax_of act)) ≡ tax_of act
rule_again First (Cart a d) is = refl
rule_again First (Enter a d) is = refl
rule_again First (Confirm a d auth Flat) is = refl
rule_again First (Confirm a d auth ByCountry) is = absurd (cc is)
rule_again First (Admin a) is = refl
rule_again First (Add a) is = refl
rule_again Second (Cart a d) is = refl
rule_again Second (Enter a d) is = refl
rule_again Second (Confirm a d auth Flat) is = refl
rule_again Second (Confirm a d auth ByCountry) is = refl
rule_again Second (Admin a) is = refl
rule_again Second (Add a) is = refl

-- the format has such a purchase
pub purchase_kind : (format : Format) (asked : PurchaseAsked) (draw : ℕ) (auth : List ℕ) (tax : ℕ) → IsActIn format (Confirm asked draw auth (rule_of format tax))
purchase_kind First asked draw auth tax = refl
purchase_kind Second asked draw auth tax = tt
