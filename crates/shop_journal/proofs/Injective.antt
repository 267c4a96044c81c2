-- An entry has one payload, and a payload one entry.
use Rattle.std.proofs.Common.{◌≡◌, ◌≢◌, ℕ, List, [], ◌∷◌, ◌++◌, codes, get_or, drop, refl, sym, ◌∙◌, ap, subst}
use Rattle.std.specs.List.{AllByRecursion}
use Rattle.shop_history.specs.declared.acts.Act.{Act}
use Rattle.shop_history.specs.declared.acts.Act.TheVariants.{Cart, Enter, Confirm, Admin, Add}
use Rattle.shop_history.specs.declared.acts.Entry.{Entry}
use Rattle.shop_history.specs.Acts.{request_of}
use Rattle.shop_http.specs.Requests.{asked_of}
use Rattle.shop_journal.specs.declared.headers.Format.{Format}
use Rattle.shop_journal.specs.declared.headers.Format.TheVariants.{First, Second}
use Rattle.shop_journal.specs.Journals.{payloads_of}
use Rattle.shop_journal.specs.Payloads.{IsEntry, auth_of, draw_of, payload_of, tax_of}
use Rattle.shop_journal.specs.Targets.{target_of}
use Rattle.shop_journal.proofs.Acts.{cart_act, enter_act, confirm_act, admin_act, add_act}
use Rattle.shop_journal.proofs.Cuts.{AreCut, cut, no_tax}
use Rattle.shop_journal.proofs.Kept.{written_again}

same_act : (act other : Act) → request_of act ≡ request_of other → draw_of act ≡ draw_of other → auth_of act ≡ auth_of other → tax_of act ≡ tax_of other → act ≡ other
same_act (Cart asked draw) other same drew paid taxed = cart_act other asked draw same drew
same_act (Enter asked draw) other same drew paid taxed = enter_act other asked draw same drew
same_act (Confirm asked draw auth tax) other same drew paid taxed = confirm_act other asked draw auth tax same drew paid taxed
same_act (Admin asked) other same drew paid taxed = admin_act other asked same
same_act (Add asked) other same drew paid taxed = add_act other asked same

same_tax : (format : Format) (entry other : Entry) → IsEntry format entry → IsEntry format other → payload_of format entry ≡ payload_of format other → tax_of entry.act ≡ tax_of other.act
same_tax First entry other is there same = sym (no_tax entry.act is.kind) ∙ no_tax other.act there.kind
same_tax Second entry other is there same = ap (λ (p : List ℕ). get_or p 24 0) same

pub same_entry : (format : Format) (entry other : Entry) → IsEntry format entry → IsEntry format other → payload_of format entry ≡ payload_of format other → entry ≡ other
same_entry format entry other is there same =
    let mine = cut format entry is in
    let its = subst (λ p. AreCut format other p) (sym same) (cut format other there) in
    let targets : target_of (request_of entry.act) ≡ target_of (request_of other.act) = sym mine.target ∙ its.target in
    let asked = sym (written_again entry.act is.bounded.form) ∙ ap (λ t. asked_of (codes "GET") t []) targets ∙ written_again other.act there.bounded.form in
    let requests : request_of entry.act ≡ request_of other.act = cc asked in
    let acts = same_act entry.act other.act requests (sym mine.draw ∙ its.draw) (sym mine.auth ∙ its.auth) (same_tax format entry other is there same) in
    let callers : entry.caller ≡ other.caller = sym mine.caller ∙ its.caller in
    let numbers : entry.number ≡ other.number = sym mine.number ∙ its.number in
    let stamps : entry.stamp ≡ other.stamp = sym mine.stamp ∙ its.stamp in
    λ i. record { caller = callers i; number = numbers i; stamp = stamps i; act = acts i }

heads_same : {A : Type 0} (x y : A) (xs ys : List A) → x ∷ xs ≡ y ∷ ys → x ≡ y
heads_same x y xs ys same = ap (λ l. get_or l 0 x) same

tails_same : {A : Type 0} (x y : A) (xs ys : List A) → x ∷ xs ≡ y ∷ ys → xs ≡ ys
tails_same x y xs ys same = ap (drop 1) same

pub same_entries : (format : Format) (entries others : List Entry) → AllByRecursion (IsEntry format) entries → AllByRecursion (IsEntry format) others
    → payloads_of format entries ≡ payloads_of format others → entries ≡ others
same_entries format [] [] each there same = refl
same_entries format [] (o ∷ os) each there same = absurd (cc same)
same_entries format (e ∷ es) [] each there same = absurd (cc same)
same_entries format (e ∷ es) (o ∷ os) each there same =
    let first = same_entry format e o each.0 there.0 (heads_same _ _ _ _ same) in
    let rest = same_entries format es os each.1 there.1 (tails_same _ _ _ _ same) in
    λ i. first i ∷ rest i

-- what stops reading is among no entries' payloads
pub no_stop : (format : Format) (others entries : List Entry) (payload : List ℕ) (behind : List (List ℕ)) → ((entry : Entry) → IsEntry format entry → payload ≢ payload_of format entry)
    → AllByRecursion (IsEntry format) entries → payloads_of format others ++ payload ∷ behind ≡ payloads_of format entries → ⊥
no_stop format [] [] payload behind other each same = absurd (cc same)
no_stop format [] (e ∷ es) payload behind other each same = other e each.0 (heads_same _ _ _ _ same)
no_stop format (o ∷ os) [] payload behind other each same = absurd (cc same)
no_stop format (o ∷ os) (e ∷ es) payload behind other each same = no_stop format os es payload behind other each.1 (tails_same _ _ _ _ same)
