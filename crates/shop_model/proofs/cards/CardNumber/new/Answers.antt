use Rattle.std.proofs.Common.{◌≡◌, ◌+◌, ◌-◌, ◌++◌, List, ℕ, length, take, drop, replicate, arith, sym, subst, ap, ◌∙◌, length-take-le, length-append, length-drop, take_at, drop_at}
use Rattle.std.proofs.lemmas.List.{drop-replicate}
use Rattle.shop_model.specs.asked.Cards.{IsCardNumber}
use Rattle.shop_model.specs.asked.CardNumberView.{IsKept}
use Rattle.shop_model.proofs.cited.Cards.{card_number_digits}
use Rattle.shop_model.proofs.cards.CardNumber.new.Goals as goal

pub slice_bounds-digits-end : goal.slice_bounds-digits-end
slice_bounds-digits-end c = (card_number_digits c.args.bytes.now c.requires).0

pub slice_bounds-copy_from_slice-end : goal.slice_bounds-copy_from_slice-end
slice_bounds-copy_from_slice-end c = sym (length-take-le (length c.args.bytes.now) (replicate 19 0) (card_number_digits c.args.bytes.now c.requires).0)

pub copy_from_slice-requires : goal.copy_from_slice-requires
copy_from_slice-requires c = length-take-le (length c.args.bytes.now) (replicate 19 0) (card_number_digits c.args.bytes.now c.requires).0

-- zeros stand behind the digits
kept : (bytes part : List ℕ) → IsCardNumber bytes → part ≡ bytes → IsKept (record { digits = part ++ drop (length bytes) (replicate 19 0); len = length bytes })
kept bytes part form same =
    let few = (card_number_digits bytes form).0 in
    let all : List ℕ = replicate 19 0 in
    let rest : List ℕ = drop (length bytes) all in
    let long : length part ≡ length bytes = ap length same in
    let more : length rest ≡ 19 - length bytes = length-drop (length bytes) all in
    let front : take (length bytes) (part ++ rest) ≡ part = take_at part rest _ long in
    let size : length part + length rest ≡ 19 = omega (arith, long, more, few) in
    record {
      size = length-append part rest ∙ size;
      within = few;
      number = subst IsCardNumber (sym (front ∙ same)) form;
      zeros = drop_at part rest _ long ∙ drop-replicate (length bytes) 19 0;
    }

pub invariant_of-result : goal.invariant_of-result
invariant_of-result c = kept c.args.bytes.now _ c.requires c.copy_from_slice.ensures.after
