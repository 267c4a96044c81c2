use Rattle.std.proofs.Common.{◌≡◌, sym, ◌∙◌, ap}
use Rattle.std.proofs.lemmas.Bool.{both_ways}
use Rattle.std.proofs.lemmas.Slice.Eq.{bytes_eq-Decides}
use Rattle.shop_journal.specs.declared.headers.Head.{Head}
use Rattle.shop_journal.specs.Headers.{header_of}
use Rattle.shop_journal.proofs.Heads.{customers_again, items_again, seed_again}
use Rattle.shop_journal.proofs.headers.head_in.Goals as goal

pub returns-in_default-clause-kept : goal.returns-in_default-clause-kept
returns-in_default-clause-kept c = λ head is same.
    let header = c.args.header.now in
    let items = sym (c.word_at.ensures ∙ items_again c.args.format head header is same) in
    let customers = sym (c.word_at-2.ensures ∙ customers_again c.args.format head header is same) in
    absurd (c.in_default.not-Some head.scale (c.scale_of.ensures head.scale is.scale items customers))

pub returns-else-eq-clause-kept : goal.returns-else-eq-clause-kept
returns-else-eq-clause-kept c = λ head is same.
    let header = c.args.header.now in
    let format = c.args.format in
    let items = sym (c.word_at.ensures ∙ items_again format head header is same) in
    let customers = sym (c.word_at-2.ensures ∙ customers_again format head header is same) in
    let found = sym c.in-Some.is ∙ c.scale_of.ensures head.scale is.scale items customers in
    let scales : c.in-Some.scale ≡ head.scale = cc found in
    let seeds : c.word_at-3.result ≡ head.seed = c.word_at-3.ensures ∙ seed_again format head header is same in
    let heads : record { seed = c.word_at-3.result; scale = c.in-Some.scale } ≡ head = λ i. record { seed = seeds i; scale = scales i } in
    let written : c.bytes-2.result.now ≡ header = c.bytes-2.ensures ∙ c.in_ok-header_text.ensures.header ∙ ap (λ (h : Head). header_of format h) heads ∙ sym same in
    absurd (both_ways _ (sym c.eq.ensures ∙ c.if-eq.false) ((bytes_eq-Decides _ _).1 written))
