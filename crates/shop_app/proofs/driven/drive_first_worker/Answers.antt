use Rattle.std.proofs.Common.{◌≡◌, ◌∙◌, ap, refl}
use Rattle.std.proofs.lemmas.Result.{IfOk-weaker}
use Rattle.shop_book.specs.Books.{BookValue}
use Rattle.shop_book.specs.Solos.{SoloValue}
use Rattle.shop_app.proofs.DriveLemmas.{drove_by, first_is, on_err, unfinished}
use Rattle.shop_app.proofs.driven.drive_first_worker.Goals as goal

pub returns-clause-ok : goal.returns-clause-ok
returns-clause-ok g c =
    let driven = c.drive_with_notes-driven.ensures in
    let left : c.into_book-book.result ≡ c.drive_with_notes-driven.new.worker.store.book = c.into_book-book.ensures ∙ ap (λ (s : SoloValue). s.book) c.into_store.ensures in
    IfOk-weaker c.lines_if_driven.result _ _
    (λ lines tells. drove_by c.args.asked.now _ _ _ _ driven.driven.0 (first_is c.args.asked.now c.args.worker c.deref_mut.result.now _ _ c.requires.worker (c.deref_mut.ensures.value ∙ c.requires.browsers)) refl refl driven.later
    _ c.drive_with_notes-driven.result c.into_book-book.result lines driven.driven.2 tells refl driven.driven.1 driven.lawful
    (ap (λ (b : BookValue). b.opening.tables) left) (ap (λ (b : BookValue). b.log) left))
    c.lines_if_driven.ensures

pub returns-clause-err : goal.returns-clause-err
returns-clause-err g c =
    let driven = c.drive_with_notes-driven.ensures in
    on_err _ c.lines_if_driven.result
    (unfinished c.args.asked.now _ _ _ _ driven.driven.0 (first_is c.args.asked.now c.args.worker c.deref_mut.result.now _ _ c.requires.worker (c.deref_mut.ensures.value ∙ c.requires.browsers)) refl refl driven.later
    _ c.drive_with_notes-driven.result driven.driven.2 refl driven.driven.1)
