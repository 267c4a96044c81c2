use Rattle.std.proofs.Common.{sym, ◌∙◌}
use Rattle.std.proofs.lemmas.Bool.{false≢true}
use Rattle.shop_model.specs.rows.Empty.{no_tables}
use Rattle.shop_book.proofs.Placed.{place_changed}
use Rattle.shop_book.proofs.WatchingLemmas.{spare_one}
use Rattle.shop_book.proofs.watching.raise_if_changed.Goals as goal

pub raise-requires-clause-place : goal.raise-requires-clause-place
raise-requires-clause-place c =
    place_changed c.args.versions.now c.args.rows.now no_tables c.args.kept.key c.args.kept.row c.requires.watchable c.requires.places
    (λ e. false≢true (sym c.if-not-shows.true ∙ (c.shows.ensures no_tables).1 e))

pub raise-requires-clause-spare : goal.raise-requires-clause-spare
raise-requires-clause-spare c = spare_one c.args.kept.key c.args.versions.now c.requires.spare
