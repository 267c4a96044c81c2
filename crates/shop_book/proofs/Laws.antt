-- The version of a key is the shortest front that shows what the key shows, and each front of the log is sound.
use Rattle.std.proofs.Common.{◌≡◌, ℕ, ◌+◌, ◌-◌, List, length, take, sym, subst, arith}
use Rattle.std.proofs.lemmas.List.{length-take-le}
use Rattle.shop_log.proofs.cited.Legality.{legal_front}
use Rattle.shop_log.proofs.cited.Shortest.{still_from, shortest}
use Rattle.shop_model.specs.declared.tables.Tables.{Tables}
use Rattle.shop_history.specs.declared.acts.Entry.{Entry}
use Rattle.shop_history.specs.declared.keys.Key.{Key}
use Rattle.shop_history.specs.Logs.{history, tables, version_of, MayFollow, IsGood}
use Rattle.shop_history.proofs.cited.GoodTables.{good_log}
use Rattle.shop_book.specs.Books.{BookValue, IsBook}
use Rattle.shop_book.specs.Laws.{IsShortest, IsGoodThroughout}

pub version_shortest : (t : Tables) (log : List Entry) (key : Key) (version : ℕ) → version ≡ version_of t log key → IsShortest t log key version
version_shortest t log key version is = subst (IsShortest t log key) (sym is) (record {
  still = still_from history t log key (version_of t log key) (omega arith);
  shortest = shortest history t log key;
})

pub good_throughout : (b : BookValue) → IsBook b → IsGoodThroughout b
good_throughout b book = λ count within.
    let size : length (take count b.log) ≡ count = length-take-le count b.log within in
    subst (λ n. IsGood (tables b.opening.tables (take count b.log)) (b.opening.limit + 1 - n)) size
    (good_log b.opening.tables (b.opening.limit + 1) book.opens.good (take count b.log) (legal_front (MayFollow b.opening.tables) b.log book.legal count) (omega (arith, size, within, book.short)))
