-- What is known of a reader and a writer of std under the shop's adapters.
use Rattle.std.specs.Prelude.{ℕ}
use Rattle.shop_edges.specs.declared.source.Got.{Got}
use Rattle.shop_edges.specs.declared.source.Got.TheVariants as got
use Rattle.shop_edges.specs.declared.sink.Took.{Took}
use Rattle.shop_edges.specs.declared.sink.Took.TheVariants as took
use Rattle.shop_edges.specs.Causes.{count_up}

-- the reader, how many more reads it is asked for, and how many have failed
pub record ReaderState (R : Type 0) : Type 0 where
  pub reader : R
  pub reads : ℕ
  pub faults : ℕ

-- the writer, and how many writes have failed
pub record WriterState (W : Type 0) : Type 0 where
  pub writer : W
  pub faults : ℕ

-- exactly a failed read counts a fault
abbrev pub faults_after_read : Got → ℕ → ℕ
faults_after_read (got.Bytes n) faults = faults
faults_after_read got.End faults = faults
faults_after_read got.Failed faults = count_up faults

-- exactly a failed write counts a fault
abbrev pub faults_after_write : Took → ℕ → ℕ
faults_after_write (took.Bytes n) faults = faults
faults_after_write took.Failed faults = count_up faults
