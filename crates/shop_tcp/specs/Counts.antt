-- What contracts see of links over TCP and of their streams: counts alone.
use Rattle.std.specs.Prelude.{ℕ}

-- how many more reads can give bytes, and how many reads have failed
pub record Reads : Type 0 where
  pub left : ℕ
  pub faults : ℕ

-- how many calls have failed, and how many links were accepted and dialled
pub record Links : Type 0 where
  pub faults : ℕ
  pub accepted : ℕ
  pub dialled : ℕ
