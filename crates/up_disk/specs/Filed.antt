-- What contracts see of a file as a disk: how many blocks it has, and how many calls failed.
use Rattle.std.specs.Prelude.{ℕ}

pub record Filed : Type 0 where
  pub count : ℕ
  pub faults : ℕ
