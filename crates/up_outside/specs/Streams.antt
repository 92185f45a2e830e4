-- What contracts see of a reader as a source, and of a writer as a sink.
use Rattle.std.specs.Prelude.{ℕ, List, Option}

-- the bytes that the reader has left or that the writer holds, where it tells them, and how often a call failed
pub record Stream : Type 0 where
  pub bytes : Option (List ℕ)
  pub faults : ℕ
