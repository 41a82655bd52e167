-- A real stream and a count of its failures.
use Rattle.std.specs.Prelude.{ℕ, List}

-- a reader or a writer, and how often it has failed
pub record Counted (S : Type 0) : Type 0 where
  pub stream : S
  pub faults : ℕ

-- a sink, and the bytes that wait before it
pub record Gathered (K : Type 0) : Type 0 where
  pub sink : K
  pub gathered : List ℕ
