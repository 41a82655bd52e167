-- What waits to be told to a client.
use Rattle.std.specs.Prelude.{ℕ, List}

-- the bytes that wait, and how often a put has failed
pub record OutboxValue : Type 0 where
  pub waiting : List ℕ
  pub faults : ℕ
