-- The table, filled by the rule of protections alone.
use Rattle.std.specs.Prelude.{ℕ, ◌+◌, ◌-◌, ◌*◌, List, sum_by, min}

-- the worth of x seats with one class more, of which each demand is sold what is left above y
abbrev pub worth_above : ℕ → (ℕ → ℕ) → ℕ → List ℕ → ℕ → ℕ
worth_above pay worth y demands x = sum_by (λ d. pay * min d (x - y) + worth (x - min d (x - y))) demands
