use Rattle.std.proofs.Common.{ℕ, Vec, map}
use Rattle.std.specs.declared.alloc.Global.{Global}
use Rattle.nrm_legdp.proofs.Filling.{IsFilled}
use Rattle.nrm_legdp.proofs.table.leg_values.Given as goal

abbrev pub invariant-loop-j : goal.invariant-loop-j
invariant-loop-j l = IsFilled (record { histories = l.n; fares = l.fares; demands = l.demands }) l.seats l.j (map (λ (row : Vec ℕ Global). row.items) l.rows.items) l.protections.items l.scale
