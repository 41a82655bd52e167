use Rattle.std.proofs.Common.{◌≡◌, map}
use Rattle.std.specs.List.{range_with_len}
use Rattle.nrm_emsr.specs.Protections.{protections_of}
use Rattle.nrm_plan.proofs.nests.protections_of_legs.Given as goal

-- the protections of the legs so far
abbrev pub invariant-loop-leg : goal.invariant-loop-leg
invariant-loop-leg l = map (λ v. v.items) l.levels.items ≡ map (λ i. protections_of l.net l.certificate i l.period) (range_with_len 0 l.leg)
