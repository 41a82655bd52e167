use Rattle.std.proofs.Common.{◌≡◌, map}
use Rattle.std.specs.List.{range_with_len}
use Rattle.nrm_model.specs.Demand.{total_to_come}
use Rattle.nrm_dlp.proofs.programs.bounds_of.Given as goal

abbrev pub invariant-loop-j : goal.invariant-loop-j
invariant-loop-j l = l.bounds.items ≡ map (λ j. total_to_come l.net j l.period) (range_with_len 0 l.j)
