use Rattle.std.proofs.Common.{◌≡◌, ◌-◌, ◌≤◌, ◌++◌, drop, length, take}
use Rattle.nrm_network.specs.Inner.Lines.{cut_at_commas, line_of}
use Rattle.nrm_network.proofs.LineCuts.{CutTo}
use Rattle.nrm_network.proofs.line.first_line.Given as goal

-- the bytes before the place are of the line, and were cut
abbrev pub invariant-loop-end : goal.invariant-loop-end
invariant-loop-end l = record {
  within : l.end ≤ length l.bytes;
  line : line_of l.bytes ≡ take l.end l.bytes ++ line_of (drop l.end l.bytes);
  cut : CutTo l.bytes l.end (cut_at_commas (take l.end l.bytes)) l.count l.starts;
}

abbrev pub decreases-loop-end : goal.decreases-loop-end
decreases-loop-end l = length l.bytes - l.end
