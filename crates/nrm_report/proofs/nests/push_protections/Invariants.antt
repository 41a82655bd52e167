use Rattle.std.proofs.Common.{◌≡◌, ◌≤◌, ◌+◌, ◌*◌, ◌++◌, [], Some, flat_map, get_or, length, take}
use Rattle.std.specs.Prelude.{decimal}
use Rattle.nrm_text.specs.Words.{spaced}
use Rattle.nrm_plan.specs.Nesting.{NestsValue}
use Rattle.nrm_report.proofs.nests.push_protections.Given as goal

-- the protections so far stand in the line
abbrev pub invariant-loop-above : goal.invariant-loop-above
invariant-loop-above l = record {
  text : (nests : NestsValue) → l.plan.nests ≡ Some nests
      → l.line ≡ l.initial.line ++ flat_map (λ seats. spaced (decimal seats)) (take l.above (get_or nests.protections l.leg []));
  length : length l.line ≤ length l.initial.line + 21 * l.above;
}
