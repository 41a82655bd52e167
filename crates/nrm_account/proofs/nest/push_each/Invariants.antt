use Rattle.std.proofs.Common.{◌≡◌, ◌≤◌, ◌+◌, ◌*◌, ◌++◌, flat_map, length, take}
use Rattle.std.specs.Prelude.{decimal}
use Rattle.nrm_text.specs.Words.{spaced}
use Rattle.nrm_account.proofs.nest.push_each.Given as goal

-- the numbers so far stand in the line
abbrev pub invariant-loop-seats : goal.invariant-loop-seats
invariant-loop-seats l = record {
  text : l.line ≡ l.initial.line ++ flat_map (λ seats. spaced (decimal seats)) (take l.seats-index l.demands);
  length : length l.line ≤ length l.initial.line + 21 * l.seats-index;
}
