use Rattle.std.proofs.Common.{◌≡◌, ◌≤◌, ◌+◌, ◌-◌, ◌*◌, ◌++◌, drop, flat_map, length, take}
use Rattle.nrm_findings.proofs.LegTexts.{number_word}
use Rattle.nrm_findings.proofs.values.push_levels.Given as goal

-- the protections so far stand in the text
abbrev pub invariant-loop-j : goal.invariant-loop-j
invariant-loop-j l = record {
  text : l.text ≡ l.initial.text ++ flat_map number_word (take (l.j - 1) (drop 1 l.table.protections));
  length : length l.text ≤ length l.initial.text + 21 * (l.j - 1);
  some : 1 ≤ l.j;
}
