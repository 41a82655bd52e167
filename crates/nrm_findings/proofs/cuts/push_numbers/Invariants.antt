use Rattle.std.proofs.Common.{◌≡◌, ◌≤◌, ◌+◌, ◌*◌, ◌++◌, flat_map, length, take}
use Rattle.nrm_findings.proofs.LegTexts.{number_word}
use Rattle.nrm_findings.proofs.cuts.push_numbers.Given as goal

-- the numbers so far stand in the text
abbrev pub invariant-loop-number : goal.invariant-loop-number
invariant-loop-number l = record {
  text : l.text ≡ l.initial.text ++ flat_map number_word (take l.number-index l.numbers);
  length : length l.text ≤ length l.initial.text + 21 * l.number-index;
}
