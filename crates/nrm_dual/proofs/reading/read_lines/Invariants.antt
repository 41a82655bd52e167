use Rattle.std.proofs.Common.{◌≡◌, ◌≤◌, ◌+◌, length}
use Rattle.nrm_stream.specs.Lines.{lines_of}
use Rattle.nrm_dual.specs.Reading.{after_lines}
use Rattle.nrm_dual.specs.Inner.Sheets.{IsSheetOf}
use Rattle.nrm_dual.proofs.reading.read_lines.Given as goal

abbrev pub invariant-loop-line : goal.invariant-loop-line
invariant-loop-line l = record {
  so_far : after_lines l.net l.fn.sheet 1 (lines_of l.bytes) ≡ after_lines l.net l.sheet l.number (lines_of l.rest);
  sheet : IsSheetOf l.net l.sheet;
  few : l.number + length l.rest ≤ 65537;
}

abbrev pub decreases-loop-line : goal.decreases-loop-line
decreases-loop-line l = length l.rest
