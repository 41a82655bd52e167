use Rattle.std.proofs.Common.{◌≡◌, ◌-◌, ◌≤◌, ◌++◌, List, drop, length}
use Rattle.csv.specs.Reading.{default_config, records}
use Rattle.nrm_network.specs.Inner.Draft.{Stands}
use Rattle.nrm_network.specs.Rows.{Row}
use Rattle.nrm_network.proofs.reading.read_lines.Given as goal

-- the rows before the place were taken
abbrev pub invariant-loop-at : goal.invariant-loop-at
invariant-loop-at l = (rows : List Row) × Stands l.draft rows × (l.taken ≡ length rows) × (l.taken ≤ l.at) × (l.at ≤ length l.text)
    × (records default_config l.text ≡ rows ++ records default_config (drop l.at l.text))

abbrev pub decreases-loop-at : goal.decreases-loop-at
decreases-loop-at l = length l.text - l.at
