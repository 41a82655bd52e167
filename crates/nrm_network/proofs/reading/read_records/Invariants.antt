use Rattle.std.proofs.Common.{◌≡◌, ◌-◌, ℕ, List, Some, length}
use Rattle.csv.specs.Reading.{Reached, Ready, default_config, source_of, strip_bom}
use Rattle.csv.specs.declared.parser.State.TheVariants as st
use Rattle.csv.specs.declared.reader.Trim.TheVariants as trim
use Rattle.nrm_network.specs.Inner.Draft.{Stands}
use Rattle.nrm_network.specs.Rows.{Row}
use Rattle.nrm_network.proofs.reading.read_records.Given as goal

abbrev pub invariant-loop-row : goal.invariant-loop-row
invariant-loop-row l = (l.rdr.trim ≡ trim.None) × Ready l.rdr × (l.rdr.config ≡ default_config)
    × (y : List ℕ) × (rows : List Row) × (source_of (λ s. Some s.now) l.rdr ≡ Some y)
    × Reached default_config st.StartRecord (strip_bom l.fn.bytes) rows l.rdr.state y
    × Stands l.draft rows × (l.taken ≡ length rows)

-- a file of so many bytes has no more rows
abbrev pub decreases-loop-row : goal.decreases-loop-row
decreases-loop-row l = 4194305 - l.taken
