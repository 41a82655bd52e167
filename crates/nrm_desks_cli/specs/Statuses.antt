-- The exit statuses.
use Rattle.std.specs.Prelude.{ℕ}
use Rattle.nrm_desks_cli.specs.declared.status.DesksStatus.{DesksStatus}
use Rattle.nrm_desks_cli.specs.declared.status.DesksStatus.TheVariants as status

abbrev pub number_of : DesksStatus → ℕ
number_of status.Done = 0
number_of status.Usage = 2
number_of status.Refused = 3
number_of status.ReadFault = 4
number_of status.WriteFault = 5
number_of status.NoMemory = 6
number_of status.Overflow = 7
number_of status.TooLong = 8
number_of status.FileFault = 9
number_of status.NoFrame = 10
number_of status.NoRow = 11
number_of status.Differs = 12
