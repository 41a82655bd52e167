-- What is read is within the limits, and what a file of version 1 says of authorised seats.
use Rattle.std.specs.Prelude.{ℕ, ◌≡◌, List, Ok, All}
use Rattle.nrm_model.specs.declared.leg.Leg.{Leg}
use Rattle.nrm_model.specs.Network.{NetworkValue}
use Rattle.nrm_model.specs.Limits.{IsNetwork}
use Rattle.nrm_network.specs.File.{file_of}
use Rattle.nrm_network.specs.Rows.{rows_of, version_in}

-- a file that is taken gives a network within the limits
abbrev pub ReadIsNetwork : Type 0
ReadIsNetwork = (bytes : List ℕ) (net : NetworkValue) → file_of bytes ≡ Ok net → IsNetwork net

-- a file of version 1 authorises each leg's seats, no more and no fewer
abbrev pub FirstVersionAuthorisesSeats : Type 0
FirstVersionAuthorisesSeats = (bytes : List ℕ) (net : NetworkValue) → version_in (rows_of bytes) ≡ 1 → file_of bytes ≡ Ok net
    → All (λ (leg : Leg). leg.authorised ≡ leg.seats) net.legs
