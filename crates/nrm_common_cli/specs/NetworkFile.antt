-- What is answered to the name of a network file.
use Rattle.std.specs.Prelude.{ℕ, ◌≡◌, ◌≤◌, List, Option, Some, None, Result, Ok, Err, ⊤}
use Rattle.nrm_edge.specs.Causes.{Rose}
use Rattle.nrm_edge.specs.Fetch.{Folder}
use Rattle.nrm_model.specs.Limits.{IsNetwork}
use Rattle.nrm_model.specs.Network.{NetworkValue}
use Rattle.nrm_common_cli.specs.Outside.{OnFile}
use Rattle.nrm_common_cli.specs.Refusals.{no_file, at_row, network_under, refusal_line, file_fault_line}
use Rattle.nrm_common_cli.specs.declared.network_file.NoNetwork.{NoNetwork}
use Rattle.nrm_common_cli.specs.declared.network_file.NoNetwork.TheVariants as none

-- the network of the file of this name, where the files are told, or why there is none; a fault of the files tells nothing of
-- them, and running out of memory is free
abbrev pub OpensFile : Option Folder → List ℕ → Result NetworkValue NoNetwork → Type 0
OpensFile files name (Ok net) = OnFile files name (λ file. network_under file ≡ Ok net)
OpensFile files name (Err none.Absent) = OnFile files name (λ file. network_under file ≡ Err no_file)
OpensFile files name (Err (none.Refused row cause)) = OnFile files name (λ file. network_under file ≡ Err (at_row row cause))
OpensFile files name (Err none.Fault) = ⊤
OpensFile files name (Err none.NoMemory) = ⊤

-- the count of faults rose with a fault of the files, and else it stays
abbrev pub CountsFetch : ℕ → ℕ → Result NetworkValue NoNetwork → Type 0
CountsFetch before now (Ok net) = now ≡ before
CountsFetch before now (Err none.Absent) = now ≡ before
CountsFetch before now (Err (none.Refused row cause)) = now ≡ before
CountsFetch before now (Err none.Fault) = (before ≤ now) × Rose before now
CountsFetch before now (Err none.NoMemory) = now ≡ before

-- what is written of a reason: the line of a refusal or of a fault of the files, and nothing if memory ran out
abbrev pub reason_line : NoNetwork → Option (List ℕ)
reason_line none.Absent = Some (refusal_line no_file)
reason_line (none.Refused row cause) = Some (refusal_line (at_row row cause))
reason_line none.Fault = Some file_fault_line
reason_line none.NoMemory = None

-- what a file gives is a network within the limits, as the laws of sessions ask for
abbrev pub FilesGiveNetworks : Type 0
FilesGiveNetworks = (contents : Option (List ℕ)) (net : NetworkValue) → network_under contents ≡ Ok net → IsNetwork net
