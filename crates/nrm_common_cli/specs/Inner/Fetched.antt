-- What was fetched is read as a network: it is too long, or isn't there, or its rows give a network or are refused; running out of memory is
-- free only where there are rows to read.
use Rattle.std.specs.Prelude.{ℕ, ◌≡◌, List, Result, Ok, Err, ⊤}
use Rattle.nrm_edge.specs.declared.files.Fetched.{Fetched}
use Rattle.nrm_edge.specs.declared.files.Fetched.TheVariants as fetched
use Rattle.nrm_model.specs.Network.{NetworkValue}
use Rattle.nrm_network.specs.File.{file_of}
use Rattle.nrm_network.specs.declared.fault.Why.TheVariants as why
use Rattle.nrm_common_cli.specs.declared.network_file.NoNetwork.{NoNetwork}
use Rattle.nrm_common_cli.specs.declared.network_file.NoNetwork.TheVariants as none

abbrev pub ReadsRows : List ℕ → Result NetworkValue NoNetwork → Type 0
ReadsRows bytes (Ok net) = file_of bytes ≡ Ok net
ReadsRows bytes (Err (none.Refused row cause)) = file_of bytes ≡ Err (row, cause)
ReadsRows bytes (Err none.NoMemory) = ⊤
ReadsRows bytes (Err none.Absent) = ⊥
ReadsRows bytes (Err none.Fault) = ⊥

abbrev pub ReadsNetwork : Fetched → Result NetworkValue NoNetwork → Type 0
ReadsNetwork (fetched.Whole bytes) result = ReadsRows bytes.items result
ReadsNetwork fetched.Longer result = result ≡ Err (none.Refused 0 why.Size)
ReadsNetwork fetched.Absent result = result ≡ Err none.Absent
