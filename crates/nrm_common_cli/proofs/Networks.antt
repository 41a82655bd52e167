-- What a file gives is a network within the limits.
use Rattle.std.proofs.Common.{ℕ, ◌≡◌, Some, None, Result, Ok, Err}
use Rattle.nrm_model.specs.Network.{NetworkValue}
use Rattle.nrm_network.specs.File.{file_of}
use Rattle.nrm_network.specs.declared.fault.Why.{Why}
use Rattle.nrm_network.proofs.ReadNetwork.{read-is-network}
use Rattle.nrm_common_cli.specs.NetworkFile.{FilesGiveNetworks}
use Rattle.nrm_common_cli.specs.Refusals.{Refusal, network_in}

pub taken-network : FilesGiveNetworks
taken-network None net gives = absurd (err-ok gives)
  where
    err-ok : {x : Refusal} → ◌≡◌ {A = Result NetworkValue Refusal} (Err x) (Ok net) → ⊥
    err-ok e = cc
taken-network (Some bytes) net gives = read-is-network bytes net (by (file_of bytes) gives)
  where
    by : (read : Result NetworkValue (ℕ × Why)) → network_in read ≡ Ok net → read ≡ Ok net
    by (Ok other) e = let same : ◌≡◌ {A = Result NetworkValue Refusal} (Ok other) (Ok net) = e in cc
    by (Err (row, cause)) e = absurd (err-ok e)
      where
        err-ok : {x : Refusal} → ◌≡◌ {A = Result NetworkValue Refusal} (Err x) (Ok net) → ⊥
        err-ok e = cc
