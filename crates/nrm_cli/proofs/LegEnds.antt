-- How a job ends that tells of its network and nothing else.
use Rattle.std.proofs.Common.{ℕ, ◌≡◌, List, Some, inl, inr}
use Rattle.nrm_model.specs.Network.{NetworkValue}
use Rattle.nrm_common_cli.specs.Outside.{LeftStream, Outside}
use Rattle.nrm_cli.specs.Ends.{Ends, Failures}
use Rattle.nrm_cli.specs.Inner.Parts.{PutsTold}
use Rattle.nrm_cli.specs.Jobs.{Job}
use Rattle.nrm_cli.specs.Tells.{IsOfNetwork, Opens, TellsOf, of_network}
use Rattle.nrm_cli.specs.declared.status.Status.{Status}
use Rattle.nrm_cli.proofs.ToldEnds.{quiet-of-network, told-counts, told-ends}

module _ (job : Job) (net : NetworkValue) (before after : Outside)
    (fits : (s : Status) (text : List ℕ) → TellsOf job net before.files s text → IsOfNetwork s) where
  pub network-ends : Opens (Some job) job before net → LeftStream before after
      → (s : Status) → PutsTold (TellsOf job net before.files) before.held after.held before.sink_faults after.sink_faults s → Ends (Some job) before after s
  network-ends opens left s (inl (is, kept, same)) = rw is (kept, left)
  network-ends opens left s (inr (goes, text, is, puts)) =
      told-ends (Some job) before after goes s text (of_network job net opens (fits goes text is) is) puts left

  -- and which counts stay
  pub network-failures : after.file_faults ≡ before.file_faults → after.source_faults ≡ before.source_faults
      → (s : Status) → PutsTold (TellsOf job net before.files) before.held after.held before.sink_faults after.sink_faults s → Failures s before after
  network-failures files source s (inl (is, kept, same)) = rw is (record { files = files; source = source; sink = same })
  network-failures files source s (inr (goes, text, is, puts)) =
      told-counts (Some job) before after goes s text files source puts (quiet-of-network before after goes (fits goes text is))
