-- A text that is told ends the call as it is defined, whole or cut.
use Rattle.std.proofs.Common.{ℕ, ◌≡◌, List, Option, None, inl, inr}
use Rattle.nrm_common_cli.specs.Outside.{NothingFailed, Outside, Wrote, LeftStream}
use Rattle.nrm_common_cli.specs.Puts.{PutsLine}
use Rattle.nrm_cli.specs.Ends.{Ends, Failures}
use Rattle.nrm_model.specs.Network.{NetworkValue}
use Rattle.nrm_cli.specs.Jobs.{Job}
use Rattle.nrm_cli.specs.Tells.{IsOfNetwork, Opens, Tells, TellsOf, Told, usage, refused, of_network, file_fault}
use Rattle.nrm_cli.specs.declared.status.Status.{Status}
use Rattle.nrm_cli.specs.declared.status.Status.TheVariants as status
use Rattle.nrm_cli.specs.declared.status.TheConstants.{STATUSES}

module _ (asked : Option Job) (before after : Outside) where
  told : (s : Status) (text : List ℕ) → Tells asked before after s text → Wrote before after text → LeftStream before after
      → Told asked before after s
  told s text tells wrote left = record { text = text; tells = tells; wrote = wrote; left = left }

  -- what a job tells of its network
  of-network-whole : (s : Status) (text : List ℕ) (job : Job) (net : NetworkValue) → Opens asked job before net → IsOfNetwork s
      → TellsOf job net before.files s text → Wrote before after text → LeftStream before after → Ends asked before after s
  of-network-whole status.Done text job net opens fits is wrote left = inr (told status.Done text (of_network job net opens fits is) wrote left)
  of-network-whole status.Wrong text job net opens fits is wrote left = told status.Wrong text (of_network job net opens fits is) wrote left
  of-network-whole status.Refused text job net opens fits is wrote left = told status.Refused text (of_network job net opens fits is) wrote left
  of-network-whole status.Overflow text job net opens fits is wrote left = told status.Overflow text (of_network job net opens fits is) wrote left
  of-network-whole status.NoLeg text job net opens fits is wrote left = told status.NoLeg text (of_network job net opens fits is) wrote left
  of-network-whole status.NoClass text job net opens fits is wrote left = told status.NoClass text (of_network job net opens fits is) wrote left
  of-network-whole status.Usage text job net opens fits is wrote left = absurd fits
  of-network-whole status.ReadFault text job net opens fits is wrote left = absurd fits
  of-network-whole status.WriteFault text job net opens fits is wrote left = absurd fits
  of-network-whole status.NoMemory text job net opens fits is wrote left = absurd fits
  of-network-whole status.TooLong text job net opens fits is wrote left = absurd fits
  of-network-whole status.FileFault text job net opens fits is wrote left = absurd fits

  whole : (s : Status) (text : List ℕ) → Tells asked before after s text → Wrote before after text → LeftStream before after
      → Ends asked before after s
  whole s text (usage none) wrote left = told s text (usage none) wrote left
  whole s text (refused refusal why) wrote left = told s text (refused refusal why) wrote left
  whole s text (of_network job net opens fits is) wrote left = of-network-whole s text job net opens fits is wrote left
  whole s text (file_fault job is names rose) wrote left = told s text (file_fault job is names rose) wrote left

  pub told-ends : (goes s : Status) (text : List ℕ) → Tells asked before after goes text
      → PutsLine STATUSES text goes before.held after.held before.sink_faults after.sink_faults s → LeftStream before after → Ends asked before after s
  told-ends goes s text tells (inl (is, wrote, same)) left = rw is (whole goes text tells wrote left)
  told-ends goes s text tells (inr (is, front, rose)) left = rw is (rose, inr (record { status = goes; text = text; tells = tells; wrote = front; left = left }))

  -- which counts stay with a status after which none rose, or with that of a line that was cut
  pub told-counts : (goes s : Status) (text : List ℕ) → after.file_faults ≡ before.file_faults → after.source_faults ≡ before.source_faults
      → PutsLine STATUSES text goes before.held after.held before.sink_faults after.sink_faults s → (NothingFailed before after → Failures goes before after) → Failures s before after
  told-counts goes s text files source (inl (is, wrote, same)) quiet = rw is (quiet (record { files = files; source = source; sink = same }))
  told-counts goes s text files source (inr (is, front, rose)) quiet = rw is (source, inl files)

-- nothing failed where what a job tells of its network is put whole
pub quiet-of-network : (before after : Outside) (s : Status) → IsOfNetwork s → NothingFailed before after → Failures s before after
quiet-of-network before after status.Done fits quiet = quiet
quiet-of-network before after status.Wrong fits quiet = quiet
quiet-of-network before after status.Refused fits quiet = quiet
quiet-of-network before after status.Overflow fits quiet = quiet
quiet-of-network before after status.NoLeg fits quiet = quiet
quiet-of-network before after status.NoClass fits quiet = quiet
quiet-of-network before after status.Usage fits quiet = absurd fits
quiet-of-network before after status.ReadFault fits quiet = absurd fits
quiet-of-network before after status.WriteFault fits quiet = absurd fits
quiet-of-network before after status.NoMemory fits quiet = absurd fits
quiet-of-network before after status.TooLong fits quiet = absurd fits
quiet-of-network before after status.FileFault fits quiet = absurd fits
