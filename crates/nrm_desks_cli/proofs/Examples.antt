-- Statuses, words and frames that may not come, which a reader can check by hand.
use Rattle.std.proofs.Common.{◌≡◌, [], ◌∷◌, inl, inr, refl}
use Rattle.std.specs.Prelude.{codes, Some, None}
use Rattle.nrm_control.specs.Standing.{ControlValue}
use Rattle.nrm_frames.specs.Headers.{no_rights}
use Rattle.nrm_frames.specs.declared.header.Header.TheVariants as header
use Rattle.nrm_model.specs.declared.mode.Mode.TheVariants as mode
use Rattle.nrm_hub.specs.Hub.{HubValue, new_hub}
use Rattle.nrm_hub.specs.declared.phase.Phase.TheVariants as phase
use Rattle.nrm_desks_cli.specs.Jobs.{desks_job_of, usage_line}
use Rattle.nrm_desks_cli.specs.Served.{MayNotCome}
use Rattle.nrm_desks_cli.specs.Statuses.{number_of}
use Rattle.nrm_desks_cli.specs.declared.serving.TheConstants.{MOST_BYTES}
use Rattle.nrm_desks_cli.specs.declared.status.DesksStatus.TheVariants as status

-- ---- the exit statuses
done : number_of status.Done ≡ 0
done = refl

usage : number_of status.Usage ≡ 2
usage = refl

refused : number_of status.Refused ≡ 3
refused = refl

read_fault : number_of status.ReadFault ≡ 4
read_fault = refl

write_fault : number_of status.WriteFault ≡ 5
write_fault = refl

memory : number_of status.NoMemory ≡ 6
memory = refl

overflow : number_of status.Overflow ≡ 7
overflow = refl

too_long : number_of status.TooLong ≡ 8
too_long = refl

file_fault : number_of status.FileFault ≡ 9
file_fault = refl

no_frame : number_of status.NoFrame ≡ 10
no_frame = refl

no_row_status : number_of status.NoRow ≡ 11
no_row_status = refl

differs_status : number_of status.Differs ≡ 12
differs_status = refl

-- ---- words
usage_is : usage_line ≡ codes "usage: nrm_desks MODE FILE\n"
usage_is = refl

first : desks_job_of (codes "first" ∷ codes "net.csv" ∷ []) ≡ Some (record { mode = mode.FirstCome; file = codes "net.csv" })
first = refl

no_mode : desks_job_of (codes "fast" ∷ codes "net.csv" ∷ []) ≡ None
no_mode = refl

few_words : desks_job_of (codes "first" ∷ []) ≡ None
few_words = refl

many_words : desks_job_of (codes "first" ∷ codes "net.csv" ∷ codes "1" ∷ []) ≡ None
many_words = refl

-- ---- frames that may not come
module _ (control : ControlValue) where
  -- all rows were given again, and nobody was opened
  at_ready : HubValue
  at_ready = record (new_hub control) { phase = phase.Settled }

  piece_before_ready : MayNotCome (new_hub control) (header.Came 0 5)
  piece_before_ready = refl

  open_before_ready : MayNotCome (new_hub control) (header.Open 0 (codes "DESK-A") no_rights)
  open_before_ready = inl refl

  rows_behind_ready : MayNotCome at_ready (header.Again 5)
  unfolding at_ready
  rows_behind_ready = λ (never : phase.Settled ≡ phase.Replaying). cc

  kept_unawaited : MayNotCome at_ready header.Kept
  unfolding at_ready
  kept_unawaited = λ (never : phase.Settled ≡ phase.Asked). cc

  rows_may_come : MayNotCome (new_hub control) (header.Again 5) → ⊥
  rows_may_come is = is refl

  open_may_come : MayNotCome at_ready (header.Open 7 (codes "DESK-A") no_rights) → ⊥
  unfolding at_ready
  open_may_come (inl is) = let never : phase.Settled ≡ phase.Replaying = is in cc
  open_may_come (inr taken) = taken refl

end_may_come : (hub : HubValue) → MayNotCome hub header.End → ⊥
end_may_come hub never = never

-- ---- the most bytes that are counted
most_bytes : MOST_BYTES ≡ 4611686018427387904
most_bytes = refl
