-- How a job ends that has an opening plan, or none since its linear program is Large or memory ran out.
use Rattle.std.proofs.Common.{ℕ, ◌≡◌, List, Option, Some, Result, Ok, Err, IfErr, inl, inr, refl, subst}
use Rattle.nrm_model.specs.Inventory.{inventory_of}
use Rattle.nrm_model.specs.Network.{NetworkValue}
use Rattle.nrm_model.specs.declared.mode.Mode.{Mode}
use Rattle.nrm_simplex.specs.declared.fault.SolveFault.{SolveFault}
use Rattle.nrm_simplex.specs.declared.fault.SolveFault.TheVariants as fault
use Rattle.nrm_plan.specs.Plans.{IsPlanFault}
use Rattle.nrm_control.specs.Standing.{IsStartFault}
use Rattle.nrm_report.specs.Texts.{plan_text}
use Rattle.nrm_common_cli.specs.Outside.{LeftStream, Outside}
use Rattle.nrm_common_cli.specs.Words.{overflow_line, told_pivots}
use Rattle.nrm_common_cli.specs.Puts.{PutsLine, PutsUnplanned, TellsUnplanned}
use Rattle.nrm_cli.specs.Ends.{Ends, Failures}
use Rattle.nrm_cli.specs.Jobs.{Job, plan_file}
use Rattle.nrm_cli.specs.Inner.Parts.{PutsPlan}
use Rattle.nrm_cli.specs.Tells.{Opens, TellsNoPlan, TellsOf, of_network}
use Rattle.nrm_cli.specs.declared.status.Status.{Status}
use Rattle.nrm_cli.specs.declared.status.Status.TheVariants as status
use Rattle.nrm_cli.proofs.ToldEnds.{told-ends}
use Rattle.nrm_cli.specs.declared.status.TheConstants.{STATUSES}

-- what lacks a plan lacks a start
pub start-fault : (net : NetworkValue) (m : Mode) (why : SolveFault) → IsPlanFault net m (inventory_of net).authorised 1 why
    → IsStartFault net m why
start-fault net m (fault.Overflow pivots number) is = is
start-fault net m fault.NoMemory is = tt

-- a job that tells why its network has no plan
abbrev TellsNone : Job → Mode → NetworkValue → Outside → Type 0
TellsNone job m net before = (s : Status) (text : List ℕ) → TellsNoPlan net m s text → TellsOf job net before.files s text

module _ (job : Job) (m : Mode) (net : NetworkValue) (before after : Outside) (tells : TellsNone job m net before) (opens : Opens (Some job) job before net) (left : LeftStream before after) where
  -- ---- no plan
  ran-out : (s : Status) → PutsUnplanned STATUSES fault.NoMemory before.held after.held before.sink_faults after.sink_faults s
      → Ends (Some job) before after s
  ran-out s (told, kept, same) = rw told (kept, left)

  pub unplanned-ends : (why : SolveFault) (s : Status) → IsStartFault net m why
      → PutsUnplanned STATUSES why before.held after.held before.sink_faults after.sink_faults s → Ends (Some job) before after s
  unplanned-ends fault.NoMemory s is puts = ran-out s puts
  unplanned-ends (fault.Overflow pivots number) s (n, large, counted) puts =
      told-ends (Some job) before after status.Overflow s (overflow_line (told_pivots n) number)
      (of_network job net opens tt (tells status.Overflow (overflow_line (told_pivots n) number) (n, number, large, refl, refl)))
      (subst (λ (k : ℕ). PutsLine STATUSES (overflow_line k number) status.Overflow before.held after.held before.sink_faults after.sink_faults s) counted puts) left

-- and which counts stay
pub unplanned-failures : (before after : Outside) → after.file_faults ≡ before.file_faults → after.source_faults ≡ before.source_faults
    → (why : SolveFault) (s : Status)
    → PutsUnplanned STATUSES why before.held after.held before.sink_faults after.sink_faults s → Failures s before after
unplanned-failures before after files source fault.NoMemory s (is, kept, same) = rw is (record { files = files; source = source; sink = same })
unplanned-failures before after files source (fault.Overflow pivots number) s (inl (is, wrote, same)) = rw is (record { files = files; source = source; sink = same })
unplanned-failures before after files source (fault.Overflow pivots number) s (inr (is, front, rose)) = rw is (source, inl files)

-- nothing was planned, and it was put why
pub lacks-plan : {T : Type 0} (net : NetworkValue) (m : Mode) (held held' : Option (List ℕ)) (before now : ℕ) (planned : Result T SolveFault)
    → IfErr planned (IsStartFault net m) → (s : Status) → TellsUnplanned STATUSES planned held held' before now s
    → (why : SolveFault) × IsStartFault net m why × PutsUnplanned STATUSES why held held' before now s
lacks-plan net m held held' before now (Ok made) is s told = absurd told
lacks-plan net m held held' before now (Err why) is s told = (why, is, told)

-- ---- the plan's text, or none
pub planned-ends : (m : Mode) (file : List ℕ) (net : NetworkValue) (before after : Outside)
    → Opens (Some (plan_file m file)) (plan_file m file) before net → LeftStream before after
    → (s : Status) → PutsPlan net m before.held after.held before.sink_faults after.sink_faults s → Ends (Some (plan_file m file)) before after s
planned-ends m file net before after opens left s (inl (plan, is, puts)) =
    told-ends (Some (plan_file m file)) before after status.Done s (plan_text net plan)
    (of_network (plan_file m file) net opens tt (inl (plan, is, refl, refl))) puts left
planned-ends m file net before after opens left s (inr (why, is, puts)) = unplanned-ends (plan_file m file) m net before after (λ goes text none. inr none) opens left why s (start-fault net m why is) puts

pub planned-failures : (m : Mode) (net : NetworkValue) (before after : Outside) → after.file_faults ≡ before.file_faults
    → after.source_faults ≡ before.source_faults
    → (s : Status) → PutsPlan net m before.held after.held before.sink_faults after.sink_faults s → Failures s before after
planned-failures m net before after files source s (inl (plan, for, inl (is, wrote, same))) = rw is (record { files = files; source = source; sink = same })
planned-failures m net before after files source s (inl (plan, for, inr (is, front, rose))) = rw is (source, inl files)
planned-failures m net before after files source s (inr (why, none, puts)) = unplanned-failures before after files source why s puts
