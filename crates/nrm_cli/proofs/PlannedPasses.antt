-- What a call with `plan bid FILE` wrote passes the check.
use Rattle.std.proofs.Common.{ℕ, ◌≡◌, ◌∙◌, ◌++◌, List, Option, Some, None, Result, Ok, Err, inl, inr, refl, ap, option_map, subst, sym}
use Rattle.std.proofs.lemmas.List.{append_cancel_left}
use Rattle.std.specs.Io.KnownBytes.{Appends}
use Rattle.nrm_edge.specs.Fetch.{Folder}
use Rattle.nrm_model.specs.Inventory.{inventory_of}
use Rattle.nrm_model.specs.Limits.{IsNetwork}
use Rattle.nrm_model.specs.Network.{NetworkValue}
use Rattle.nrm_model.specs.declared.mode.Mode.{Mode}
use Rattle.nrm_model.specs.declared.mode.Mode.TheVariants as mode
use Rattle.nrm_lp.specs.declared.certificate.Certificate.{Certificate}
use Rattle.nrm_lp.specs.Closing.{certificate}
use Rattle.nrm_simplex.specs.Solving.{IsClosing}
use Rattle.nrm_dlp.specs.Programs.{opening_program}
use Rattle.nrm_dual.specs.Conditions.{verdict_on}
use Rattle.nrm_dual.specs.Texts.{certificate_text}
use Rattle.nrm_dual.specs.declared.verdict.Verdict.TheVariants.{Optimal}
use Rattle.nrm_plan.specs.Plans.{HasCertificate, IsOpeningPlan, IsSolved, PlanValue}
use Rattle.nrm_report.specs.Texts.{plan_text, text_of_plan}
use Rattle.nrm_common_cli.specs.Outside.{OnFile, Outside, Wrote}
use Rattle.nrm_common_cli.specs.Refusals.{network_under}
use Rattle.nrm_findings.specs.Certificates.{LacksCertificate, certificate_under, verdict_line}
use Rattle.nrm_cli.specs.Ends.{Completes, Ends, IsDone, OrRanOut}
use Rattle.nrm_cli.specs.Jobs.{Job, run_file, plan_file, check_file, plans, runs}
use Rattle.nrm_cli.specs.Own.{PlannedPasses, WasPlanned}
use Rattle.nrm_cli.specs.Tells.{GivesNetwork, Tells, TellsOf, TellsVerdict, lacking, optimal, wrong, usage, refused, of_network, file_fault}
use Rattle.nrm_cli.specs.declared.status.Status.{Status}
use Rattle.nrm_cli.specs.declared.status.Status.TheVariants as status
use Rattle.nrm_common_cli.proofs.Networks.{taken-network}
use Rattle.nrm_cli.proofs.OwnPasses.{own-passes}

-- the certificate of an opening plan under bid-price control closes the opening linear program
module _ (net : NetworkValue) (plan : PlanValue) (is : IsOpeningPlan net mode.Bid plan) where
  solved : IsSolved net (inventory_of net).authorised 1 plan.certificate
  solved =
      subst (λ (m : Mode). HasCertificate net (inventory_of net).authorised 1 m plan.certificate) is.mode_is
      (subst (λ (k : ℕ). HasCertificate net (inventory_of net).authorised k plan.mode plan.certificate) is.period_is
      (subst (λ (left : List ℕ). HasCertificate net left plan.period plan.mode plan.certificate) is.left_is is.planned.certificate))

  closing-of : (cert : Option Certificate) → IsSolved net (inventory_of net).authorised 1 cert
      → (c : Certificate) × (cert ≡ Some c) × IsClosing (opening_program net) c
  closing-of None missing = absurd missing
  closing-of (Some c) closes = (c, refl, closes)

  -- so its text is read as a certificate at which no condition fails
  pub text-passes : IsNetwork net
      → (c : Certificate) × (certificate_under net (Some (plan_text net plan)) ≡ Ok c) × (verdict_on (opening_program net) c ≡ Optimal)
  text-passes limits =
      let (c, has, (n, t, closes, made)) = closing-of plan.certificate solved in
      let (reads, passes) = own-passes net limits n t closes in
      let text : plan_text net plan ≡ certificate_text net (certificate (opening_program net) t) = (λ n. text_of_plan net (is.mode_is n) plan.period (has n)) ∙ ap (certificate_text net) made in
      (certificate (opening_program net) t, ap (λ bytes. certificate_under net (Some bytes)) text ∙ reads, passes)

-- what a call with `plan bid FILE` wrote is the text of the network's opening plan
module _ (file : List ℕ) (before after : Outside) (files : Folder) (told : before.files ≡ Some files) where
  abbrev Planned : List ℕ → Type 0
  Planned text = (net : NetworkValue) × (plan : PlanValue) × (network_under (files file) ≡ Ok net) × IsOpeningPlan net mode.Bid plan × (text ≡ plan_text net plan)

  other-job : (job : Job) → Some (plan_file mode.Bid file) ≡ Some job → plan_file mode.Bid file ≡ job
  other-job job e = cc

  -- it was done, so there is a plan
  of-plan : (s : Status) (text : List ℕ) (net : NetworkValue) → s ≡ status.Done → GivesNetwork (plan_file mode.Bid file) before.files net
      → TellsOf (plan_file mode.Bid file) net before.files s text → Planned text
  of-plan s text net done gives (inl (plan, is, same, also)) = (net, plan, rw told at gives, is, same)
  of-plan s text net done gives (inr (n, number, large, overflowed, same)) = absurd (apart (sym overflowed ∙ done))
    where
      apart : status.Overflow ≡ status.Done → ⊥
      apart e = cc

  of-told : (s : Status) (text : List ℕ) → s ≡ status.Done → Tells (Some (plan_file mode.Bid file)) before after s text → Planned text
  of-told s text done (usage none) = cc
  of-told s text done (refused refusal why) = cc
  of-told s text done (of_network job net opens fits is) =
      let same = sym (other-job job opens.0) in
      of-plan s text net done (subst (λ (j : Job). GivesNetwork j before.files net) same opens.1) (subst (λ (j : Job). TellsOf j net before.files s text) same is)
  of-told s text done (file_fault job is names rose) = cc

-- the text that was written is the one that is told
written : (held text told : List ℕ) (before after : Option (List ℕ)) → before ≡ Some held → after ≡ Some (held ++ text)
    → Appends before after told → text ≡ told
written held text told before after was is wrote =
    let appended : held ++ text ≡ held ++ told = rw (was, is) at wrote in
    append_cancel_left held text told appended

was-planned : (contents : Option (List ℕ)) (text : List ℕ) → WasPlanned contents text
    → (net : NetworkValue) × (plan : PlanValue) × (network_under contents ≡ Ok net) × IsOpeningPlan net mode.Bid plan × (text ≡ plan_text net plan)
was-planned contents text w = by w.ends
  where
    apart : (m : Mode) → Some (plans mode.Bid) ≡ Some (runs m) → ⊥
    apart m e = cc

    other-run : (m : Mode) (f : List ℕ) → Some (plan_file mode.Bid w.file) ≡ Some (run_file m f) → ⊥
    other-run m f e = apart m (ap (option_map (λ (job : Job). job.task)) e)

    by : Ends (Some (plan_file mode.Bid w.file)) w.before w.after status.Done → (net : NetworkValue) × (plan : PlanValue) × (network_under contents ≡ Ok net) × IsOpeningPlan net mode.Bid plan × (text ≡ plan_text net plan)
    by (inl served) = absurd (other-run served.starts.mode served.starts.file served.starts.opens.0)
    by (inr t) =
        let (net, plan, gives, is, same) = of-told w.file w.before w.after w.files w.told status.Done t.text refl t.tells in
        (net, plan, subst (λ (c : Option (List ℕ)). network_under c ≡ Ok net) w.network_file gives, is, written w.held text t.text w.before.held w.after.held w.held_before w.held_after t.wrote ∙ same)

-- where a certificate is told and fails no condition, `optimal` is what is told of it
module _ (net : NetworkValue) (told : Option Folder) (files : Folder) (is : told ≡ Some files) (name : List ℕ) (c : Certificate)
    (reads : certificate_under net (files name) ≡ Ok c) (passes : verdict_on (opening_program net) c ≡ Optimal) where
  answer : (found : Result Certificate LacksCertificate) → OnFile told name (λ contents. certificate_under net contents ≡ found) → Ok c ≡ found
  answer found on = let here : certificate_under net (files name) ≡ found = rw is at on in sym reads ∙ here

  optimal-told : (s : Status) (text : List ℕ) → TellsVerdict net told name s text → (s ≡ status.Done) × (text ≡ verdict_line net Optimal)
  optimal-told s text (lacking reason on) = absurd (apart (answer (Err reason) on))
    where
      apart : ◌≡◌ {A = Result Certificate LacksCertificate} (Ok c) (Err reason) → ⊥
      apart e = cc
  optimal-told s text (optimal given on verdict shows) = (refl, refl)
  optimal-told s text (wrong given found on verdict other shaped) =
      let same : c ≡ given = ok-same given (answer (Ok given) on) in
      absurd (other (sym verdict ∙ ap (verdict_on (opening_program net)) (sym same) ∙ passes))
    where
      ok-same : (given : Certificate) → ◌≡◌ {A = Result Certificate LacksCertificate} (Ok c) (Ok given) → c ≡ given
      ok-same given e = cc

pub planned-passes : (asked : Option Job) (before after : Outside) (s : Status) → Completes asked before after s
    → PlannedPasses asked before after s
planned-passes asked before after s completes file name text files asks told holds was no_file no_sink =
    let (net, plan, gives, is, same) = was-planned (files file) text was in
    let (c, reads, passes) = text-passes net plan is (taken-network (files file) net gives) in
    let given : certificate_under net (files name) ≡ Ok c = ap (certificate_under net) (holds ∙ ap Some same) ∙ reads in
    by net c given passes (completes (check_file file name) net asks (files, told, gives) (record { files = λ names. no_file; stream = λ takes. absurd takes; output = no_sink }))
  where
    by : (net : NetworkValue) (c : Certificate) → certificate_under net (files name) ≡ Ok c → verdict_on (opening_program net) c ≡ Optimal
        → IsDone (check_file file name) net before after s → OrRanOut before after s status.Done (verdict_line net Optimal)
    by net c given passes (inl (inl (text, is, wrote))) =
        let (done, same) = optimal-told net before.files files told name c given passes s text is in
        inl (done, subst (λ (t : List ℕ). Wrote before after t) same wrote)
    by net c given passes (inl (inr out)) = inr out
    by net c given passes (inr never) = absurd never
