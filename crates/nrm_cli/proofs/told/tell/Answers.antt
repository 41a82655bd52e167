-- What the parts put of the network is told as the job of the telling.
use Rattle.std.proofs.Common.{ℕ, ◌≡◌, ◌≤◌, List, Option, Result, Ok, Err, arith, refl, subst, sym}
use Rattle.nrm_edge.specs.Fetch.{Folder}
use Rattle.nrm_model.specs.Network.{NetworkValue}
use Rattle.nrm_lp.specs.declared.certificate.Certificate.{Certificate}
use Rattle.nrm_cli.specs.Inner.Does.{DoesBeside, FilesAndSink}
use Rattle.nrm_cli.specs.Inner.Parts.{ChecksFile, CountsCertificate}
use Rattle.nrm_cli.specs.Jobs.{cut_leg, print_file, telling_of, value_leg}
use Rattle.nrm_cli.specs.LegTexts.{CutsTold, ValuesTold, cut, no_classes, unused, valued}
use Rattle.nrm_cli.specs.Tells.{IsOfNetwork, TellsFile}
use Rattle.nrm_cli.specs.declared.certificate.NoCertificate.{NoCertificate}
use Rattle.nrm_cli.specs.declared.certificate.NoCertificate.TheVariants as lacks
use Rattle.nrm_cli.specs.declared.status.Status.{Status}
use Rattle.nrm_cli.specs.declared.told.Telling.{Telling}
use Rattle.nrm_cli.proofs.CheckEnds.{checked-ends, checked-failures}
use Rattle.nrm_cli.proofs.LegEnds.{network-ends, network-failures}
use Rattle.nrm_cli.proofs.PlanEnds.{planned-ends, planned-failures}
use Rattle.nrm_cli.proofs.told.tell.Goals as goal

-- the statuses with which a network is printed, and a leg told of
file-fits : (net : NetworkValue) (s : Status) (text : List ℕ) → TellsFile net s text → IsOfNetwork s
file-fits net s text is = rw is.0 tt

cuts-fit : (net : NetworkValue) (leg : List ℕ) (groups : ℕ) (s : Status) (text : List ℕ) → CutsTold net leg groups s text → IsOfNetwork s
cuts-fit net leg groups s text (cut found is) = tt
cuts-fit net leg groups s text (unused is) = tt

values-fit : (net : NetworkValue) (leg : List ℕ) (s : Status) (text : List ℕ) → ValuesTold net leg s text → IsOfNetwork s
values-fit net leg s text (valued found is) = tt
values-fit net leg s text (no_classes is) = tt

-- what holds of a job holds of the telling that asks for it
of-telling : (file : List ℕ) (told known : Telling) (before after : FilesAndSink) (s : Status) → told ≡ known
    → DoesBeside (telling_of file known) before after s → DoesBeside (telling_of file told) before after s
of-telling file told known before after s is does = subst (λ (t : Telling). DoesBeside (telling_of file t) before after s) (sym is) does

-- no count falls where a certificate is opened
checked-later : (net : NetworkValue) (files : Option Folder) (name : List ℕ) (held held' : Option (List ℕ)) (before now sunk : ℕ) {sunk' : ℕ} (s : Status)
    → ChecksFile net files name held held' before now sunk sunk' s → before ≤ now
checked-later net files name held held' before now sunk s checks = by checks.opened checks.counts
  where
    by : (opened : Result Certificate NoCertificate) → CountsCertificate before now opened → before ≤ now
    by (Ok given) same = omega (arith, same)
    by (Err lacks.Absent) same = omega (arith, same)
    by (Err (lacks.Unread fault)) same = omega (arith, same)
    by (Err lacks.Fault) rose = rose.0

pub returns-in-Plan-clause-does : goal.returns-in-Plan-clause-does
returns-in-Plan-clause-does g c file opens =
    of-telling file c.args.telling.now _ _ _ c.put_plan.result c.in-Plan.is (λ coming faults. record {
      ends = planned-ends c.in-Plan.mode file c.args.net.now _ _ (refl, opens) refl c.put_plan.result c.put_plan.ensures.puts;
      failures = planned-failures c.in-Plan.mode c.args.net.now _ _ refl refl c.put_plan.result c.put_plan.ensures.puts;
      goes = record { files = refl; file_faults = omega arith; source_faults = omega arith; sink_faults = c.put_plan.ensures.later };
    })

pub returns-in-Check-clause-does : goal.returns-in-Check-clause-does
returns-in-Check-clause-does g c file opens =
    let net = c.args.net.now in
    let certificate = c.in-Check.certificate.now in
    let checks = c.check_certificate.ensures.checks in
    of-telling file c.args.telling.now _ _ _ c.check_certificate.result c.in-Check.is (λ coming faults. record {
      ends = checked-ends file certificate _ _ net (refl, opens) refl c.check_certificate.result checks;
      failures = checked-failures _ _ net refl certificate c.check_certificate.result checks;
      goes = record { files = c.check_certificate.ensures.files; file_faults = checked-later net _ certificate _ _ _ _ _ c.check_certificate.result checks; source_faults = omega arith; sink_faults = c.check_certificate.ensures.later };
    })

pub returns-in-Print-clause-does : goal.returns-in-Print-clause-does
returns-in-Print-clause-does g c file opens =
    let net = c.args.net.now in
    let puts = c.put_printed.ensures.puts in
    of-telling file c.args.telling.now _ _ _ c.put_printed.result c.in-Print.is (λ coming faults. record {
      ends = network-ends (print_file file) net _ _ (file-fits net) (refl, opens) refl c.put_printed.result puts;
      failures = network-failures (print_file file) net _ _ (file-fits net) refl refl c.put_printed.result puts;
      goes = record { files = refl; file_faults = omega arith; source_faults = omega arith; sink_faults = c.put_printed.ensures.later };
    })

pub returns-in-Cuts-clause-does : goal.returns-in-Cuts-clause-does
returns-in-Cuts-clause-does g c file opens =
    let net = c.args.net.now in
    let leg = c.in-Cuts.leg in
    let groups = c.in-Cuts.groups in
    let puts = c.put_cuts.ensures.puts in
    of-telling file c.args.telling.now _ _ _ c.put_cuts.result c.in-Cuts.is (λ coming faults. record {
      ends = network-ends (cut_leg file leg groups) net _ _ (cuts-fit net leg groups) (refl, opens) refl c.put_cuts.result puts;
      failures = network-failures (cut_leg file leg groups) net _ _ (cuts-fit net leg groups) refl refl c.put_cuts.result puts;
      goes = record { files = refl; file_faults = omega arith; source_faults = omega arith; sink_faults = c.put_cuts.ensures.later };
    })

pub returns-in-Values-clause-does : goal.returns-in-Values-clause-does
returns-in-Values-clause-does g c file opens =
    let net = c.args.net.now in
    let leg = c.in-Values.leg in
    let puts = c.put_values.ensures.puts in
    of-telling file c.args.telling.now _ _ _ c.put_values.result c.in-Values.is (λ coming faults. record {
      ends = network-ends (value_leg file leg) net _ _ (values-fit net leg) (refl, opens) refl c.put_values.result puts;
      failures = network-failures (value_leg file leg) net _ _ (values-fit net leg) refl refl c.put_values.result puts;
      goes = record { files = refl; file_faults = omega arith; source_faults = omega arith; sink_faults = c.put_values.ensures.later };
    })
