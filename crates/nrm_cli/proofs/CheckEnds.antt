-- How a check ends, out of what its parts say.
use Rattle.std.proofs.Common.{◌≡◌, ◌≢◌, ℕ, Some, None, Ok, Err, MatchResult, IfSome, option_map, inl, inr, refl, List, Option, Result}
use Rattle.nrm_model.specs.Network.{NetworkValue}
use Rattle.nrm_fraction.specs.Large.{size_limit}
use Rattle.nrm_lp.specs.declared.certificate.Certificate.{Certificate}
use Rattle.nrm_lp.specs.Certified.{Certifies}
use Rattle.nrm_dlp.specs.Programs.{opening_program}
use Rattle.nrm_dual.specs.Conditions.{verdict_on}
use Rattle.nrm_dual.specs.Refusals.{CertRefusal, refusal_of}
use Rattle.nrm_dual.specs.declared.verdict.Verdict.{Verdict}
use Rattle.nrm_dual.specs.declared.verdict.Verdict.TheVariants as verdict
use Rattle.nrm_common_cli.specs.Outside.{LeftStream, OnFile, Outside, WroteCut}
use Rattle.nrm_common_cli.specs.Refusals.{file_fault_line}
use Rattle.nrm_common_cli.specs.Puts.{PutsIfSome, PutsLine}
use Rattle.nrm_findings.specs.Certificates.{LacksCertificate, certificate_under, lacking_line, no_certificate, refused_for, verdict_line}
use Rattle.nrm_cli.specs.Ends.{Ends, Failures, FilesFailedBefore, status_of}
use Rattle.nrm_cli.specs.Jobs.{check_file}
use Rattle.nrm_cli.specs.Inner.Parts.{ChecksFile, CountsCertificate, OpensCertificate, PutsVerdict, lack_line, lack_status}
use Rattle.nrm_cli.specs.Tells.{IsOfNetwork, Opens, Tells, TellsVerdict, lacking, optimal, wrong, of_network, file_fault}
use Rattle.nrm_cli.specs.declared.certificate.NoCertificate.{NoCertificate}
use Rattle.nrm_cli.specs.declared.certificate.NoCertificate.TheVariants as lacks
use Rattle.nrm_cli.specs.declared.status.Status.{Status}
use Rattle.nrm_cli.specs.declared.status.Status.TheVariants as status
use Rattle.nrm_cli.proofs.ToldEnds.{told-ends}
use Rattle.nrm_cli.specs.declared.status.TheConstants.{STATUSES}

-- ---- the end of a check whose first file gave a network
module _ (file certificate : List ℕ) (before after : Outside) (net : NetworkValue) (opens : Opens (Some (check_file file certificate)) (check_file file certificate) before net) (left : LeftStream before after) where
  abbrev IsEnd : Status → Type 0
  IsEnd s = Ends (Some (check_file file certificate)) before after s

  abbrev IsTold : Status → List ℕ → Type 0
  IsTold s text = Tells (Some (check_file file certificate)) before after s text

  abbrev Puts : List ℕ → Status → Status → Type 0
  Puts text goes s = PutsLine STATUSES text goes before.held after.held before.sink_faults after.sink_faults s

  -- what a check tells of its network
  checked : (s : Status) (text : List ℕ) → IsOfNetwork s → TellsVerdict net before.files certificate s text → IsTold s text
  checked s text fits is = of_network (check_file file certificate) net opens fits is

  -- a verdict is told with its status
  verdict-told : (given : Certificate) (found : Verdict) → OnFile before.files certificate (λ contents. certificate_under net contents ≡ Ok given)
      → verdict_on (opening_program net) given ≡ found
      → found ≢ verdict.WrongShape → (found ≡ verdict.Optimal → Certifies size_limit (opening_program net) given) → IsTold (status_of found) (verdict_line net found)
  verdict-told given verdict.Optimal on is shaped shows = checked status.Done (verdict_line net verdict.Optimal) tt (optimal given on is (shows refl))
  verdict-told given verdict.WrongShape on is shaped shows = absurd (shaped refl)
  verdict-told given (verdict.WrongProduct j) on is shaped shows = checked status.Wrong (verdict_line net (verdict.WrongProduct j)) tt (wrong given (verdict.WrongProduct j) on is (λ e. cc) (λ e. cc))
  verdict-told given (verdict.WrongLeg i) on is shaped shows = checked status.Wrong (verdict_line net (verdict.WrongLeg i)) tt (wrong given (verdict.WrongLeg i) on is (λ e. cc) (λ e. cc))
  verdict-told given verdict.WrongValue on is shaped shows = checked status.Wrong (verdict_line net verdict.WrongValue) tt (wrong given verdict.WrongValue on is (λ e. cc) (λ e. cc))

  lacking-told : (reason : LacksCertificate) → OnFile before.files certificate (λ contents. certificate_under net contents ≡ Err reason)
      → IsTold status.Refused (lacking_line net reason)
  lacking-told reason on = checked status.Refused (lacking_line net reason) tt (lacking reason on)

  found-ends : (given : Certificate) (s : Status) → OnFile before.files certificate (λ contents. certificate_under net contents ≡ Ok given)
      → PutsVerdict net given before.held after.held before.sink_faults after.sink_faults s → IsEnd s
  found-ends given s on (inl (is, kept, same)) = rw is (kept, left)
  found-ends given s on (inr v) =
      told-ends (Some (check_file file certificate)) before after (status_of v.found) s (verdict_line net v.found) (verdict-told given v.found on v.verdict_is v.shaped v.optimal) v.puts left

  unread-ends : (o : Option CertRefusal) (s : Status)
      → OnFile before.files certificate (λ contents. IfSome o (λ cause. certificate_under net contents ≡ Err (refused_for cause)))
      → PutsIfSome STATUSES (option_map (λ cause. lacking_line net (refused_for cause)) o) status.Refused before.held after.held before.sink_faults after.sink_faults s → IsEnd s
  unread-ends None s on (is, kept, same) = rw is (kept, left)
  unread-ends (Some cause) s on puts =
      told-ends (Some (check_file file certificate)) before after status.Refused s (lacking_line net (refused_for cause)) (lacking-told (refused_for cause) on) puts left

  lacks-ends : (reason : NoCertificate) (s : Status) → OpensCertificate net before.files certificate (Err reason) → CountsCertificate {C = Certificate} before.file_faults after.file_faults (Err reason)
      → PutsIfSome STATUSES (lack_line net reason) (lack_status reason) before.held after.held before.sink_faults after.sink_faults s → IsEnd s
  lacks-ends lacks.Absent s on counts puts =
      told-ends (Some (check_file file certificate)) before after status.Refused s (lacking_line net no_certificate) (lacking-told no_certificate on) puts left
  lacks-ends (lacks.Unread fault) s on counts puts = unread-ends (refusal_of fault) s on puts
  lacks-ends lacks.Fault s on counts puts =
      told-ends (Some (check_file file certificate)) before after status.FileFault s file_fault_line (file_fault (check_file file certificate) refl tt counts.1) puts left

  by-opened : (opened : Result Certificate NoCertificate) (s : Status) → OpensCertificate net before.files certificate opened
      → CountsCertificate before.file_faults after.file_faults opened
      → MatchResult opened (λ given. PutsVerdict net given before.held after.held before.sink_faults after.sink_faults s)
      (λ reason. PutsIfSome STATUSES (lack_line net reason) (lack_status reason) before.held after.held before.sink_faults after.sink_faults s) → IsEnd s
  by-opened (Ok given) s on counts puts = found-ends given s on puts
  by-opened (Err reason) s on counts puts = lacks-ends reason s on counts puts

  pub checked-ends : (s : Status)
      → ChecksFile net before.files certificate before.held after.held before.file_faults after.file_faults before.sink_faults after.sink_faults s → IsEnd s
  checked-ends s checks = by-opened checks.opened s checks.opens checks.counts checks.puts

-- ---- and which counts stay
module _ (before after : Outside) (net : NetworkValue) (source : after.source_faults ≡ before.source_faults) where
  line-failures : (text : List ℕ) (goes s : Status) → PutsLine STATUSES text goes before.held after.held before.sink_faults after.sink_faults s
      → (after.sink_faults ≡ before.sink_faults → Failures goes before after) → (WroteCut before after text → FilesFailedBefore before after) → Failures s before after
  line-failures text goes s (inl (is, wrote, same)) whole cut = rw is (whole same)
  line-failures text goes s (inr (is, front, rose)) whole cut = rw is (source, cut front)

  quiet : (found : Verdict) → after.file_faults ≡ before.file_faults → after.sink_faults ≡ before.sink_faults
      → Failures (status_of found) before after
  quiet verdict.Optimal files sink = record { files = files; source = source; sink = sink }
  quiet verdict.WrongShape files sink = record { files = files; source = source; sink = sink }
  quiet (verdict.WrongProduct j) files sink = record { files = files; source = source; sink = sink }
  quiet (verdict.WrongLeg i) files sink = record { files = files; source = source; sink = sink }
  quiet verdict.WrongValue files sink = record { files = files; source = source; sink = sink }

  if-some-failures : (o : Option (List ℕ)) (goes s : Status)
      → PutsIfSome STATUSES o goes before.held after.held before.sink_faults after.sink_faults s
      → (after.sink_faults ≡ before.sink_faults → Failures goes before after) → (after.sink_faults ≡ before.sink_faults → Failures status.NoMemory before after) → after.file_faults ≡ before.file_faults → Failures s before after
  if-some-failures None goes s (is, kept, same) whole none files = rw is (none same)
  if-some-failures (Some text) goes s puts whole none files = line-failures text goes s puts whole (λ front. inl files)

  lacks-failures : (reason : NoCertificate) (s : Status) → CountsCertificate {C = Certificate} before.file_faults after.file_faults (Err reason)
      → PutsIfSome STATUSES (lack_line net reason) (lack_status reason) before.held after.held before.sink_faults after.sink_faults s → Failures s before after
  lacks-failures lacks.Absent s counts puts =
      if-some-failures (lack_line net lacks.Absent) status.Refused s puts (λ sink. record { files = counts; source = source; sink = sink }) (λ sink. record { files = counts; source = source; sink = sink }) counts
  lacks-failures (lacks.Unread fault) s counts puts =
      if-some-failures (lack_line net (lacks.Unread fault)) status.Refused s puts (λ sink. record { files = counts; source = source; sink = sink }) (λ sink. record { files = counts; source = source; sink = sink }) counts
  lacks-failures lacks.Fault s counts puts = line-failures file_fault_line status.FileFault s puts (λ sink. (source, sink)) (λ front. inr (counts.1, front))

  by-opened-failures : (opened : Result Certificate NoCertificate) (s : Status)
      → CountsCertificate before.file_faults after.file_faults opened
      → MatchResult opened (λ given. PutsVerdict net given before.held after.held before.sink_faults after.sink_faults s)
      (λ reason. PutsIfSome STATUSES (lack_line net reason) (lack_status reason) before.held after.held before.sink_faults after.sink_faults s) → Failures s before after
  by-opened-failures (Ok given) s counts (inl (is, kept, same)) = rw is (record { files = counts; source = source; sink = same })
  by-opened-failures (Ok given) s counts (inr v) = line-failures (verdict_line net v.found) (status_of v.found) s v.puts (λ sink. quiet v.found counts sink) (λ front. inl counts)
  by-opened-failures (Err reason) s counts puts = lacks-failures reason s counts puts

  pub checked-failures : (certificate : List ℕ) (s : Status)
      → ChecksFile net before.files certificate before.held after.held before.file_faults after.file_faults before.sink_faults after.sink_faults s → Failures s before after
  checked-failures certificate s checks = by-opened-failures checks.opened s checks.counts checks.puts
