-- If the words are good, the file is valid, the stream isn't too long and nothing failed, the account comes.
use Rattle.std.proofs.Common.{ℕ, ◌≡◌, ◌∙◌, ◌-◌, ◌<◌, ◌≤◌, ◌++◌, List, [], ◌∷◌, length, Option, Some, None, Ok, Err, ap, sym, inl, inr, arith, append-nil, length-append, subst}
use Rattle.std.specs.Io.KnownBytes.{Appends, Consumes, IsAtEnd, Keeps}
use Rattle.std.proofs.lemmas.Option.{none-some}
use Rattle.nrm_edge.specs.Fetch.{Folder}
use Rattle.nrm_model.specs.Inventory.{inventory_of}
use Rattle.nrm_model.specs.Network.{NetworkValue}
use Rattle.nrm_model.specs.declared.limits.TheConstants.{MOST_STREAM_BYTES}
use Rattle.nrm_plan.specs.Plans.{IsOpeningPlan, OpeningOverflows, PlanValue}
use Rattle.nrm_plan.proofs.Plans.{one-plan}
use Rattle.nrm_control.specs.State.{opening}
use Rattle.nrm_stream.specs.Commands.{commands_of}
use Rattle.nrm_stream.specs.declared.command.Command.{Command}
use Rattle.nrm_common_cli.specs.Outside.{OnFile, Outside, Wrote}
use Rattle.nrm_common_cli.specs.Refusals.{Refusal, network_under}
use Rattle.nrm_account.specs.Readings.{Reading, Reads, unread}
use Rattle.nrm_account.proofs.OwnLines.{accounts-of_lines, nothing-written}
use Rattle.nrm_why_cli.specs.Call.{Comes, Completes, NothingHinders, accounted, lacking, ran_out}
use Rattle.nrm_why_cli.specs.Ends.{Begins, Ends, Opens, Tells, file_fault, overflow, refused, usage}
use Rattle.nrm_why_cli.specs.Jobs.{WhyJob, absent_line}
use Rattle.nrm_why_cli.specs.declared.status.WhyStatus.{WhyStatus}
use Rattle.nrm_why_cli.specs.declared.status.WhyStatus.TheVariants as status

-- a told stream that was read to its end is what was taken
all-taken : (stream taken : List ℕ) (after : Option (List ℕ)) → Consumes (Some stream) after taken → IsAtEnd after → taken ≡ stream
all-taken stream taken None consumed ended = absurd consumed
all-taken stream taken (Some left) consumed ended = sym (consumed ∙ ap (λ l. taken ++ l) ended ∙ append-nil taken)

-- no more was taken than there was
no-more : (stream taken : List ℕ) (after : Option (List ℕ)) → Consumes (Some stream) after taken → length taken ≤ length stream
no-more stream taken None consumed = absurd consumed
no-more stream taken (Some left) consumed = rw consumed (grind (arith, length-append taken left))

-- what is told of the files holds of them
on-told : (told : Option Folder) (files : Folder) (name : List ℕ) (P : Option (List ℕ) → Type 0) → told ≡ Some files → OnFile told name P → P (files name)
on-told told files name P is on = rw is at on

-- what grew by nothing was kept, and what grew by nothing and then by a text grew by the text
grew-none : (held held' : Option (List ℕ)) → Appends held held' [] → Keeps held held'
grew-none None held' grew = tt
grew-none (Some xs) None grew = absurd grew
grew-none (Some xs) (Some ys) grew = grew ∙ append-nil xs

grew-behind : (a b c : Option (List ℕ)) (text : List ℕ) → Appends a b [] → Appends b c text → Appends a c text
grew-behind None b c text none grew = tt
grew-behind (Some xs) None c text none grew = absurd none
grew-behind (Some xs) (Some ys) None text none grew = absurd grew
grew-behind (Some xs) (Some ys) (Some zs) text none grew = grew ∙ ap (λ (l : List ℕ). l ++ text) (none ∙ append-nil xs)

-- each line that is read leaves one less
left-after : (net : NetworkValue) (asked : ℕ) (r : Reading) (commands : List Command) (text : List ℕ) (r' : Reading)
    → Reads net asked r commands text r' → r'.left ≡ r.left - length commands
left-after net asked r [] text r' (none, same) = omega (arith, ap (λ (at : Reading). at.left) same)
left-after net asked r (c ∷ commands) text r' (mid, first, rest, line, run, is) =
    omega (arith, line.left, left-after net asked mid commands rest r' run)

module _ (asked : Option WhyJob) (before after : Outside) (job : WhyJob) (files : Folder) (net : NetworkValue) (plan : PlanValue) (stream : List ℕ)
    (asks : asked ≡ Some job) (some : 1 ≤ job.number) (told : before.files ≡ Some files) (valid : network_under (files job.file) ≡ Ok net)
    (planned : IsOpeningPlan net job.mode plan) (coming : before.coming ≡ Some stream) (short : length stream ≤ MOST_STREAM_BYTES)
    (nothing : NothingHinders before after) where
  same-job : (other : WhyJob) → asked ≡ Some other → other ≡ job
  same-job other is = let e : Some other ≡ Some job = sym is ∙ asks in cc

  -- the file of the job gives this network alone, and isn't refused
  same-net : (other : WhyJob) (given : NetworkValue) → asked ≡ Some other → Opens other before given → given ≡ net
  same-net other given is opens =
      let own : Opens job before given = subst (λ (j : WhyJob). Opens j before given) (same-job other is) opens in
      let gives : network_under (files job.file) ≡ Ok given = on-told before.files files job.file (λ contents. network_under contents ≡ Ok given) told own in
      let e : Ok given ≡ Ok net = sym gives ∙ valid in cc

  not-refused : (other : WhyJob) (refusal : Refusal) → asked ≡ Some other → OnFile before.files other.file (λ contents. network_under contents ≡ Err refusal) → ⊥
  not-refused other refusal is on =
      let own = subst (λ (j : WhyJob). OnFile before.files j.file (λ contents. network_under contents ≡ Err refusal)) (same-job other is) on in
      let refuses : network_under (files job.file) ≡ Err refusal = on-told before.files files job.file (λ contents. network_under contents ≡ Err refusal) told own in
      let e : Err refusal ≡ Ok net = sym refuses ∙ valid in cc

  -- the network has this opening plan alone
  same-plan : (begins : Begins asked before) → begins.plan ≡ plan
  same-plan begins =
      (one-plan net job.mode (inventory_of net).authorised 1).plan plan begins.plan planned
      (subst (λ (n : NetworkValue). IsOpeningPlan n job.mode begins.plan) (same-net begins.job begins.net begins.asks begins.opens)
      (subst (λ (j : WhyJob). IsOpeningPlan begins.net j.mode begins.plan) (same-job begins.job begins.asks) begins.planned))

  -- so a session that was read to the end of the stream was that of this job over this stream
  abbrev ReadsOf : NetworkValue → ℕ → PlanValue → List ℕ → List ℕ → Reading → Type 0
  ReadsOf n number p bytes output last = Reads n number (unread number (opening p)) (commands_of bytes) output last

  own-reads : (begins : Begins asked before) (taken output : List ℕ) (last : Reading) → taken ≡ stream
      → ReadsOf begins.net begins.job.number begins.plan taken output last → ReadsOf net job.number plan stream output last
  own-reads begins taken output last all reads =
      subst (λ (bytes : List ℕ). ReadsOf net job.number plan bytes output last) all
      (subst (λ (p : PlanValue). ReadsOf net job.number p taken output last) (same-plan begins)
      (subst (λ (n : NetworkValue). ReadsOf n job.number begins.plan taken output last) (same-net begins.job begins.net begins.asks begins.opens)
      (subst (λ (j : WhyJob). ReadsOf begins.net j.number begins.plan taken output last) (same-job begins.job begins.asks) reads)))

  not-told : (s : WhyStatus) (text : List ℕ) → Tells asked before after s text → ⊥
  not-told s text (usage none) = let no : None ≡ Some job = sym none ∙ asks in none-some job no
  not-told s text (refused other refusal is on) = not-refused other refusal is on
  not-told s text (file_fault other is rose) = nothing.files rose
  not-told s text (overflow other given n number is opens large) =
      let of_job = subst (λ (j : WhyJob). OpeningOverflows given j.mode n number) (same-job other is) large in
      let own : OpeningOverflows net job.mode n number = subst (λ (n' : NetworkValue). OpeningOverflows n' job.mode n number) (same-net other given is opens) of_job in
      (one-plan net job.mode (inventory_of net).authorised 1).apart plan n number planned own

  pub complete : (s : WhyStatus) → Ends asked before after s → Comes job.number net plan stream before after s
  complete status.Done ran =
      let (taken, output, did, ended, (last, (over, suffices), reads)) = ran.serves in
      let all : taken ≡ stream = all-taken stream taken after.coming (rw coming at did.consumed) ended in
      let own = own-reads ran.begins taken output last all reads in
      accounted output ((accounts-of_lines net (opening plan) job.number (commands_of stream) output last some own suffices).0 over) did.written
  complete status.Usage t = absurd (not-told status.Usage t.text t.tells)
  complete status.Refused t = absurd (not-told status.Refused t.text t.tells)
  complete status.ReadFault ends = absurd (nothing.stream ends.0)
  complete status.WriteFault ends = absurd (nothing.output ends.0)
  complete status.NoMemory (inl ran) = ran_out ran.wrote
  complete status.NoMemory (inr ran) =
      let begins = ran.begins in
      let (taken, output, did, ended, (last, out, reads)) = ran.serves in
      let none : output ≡ [] = nothing-written begins.net (opening begins.plan) begins.job.number (commands_of taken) output last reads out in
      ran_out (grew-none before.held after.held (subst (λ (text : List ℕ). Appends before.held after.held text) none did.written))
  complete status.Overflow t = absurd (not-told status.Overflow t.text t.tells)
  complete status.TooLong ran =
      let (taken, output, took, long, wrote, reads) = ran.serves in
      let few = no-more stream taken after.coming (rw coming at took) in
      absurd (omega (arith, few, long, short))
  complete status.FileFault t = absurd (not-told status.FileFault t.text t.tells)
  complete status.NoLine lacks =
      let begins = lacks.ran.begins in
      let (taken, output, did, ended, (last, (more, suffices), reads)) = lacks.ran.serves in
      let all : taken ≡ stream = all-taken stream taken lacks.read.coming (rw coming at did.consumed) ended in
      let own = own-reads begins taken output last all reads in
      let none : output ≡ [] = (accounts-of_lines net (opening plan) job.number (commands_of stream) output last some own suffices).1 more in
      let fewer = left-after net job.number (unread job.number (opening plan)) (commands_of stream) output last own in
      let wrote : Wrote lacks.read after (absent_line job.number) =
      subst (λ (j : WhyJob). Wrote lacks.read after (absent_line j.number)) (same-job begins.job begins.asks) lacks.wrote in
      lacking (omega (arith, more, fewer)) (grew-behind before.held lacks.read.held after.held (absent_line job.number)
      (subst (λ (text : List ℕ). Appends before.held lacks.read.held text) none did.written) wrote)

-- so what each status says gives completeness
pub completes : (asked : Option WhyJob) (before after : Outside) (s : WhyStatus) → Ends asked before after s → Completes asked before after s
completes asked before after s ends job files net plan stream asks some told valid planned coming short nothing =
    complete asked before after job files net plan stream asks some told valid planned coming short nothing s ends
