-- Where the words are good, the files are told and the file is valid, and nothing failed, the job is done.
use Rattle.std.proofs.Common.{ℕ, ◌≡◌, ◌≤◌, ◌++◌, List, length, Option, Some, None, Ok, Err, refl, ap, sym, ◌∙◌, inl, inr}
use Rattle.std.proofs.Common.{arith, append-nil, length-append, subst}
use Rattle.std.specs.Io.KnownBytes.{Consumes, IsAtEnd}
use Rattle.nrm_edge.specs.Fetch.{Folder}
use Rattle.nrm_model.specs.Network.{NetworkValue}
use Rattle.nrm_model.specs.declared.limits.TheConstants.{MOST_STREAM_BYTES}
use Rattle.nrm_plan.specs.Plans.{IsOpeningPlan}
use Rattle.nrm_common_cli.specs.Outside.{Outside, OnFile, Wrote}
use Rattle.nrm_common_cli.specs.Refusals.{Refusal, network_under}
use Rattle.nrm_stream.specs.Commands.{commands_of}
use Rattle.nrm_cli.specs.Jobs.{Job, run_file, HasNetwork, HasNetworkFrom, NamesFile, Origin, of_file, of_number, TakesStream}
use Rattle.nrm_cli.specs.Ends.{Completes, Ends, IsDone, NothingHinders, RunWrites, RunsThrough, Starts}
use Rattle.nrm_cli.specs.Tells.{GivesNetwork, GivesNetworkFrom, Opens, Refuses, RefusesNetwork, RefusesNetworkFrom, Tells, TellsOf}
use Rattle.nrm_cli.specs.Tells.{usage, refused, of_network, file_fault}
use Rattle.nrm_cli.specs.declared.status.Status.{Status}
use Rattle.nrm_cli.specs.declared.status.Status.TheVariants as status

-- a told stream that was read to its end is what was taken
all-taken : (stream taken : List ℕ) (after : Option (List ℕ)) → Consumes (Some stream) after taken → IsAtEnd after → taken ≡ stream
all-taken stream taken None consumed ended = absurd consumed
all-taken stream taken (Some left) consumed ended = sym (consumed ∙ ap (λ l. taken ++ l) ended ∙ append-nil taken)

-- no more was taken than there was
no-more : (stream taken : List ℕ) (after : Option (List ℕ)) → Consumes (Some stream) after taken → length taken ≤ length stream
no-more stream taken None consumed = absurd consumed
no-more stream taken (Some left) consumed = rw consumed (grind (arith, length-append taken left))

-- what is told of the files holds of them
on-told : (told : Option Folder) (files : Folder) (name : List ℕ) (P : Option (List ℕ) → Type 0) → told ≡ Some files → OnFile told name P
    → P (files name)
on-told told files name P is on = rw is at on

-- what a file gives is one network, and it isn't refused
on-file : (told : Option Folder) (file : List ℕ) (net given : NetworkValue)
    → (files : Folder) × (told ≡ Some files) × (network_under (files file) ≡ Ok net) → OnFile told file (λ f. network_under f ≡ Ok given)
    → given ≡ net
on-file told file net given (files, is, gives) on =
    let same : Ok given ≡ Ok net = sym (on-told told files file (λ f. network_under f ≡ Ok given) is on) ∙ gives in cc

file-taken : (told : Option Folder) (file : List ℕ) (net : NetworkValue) (refusal : Refusal)
    → (files : Folder) × (told ≡ Some files) × (network_under (files file) ≡ Ok net) → OnFile told file (λ f. network_under f ≡ Err refusal)
    → ⊥
file-taken told file net refusal (files, is, gives) on =
    let same : Err refusal ≡ Ok net = sym (on-told told files file (λ f. network_under f ≡ Err refusal) is on) ∙ gives in cc

-- so it is of an origin
gives-for : (origin : Origin) (told : Option Folder) (net given : NetworkValue) → HasNetworkFrom origin told net
    → GivesNetworkFrom origin told given → given ≡ net
gives-for (of_file file) told net given has gives = on-file told file net given has gives
gives-for (of_number number) told net given has gives = gives ∙ sym has

refuses-for : (origin : Origin) (told : Option Folder) (net : NetworkValue) (refusal : Refusal) → HasNetworkFrom origin told net
    → RefusesNetworkFrom origin told refusal → ⊥
refuses-for (of_file file) told net refusal has on = file-taken told file net refusal has on
refuses-for (of_number number) told net refusal has never = never

module _ (asked : Option Job) (before after : Outside) (job : Job) (net : NetworkValue)
    (asks : asked ≡ Some job) (valid : HasNetwork job before.files net) (nothing : NothingHinders job before after) where
  -- a job that opens its file is the one that the words ask for, and its network the file's
  same-job : (other : Job) → asked ≡ Some other → other ≡ job
  same-job other is = let e = sym is ∙ asks in cc

  same-net : (other : Job) (given : NetworkValue) → Opens asked other before given → given ≡ net
  same-net other given (is, has) = gives-for job.origin before.files net given valid (subst (λ (j : Job). GivesNetwork j before.files given) (same-job other is) has)

  not-refused : (refusal : Refusal) → Refuses asked before refusal → ⊥
  not-refused refusal r = refuses-for job.origin before.files net refusal valid (subst (λ (j : Job). RefusesNetwork j before.files refusal) (same-job r.job r.asks) r.refused)

  -- where a run was started, its plan is the network's
  started : (st : Starts asked before) → IsOpeningPlan net st.mode st.plan
  started st = subst (λ (n : NetworkValue). IsOpeningPlan n st.mode st.plan) (same-net (run_file st.mode st.file) st.net st.opens) st.planned

  complete-told : (s : Status) (text : List ℕ) → Tells asked before after s text → Wrote before after text → IsDone job net before after s
  complete-told s text (usage none) wrote = let no : None ≡ Some job = sym none ∙ asks in cc
  complete-told s text (refused refusal why) wrote = absurd (not-refused refusal why)
  complete-told s text (of_network other given opens fits is) wrote =
      let of_net = subst (λ (n : NetworkValue). TellsOf other n before.files s text) (same-net other given opens) is in
      inl (inl (text, subst (λ (j : Job). TellsOf j net before.files s text) (same-job other opens.0) of_net, wrote))
  complete-told s text (file_fault other is names rose) wrote = absurd (nothing.files (subst NamesFile (same-job other is) names) rose)

  -- a run is that of the job, whose network has the plan by which it was started
  run-through : (s : Status) (st : Starts asked before)
      → ((stream : List ℕ) → before.coming ≡ Some stream → length stream ≤ MOST_STREAM_BYTES
      → (s ≡ status.Done) × (output : List ℕ) × RunWrites net st.plan (commands_of stream) output × Wrote before after output) → IsDone job net before after s
  run-through s st through =
      inr (subst (λ (j : Job). RunsThrough j.task net before after s) (same-job (run_file st.mode st.file) st.opens.0) (st.plan, started st, through))

  pub complete : (s : Status) → Ends asked before after s → IsDone job net before after s
  complete status.Done (inl ran) =
      let st = ran.starts in
      let (few, ended, writes) = ran.writes_it in
      run-through status.Done st (λ stream coming short.
      let all : ran.taken ≡ stream = all-taken stream ran.taken after.coming (rw coming at ran.took) ended in
      let of_net = subst (λ (n : NetworkValue). RunWrites n st.plan (commands_of ran.taken) ran.output) (same-net (run_file st.mode st.file) st.net st.opens) writes in
      (refl, ran.output, subst (λ (t : List ℕ). RunWrites net st.plan (commands_of t) ran.output) all of_net, ran.wrote))
  complete status.Done (inr t) = complete-told status.Done t.text t.tells t.wrote
  complete status.Wrong t = complete-told status.Wrong t.text t.tells t.wrote
  complete status.Usage t = complete-told status.Usage t.text t.tells t.wrote
  complete status.Refused t = complete-told status.Refused t.text t.tells t.wrote
  complete status.FileFault t = complete-told status.FileFault t.text t.tells t.wrote
  complete status.ReadFault ends =
      let st = ends.1.starts in
      absurd (nothing.stream (subst TakesStream (same-job (run_file st.mode st.file) st.opens.0) tt) ends.0)
  complete status.WriteFault ends = absurd (nothing.output ends.0)
  complete status.NoMemory ends = let (kept, left) = rw asks at ends in inl (inr (refl, kept))
  complete status.TooLong ran =
      let (long, writes) = ran.writes_it in
      run-through status.TooLong ran.starts (λ stream coming short.
      let few = no-more stream ran.taken after.coming (rw coming at ran.took) in
      absurd (omega (arith, few, long, short)))
  complete status.Overflow t = complete-told status.Overflow t.text t.tells t.wrote
  complete status.NoLeg t = complete-told status.NoLeg t.text t.tells t.wrote
  complete status.NoClass t = complete-told status.NoClass t.text t.tells t.wrote

-- what holds of a job holds of the words that ask for it
pub same-job-ends : (asked known : Option Job) (before after : Outside) (s : Status) → asked ≡ known → Ends asked before after s
    → Ends known before after s
same-job-ends asked known before after s is ends = subst (λ (a : Option Job). Ends a before after s) is ends

-- so what each status says gives completeness
pub completes : (asked : Option Job) (before after : Outside) (s : Status) → Ends asked before after s → Completes asked before after s
completes asked before after s ends job net asks valid nothing = complete asked before after job net asks valid nothing s ends
