-- If the words are good, the files are told, the file is valid and nothing failed, the job is done.
use Rattle.std.proofs.Common.{ℕ, ℤ, ◌≡◌, ◌≢◌, ◌∙◌, ◌≤◌, ◌++◌, List, length, Option, Some, None, Ok, Err, refl, ap, sym, inl, inr, arith, append-nil, length-append, subst}
use Rattle.std.specs.Io.KnownBytes.{Consumes, IsAtEnd}
use Rattle.std.proofs.lemmas.Option.{none-some}
use Rattle.nrm_edge.specs.Fetch.{Folder}
use Rattle.nrm_model.specs.Inventory.{inventory_of}
use Rattle.nrm_model.specs.Network.{NetworkValue}
use Rattle.nrm_plan.specs.Plans.{IsOpeningPlan, OpeningOverflows, PlanValue}
use Rattle.nrm_plan.proofs.Plans.{one-plan}
use Rattle.nrm_common_cli.specs.Outside.{OnFile, Wrote}
use Rattle.nrm_common_cli.specs.Refusals.{Refusal, network_under}
use Rattle.nrm_common_cli.specs.Words.{overflow_line, told_pivots}
use Rattle.nrm_control.specs.State.{SeatState}
use Rattle.nrm_stream.specs.Commands.{commands_of}
use Rattle.nrm_keeper.specs.declared.row.KeptRow.{KeptRow}
use Rattle.nrm_keeper.specs.Rows.{Lists}
use Rattle.nrm_kept_cli.specs.Ends.{AnswersAll, Begins, Completes, Ends, KeptOutside, NothingHinders, Opens, RefusesRows, Starts, Tells, TellsOverflow, file_fault, overflow, refused, store_fault, store_refused, usage}
use Rattle.nrm_kept_cli.specs.Jobs.{KeptJob, store_refused_line}
use Rattle.nrm_kept_cli.specs.Rows.{load, loaded_state}
use Rattle.nrm_kept_cli.specs.Run.{KeptWrites}
use Rattle.nrm_kept_cli.specs.declared.status.KeptStatus.{KeptStatus}
use Rattle.nrm_kept_cli.specs.declared.status.KeptStatus.TheVariants as status

-- a told stream that was read to its end is what was taken
all-taken : (stream taken : List ℕ) (after : Option (List ℕ)) → Consumes (Some stream) after taken → IsAtEnd after → taken ≡ stream
all-taken stream taken None consumed ended = absurd consumed
all-taken stream taken (Some left) consumed ended = sym (consumed ∙ ap (λ l. taken ++ l) ended ∙ append-nil taken)

-- no more was taken than there was
no-more : (stream taken : List ℕ) (after : Option (List ℕ)) → Consumes (Some stream) after taken → length taken ≤ length stream
no-more stream taken None consumed = absurd consumed
no-more stream taken (Some left) consumed = rw consumed (grind (arith, length-append taken left))

-- what is told of the files holds of them
on-told : (told : Option Folder) (files : Folder) (name : List ℕ) (P : Option (List ℕ) → Type 0) → told ≡ Some files → OnFile told name P → P (files name)
on-told told files name P is on = rw is at on

-- what is listed of told rows is the rows
listed-is : (told : Option (List KeptRow)) (list rows : List KeptRow) → told ≡ Some rows → Lists list told → list ≡ rows
listed-is told list rows is lists = subst (λ (o : Option (List KeptRow)). Lists list o) is lists

module _ (asked : Option KeptJob) (before after : KeptOutside) (job : KeptJob) (files : Folder) (net : NetworkValue)
    (asks : asked ≡ Some job) (told : before.at.files ≡ Some files) (valid : network_under (files job.file) ≡ Ok net) (result : KeptStatus) (nothing : NothingHinders before after result) where
  same-job : (other : KeptJob) → asked ≡ Some other → other ≡ job
  same-job other is = let e : Some other ≡ Some job = sym is ∙ asks in cc

  -- the file of the job gives this network alone
  same-net : (other : KeptJob) (given : NetworkValue) → asked ≡ Some other → Opens other before given → given ≡ net
  same-net other given is opens =
      let own : Opens job before given = subst (λ (j : KeptJob). Opens j before given) (same-job other is) opens in
      let gives : network_under (files job.file) ≡ Ok given = on-told before.at.files files job.file (λ contents. network_under contents ≡ Ok given) told own in
      let e : Ok given ≡ Ok net = sym gives ∙ valid in cc

  not-refused : (other : KeptJob) (refusal : Refusal) → asked ≡ Some other → OnFile before.at.files other.file (λ contents. network_under contents ≡ Err refusal) → ⊥
  not-refused other refusal is on =
      let own = subst (λ (j : KeptJob). OnFile before.at.files j.file (λ contents. network_under contents ≡ Err refusal)) (same-job other is) on in
      let refuses : network_under (files job.file) ≡ Err refusal = on-told before.at.files files job.file (λ contents. network_under contents ≡ Err refusal) told own in
      let e : Err refusal ≡ Ok net = sym refuses ∙ valid in cc

  -- ---- there is an opening plan, or its linear program is Large
  opening-same : (plan other : PlanValue) → IsOpeningPlan net job.mode plan → IsOpeningPlan net job.mode other → other ≡ plan
  opening-same plan other is is' = (one-plan net job.mode (inventory_of net).authorised 1).plan plan other is is'

  planned-apart : (plan : PlanValue) → IsOpeningPlan net job.mode plan → (s : KeptStatus) → TellsOverflow job net before after s
  planned-apart plan is s = λ n number large. absurd ((one-plan net job.mode (inventory_of net).authorised 1).apart plan n number is large)

  begun-plan : (begins : Begins asked before) → IsOpeningPlan net job.mode begins.plan
  begun-plan begins =
      subst (λ (n : NetworkValue). IsOpeningPlan n job.mode begins.plan) (same-net begins.job begins.net begins.asks begins.opens)
      (subst (λ (j : KeptJob). IsOpeningPlan begins.net j.mode begins.plan) (same-job begins.job begins.asks) begins.planned)

  begun-net : (begins : Begins asked before) → begins.net ≡ net
  begun-net begins = same-net begins.job begins.net begins.asks begins.opens

  abbrev Complete : KeptStatus → Type 0
  Complete s = TellsOverflow job net before after s × RefusesRows job net before after s × AnswersAll job net before after s

  -- ---- where a session was started its rows load
  loads-own : (st : Starts asked before) (rows : List KeptRow) → before.rows ≡ Some rows → load net rows ≡ Ok st.loaded
  loads-own st rows is = (λ i. load (sym (begun-net st.begins) i) (sym (listed-is before.rows st.rows rows is st.listed) i)) ∙ st.loads

  rows-load : (st : Starts asked before) (s : KeptStatus) → RefusesRows job net before after s
  rows-load st s = λ plan rows number planned is refuses. let e : Err number ≡ Ok st.loaded = sym refuses ∙ loads-own st rows is in cc

  -- ---- where a line was told
  refused-number : (begins : Begins asked before) (rows : List KeptRow) (number : ℕ) → Lists rows before.rows → load begins.net rows ≡ Err number
      → (own : List KeptRow) → before.rows ≡ Some own → load net own ≡ Err number
  refused-number begins rows number lists refuses own is = (λ i. load (sym (begun-net begins) i) (sym (listed-is before.rows rows own is lists) i)) ∙ refuses

  large-told : (n : ℕ) (number : ℤ) → OpeningOverflows net job.mode n number → Wrote before.at after.at (overflow_line (told_pivots n) number) → TellsOverflow job net before after status.Overflow
  large-told n number large wrote = λ n' number' large'.
      let (count, same) = (one-plan net job.mode (inventory_of net).authorised 1).overflow n n' number number' large large' in
      inl (refl, subst (λ (text : List ℕ). Wrote before.at after.at text) (λ i. overflow_line (told_pivots (sym count i)) (sym same i)) wrote)

  complete-told : (s : KeptStatus) (text : List ℕ) → s ≢ status.StoreFault → Tells asked before after s text → Wrote before.at after.at text → Complete s
  complete-told s text listed (usage none) wrote = let no : None ≡ Some job = sym none ∙ asks in absurd (none-some job no)
  complete-told s text listed (refused other refusal is on) wrote = absurd (not-refused other refusal is on)
  complete-told s text listed (file_fault other is rose) wrote = absurd (nothing.files rose)
  complete-told s text listed (overflow other given n number is opens large) wrote =
      let of_job = subst (λ (j : KeptJob). OpeningOverflows given j.mode n number) (same-job other is) large in
      let own : OpeningOverflows net job.mode n number = subst (λ (n' : NetworkValue). OpeningOverflows n' job.mode n number) (same-net other given is opens) of_job in (
        large-told n number own wrote,
        (λ plan rows refused-at planned told refuses. absurd ((one-plan net job.mode (inventory_of net).authorised 1).apart plan n number planned own)),
        (λ plan rows loaded stream planned told loads coming short. absurd ((one-plan net job.mode (inventory_of net).authorised 1).apart plan n number planned own)),
      )
  complete-told s text listed (store_fault begins rose) wrote = absurd (listed refl)
  complete-told s text listed (store_refused begins rows number lists refuses) wrote = (
    planned-apart begins.plan (begun-plan begins) status.StoreRefused,
    (λ plan own other planned is not.
        let e : Err number ≡ Err other = sym (refused-number begins rows number lists refuses own is) ∙ not in
        let same : number ≡ other = cc in
        inl (refl, subst (λ (n : ℕ). Wrote before.at after.at (store_refused_line n)) same wrote)),
    (λ plan own loaded stream planned is loads coming short.
        let e : Err number ≡ Ok loaded = sym (refused-number begins rows number lists refuses own is) ∙ loads in cc),
  )

  pub complete : (s : KeptStatus) → s ≢ status.StoreFault → Ends asked before after s → Complete s
  complete status.Done listed ran =
      let st = ran.starts in
      let (taken, output, did, ended, runs) = ran.serves in
      let (last, leaves, writes) = runs in (
        planned-apart st.begins.plan (begun-plan st.begins) status.Done,
        rows-load st status.Done,
        (λ plan rows loaded stream planned is loads coming short.
            let all : taken ≡ stream = all-taken stream taken after.at.coming (rw coming at did.consumed) ended in
            let given : Ok st.loaded ≡ Ok loaded = sym (loads-own st rows is) ∙ loads in
            let those : st.loaded ≡ loaded = cc in
            let of_net = begun-net st.begins in
            let of_plan = opening-same plan st.begins.plan planned (begun-plan st.begins) in
            let first : KeptWrites net (loaded_state st.begins.plan st.loaded) (commands_of taken) output last before.store_faults after.store_faults =
            subst (λ (n : NetworkValue). KeptWrites n (loaded_state st.begins.plan st.loaded) (commands_of taken) output last before.store_faults after.store_faults) of_net writes in
            let second : KeptWrites net (loaded_state plan loaded) (commands_of taken) output last before.store_faults after.store_faults =
            subst (λ (s : SeatState). KeptWrites net s (commands_of taken) output last before.store_faults after.store_faults) (λ i. loaded_state (of_plan i) (those i)) first in
            let own : KeptWrites net (loaded_state plan loaded) (commands_of stream) output last before.store_faults after.store_faults =
            subst (λ (bytes : List ℕ). KeptWrites net (loaded_state plan loaded) (commands_of bytes) output last before.store_faults after.store_faults) all second in
            inl (refl, (output, last, own, did.written))),
      )
  complete status.Usage listed t = complete-told status.Usage t.text listed t.tells t.wrote
  complete status.Refused listed t = complete-told status.Refused t.text listed t.tells t.wrote
  complete status.ReadFault listed ends = absurd (nothing.stream ends.0)
  complete status.WriteFault listed ends = absurd (nothing.output ends.0)
  complete status.NoMemory listed ran = (
    (λ n number large. inr (refl, ran.wrote)),
    (λ plan rows number planned is refuses. inr (refl, ran.wrote)),
    (λ plan rows loaded stream planned is loads coming short. inr (refl, ran.wrote)),
  )
  complete status.Overflow listed t = complete-told status.Overflow t.text listed t.tells t.wrote
  complete status.TooLong listed ran =
      let st = ran.starts in
      let (taken, output, took, long, wrote, writes) = ran.serves in (
        planned-apart st.begins.plan (begun-plan st.begins) status.TooLong,
        rows-load st status.TooLong,
        (λ plan rows loaded stream planned is loads coming short.
            let few = no-more stream taken after.at.coming (rw coming at took) in
            absurd (omega (arith, few, long, short))),
      )
  complete status.FileFault listed t = complete-told status.FileFault t.text listed t.tells t.wrote
  complete status.StoreFault listed t = complete-told status.StoreFault t.text listed t.tells t.wrote
  complete status.StoreRefused listed t = complete-told status.StoreRefused t.text listed t.tells t.wrote

-- so what each status says gives completeness
pub completes : (asked : Option KeptJob) (before after : KeptOutside) (s : KeptStatus) → Ends asked before after s → Completes asked before after s
completes asked before after s ends job files net asks told valid nothing = complete asked before after job files net asks told valid s nothing s nothing.listing ends
