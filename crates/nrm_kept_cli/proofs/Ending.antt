-- How a call ends, out of how its parts went.
use Rattle.std.proofs.Common.{ℕ, ◌≡◌, ◌∙◌, List, [], ◌∷◌, ◌++◌, Option, Some, None, Ok, Err, refl, sym, ap, subst, arith, inl, inr}
use Rattle.nrm_edge.specs.Causes.{counted}
use Rattle.nrm_model.specs.Inventory.{inventory_of}
use Rattle.nrm_model.specs.Limits.{IsNetwork}
use Rattle.nrm_model.specs.Network.{NetworkValue}
use Rattle.nrm_model.specs.declared.limits.TheConstants.{MOST_STREAM_BYTES}
use Rattle.nrm_simplex.specs.declared.fault.SolveFault.{SolveFault}
use Rattle.nrm_simplex.specs.declared.fault.SolveFault.TheVariants as fault
use Rattle.nrm_book.specs.Book.{IsBook}
use Rattle.nrm_book.specs.declared.booking.Booking.{Booking}
use Rattle.nrm_hindsight.specs.Requests.{requests_of, tallies_of}
use Rattle.nrm_hindsight.specs.Selections.{ChosenFrom}
use Rattle.nrm_hindsight.specs.Selections.ChosenFrom.{none as none_chosen}
use Rattle.nrm_control.specs.State.{SeatState}
use Rattle.nrm_control.specs.Standing.{ControlValue, IsControl, IsStartFault, Represents}
use Rattle.nrm_stream.specs.declared.command.Command.{Command}
use Rattle.nrm_common_cli.specs.NetworkFile.{CountsFetch, OpensFile, reason_line}
use Rattle.nrm_common_cli.specs.Outside.{LeftStream, OnFile, Wrote}
use Rattle.nrm_common_cli.specs.Refusals.{at_row, file_fault_line, network_under, no_file, refusal_line}
use Rattle.nrm_common_cli.specs.Words.{overflow_line, told_pivots}
use Rattle.nrm_common_cli.specs.declared.network_file.NoNetwork.{NoNetwork}
use Rattle.nrm_common_cli.specs.declared.network_file.NoNetwork.TheVariants as none
use Rattle.nrm_session.specs.Serving.{CountsFaults, ServesBy, Streams}
use Rattle.nrm_session.specs.declared.serving.End.{End}
use Rattle.nrm_session.specs.declared.serving.End.TheVariants as end
use Rattle.nrm_session.proofs.ServedBy.{served-as, serves-weaker}
use Rattle.nrm_keeper.specs.declared.keeper.Keeper.{Ghosts}
use Rattle.nrm_keeper.specs.declared.row.KeptRow.{KeptRow}
use Rattle.nrm_keeper.specs.declared.row.KeepFault.{KeepFault}
use Rattle.nrm_keeper.specs.declared.row.KeepFault.TheVariants as keep
use Rattle.nrm_keeper.specs.Rows.{Keeps, Lists, has_failed}
use Rattle.nrm_common_cli.specs.Puts.{PutsIfSome, PutsLine, status_for, unplanned_line}
use Rattle.nrm_kept_cli.specs.Ends.{Begins, Ends, KeptOutside, Leaves, NoSession, RowsStay, RunsOn, RunsOnCut, Starts, StoreDidNotFail, Tells, file_fault, overflow, refused, store_fault, store_refused, streams_at, usage}
use Rattle.nrm_kept_cli.specs.Jobs.{KeptJob, store_fault_line, store_refused_line}
use Rattle.nrm_kept_cli.specs.Inner.Parts.{loaded_in, status_at, unlisted_line}
use Rattle.nrm_kept_cli.specs.Inner.Keeping.{KeptRefines, KeptRefinesCut}
use Rattle.nrm_kept_cli.specs.Inner.Reading.{Reading, Trusts, rows_by}
use Rattle.nrm_kept_cli.specs.Rows.{AreRows, Loaded, load, load_behind, loaded_state, rows_of}
use Rattle.nrm_kept_cli.specs.Run.{KeptWrites, KeptWritesCut, count_after}
use Rattle.nrm_kept_cli.specs.declared.status.KeptStatus.{KeptStatus}
use Rattle.nrm_kept_cli.specs.declared.status.KeptStatus.TheVariants as status
use Rattle.nrm_kept_cli.proofs.Again.{load-again}
use Rattle.nrm_kept_cli.proofs.KeptRows.{load-rows}
use Rattle.nrm_kept_cli.specs.declared.status.TheConstants.{STATUSES}

-- ---- a line in place of a session
module _ (asked : Option KeptJob) (before after : KeptOutside) where
  whole : (s : KeptStatus) (text : List ℕ) → NoSession before after text → Tells asked before after s text → Wrote before.at after.at text → Ends asked before after s
  whole s text rest (usage none) wrote = record { text = text; tells = usage none; wrote = wrote; rest = rest }
  whole s text rest (refused job refusal asks on) wrote = record { text = text; tells = refused job refusal asks on; wrote = wrote; rest = rest }
  whole s text rest (file_fault job asks rose) wrote = record { text = text; tells = file_fault job asks rose; wrote = wrote; rest = rest }
  whole s text rest (overflow job net n number asks on large) wrote = record { text = text; tells = overflow job net n number asks on large; wrote = wrote; rest = rest }
  whole s text rest (store_fault begins rose) wrote = record { text = text; tells = store_fault begins rose; wrote = wrote; rest = rest }
  whole s text rest (store_refused begins rows number listed refuses) wrote = record { text = text; tells = store_refused begins rows number listed refuses; wrote = wrote; rest = rest }

  pub told-ends : (goes s : KeptStatus) (text : List ℕ) → NoSession before after text → Tells asked before after goes text → PutsLine STATUSES text goes before.at.held after.at.held before.at.sink_faults after.at.sink_faults s → Ends asked before after s
  told-ends goes s text rest tells (inl (is, wrote, same)) = rw is (whole goes text rest tells wrote)
  told-ends goes s text rest tells (inr (is, front, rose)) = rw is (rose, inr (record { status = goes; text = text; tells = tells; wrote = front; rest = rest }))

-- the keeper was not asked
pub unasked : (before after : KeptOutside) (text : List ℕ) → LeftStream before.at after.at → after.rows ≡ before.rows → StoreDidNotFail before after → NoSession before after text
unasked before after text left same count = record { left = left; stays = λ rows told. same ∙ told; store = inl count }

module _ (job : KeptJob) (before after : KeptOutside) (left : LeftStream before.at after.at) (stays : RowsStay before after) where
  idle : (text : List ℕ) → StoreDidNotFail before after → NoSession before after text
  idle text count = record { left = left; stays = stays; store = inl count }

  -- no network
  pub without-network : (reason : NoNetwork) (s : KeptStatus) → StoreDidNotFail before after → OpensFile before.at.files job.file (Err reason) → CountsFetch before.at.file_faults after.at.file_faults (Err reason)
      → PutsIfSome STATUSES (reason_line reason) (status_for STATUSES reason) before.at.held after.at.held before.at.sink_faults after.at.sink_faults s → Ends (Some job) before after s
  without-network none.Absent s count file counts puts = told-ends (Some job) before after status.Refused s (refusal_line no_file) (idle (refusal_line no_file) count) (refused job no_file refl file) puts
  without-network (none.Refused row cause) s count file counts puts = told-ends (Some job) before after status.Refused s (refusal_line (at_row row cause)) (idle (refusal_line (at_row row cause)) count) (refused job (at_row row cause) refl file) puts
  without-network none.Fault s count file counts puts = told-ends (Some job) before after status.FileFault s file_fault_line (idle file_fault_line count) (file_fault job refl counts.1) puts
  without-network none.NoMemory s count file counts (is, kept, same) = rw is (record { job = job; asks = refl; wrote = kept; rest = idle [] count })

  -- no plan
  pub without-plan : (net : NetworkValue) → OnFile before.at.files job.file (λ contents. network_under contents ≡ Ok net) → (why : SolveFault) (s : KeptStatus) → StoreDidNotFail before after → IsStartFault net job.mode why
      → PutsIfSome STATUSES (unplanned_line why) status.Overflow before.at.held after.at.held before.at.sink_faults after.at.sink_faults s → Ends (Some job) before after s
  without-plan net on fault.NoMemory s count is (told, kept, same) = rw told (record { job = job; asks = refl; wrote = kept; rest = idle [] count })
  without-plan net on (fault.Overflow pivots number) s count (n, large, is) puts =
      told-ends (Some job) before after status.Overflow s (overflow_line (told_pivots n) number) (idle (overflow_line (told_pivots n) number) count) (overflow job net n number refl on large)
      (subst (λ (k : ℕ). PutsLine STATUSES (overflow_line k number) status.Overflow before.at.held after.at.held before.at.sink_faults after.at.sink_faults s) is puts)

  -- no rows
  pub without-rows : (T : Type 0) (begins : Begins (Some job) before) (why : KeepFault) (s : KeptStatus) → after.store_faults ≡ counted (has_failed {T = T} (Err why)) before.store_faults
      → PutsIfSome STATUSES (unlisted_line why) status.StoreFault before.at.held after.at.held before.at.sink_faults after.at.sink_faults s → Ends (Some job) before after s
  without-rows T begins keep.Failed s rose puts =
      told-ends (Some job) before after status.StoreFault s store_fault_line (record { left = left; stays = stays; store = inr (rose, refl) }) (store_fault begins rose) puts
  without-rows T begins keep.NoMemory s count (told, kept, same) = rw told (record { job = job; asks = refl; wrote = kept; rest = idle [] count })

  -- rows that don't load
  pub without-load : (begins : Begins (Some job) before) (rows : List KeptRow) (number : ℕ) (s : KeptStatus) → StoreDidNotFail before after → Lists rows before.rows → load begins.net rows ≡ Err number
      → PutsLine STATUSES (store_refused_line number) status.StoreRefused before.at.held after.at.held before.at.sink_faults after.at.sink_faults s → Ends (Some job) before after s
  without-load begins rows number s count listed refuses puts =
      told-ends (Some job) before after status.StoreRefused s (store_refused_line number) (idle (store_refused_line number) count) (store_refused begins rows number listed refuses) puts

-- ---- a session
-- what is trusted of the keeper after a session was trusted before its first line
pub served-trusts : {P : Type 0} (keeps : Ghosts P) (how : Reading) (start new : ControlValue) (listed ended : P) (before after : Streams) (limit : ℕ) (e : End)
    → ServesBy (KeptRefines keeps (start, listed) (new, ended)) (KeptRefinesCut keeps (start, listed) (new, ended)) before after limit e → Trusts keeps how ended → Trusts keeps how listed
served-trusts keeps how start new listed ended before after limit e serves trusted =
    served-as (Trusts keeps how listed) (KeptRefines keeps (start, listed) (new, ended)) (KeptRefinesCut keeps (start, listed) (new, ended)) (λ c o is. (is.stays how trusted).0) (λ c o is. (is.stays how trusted).0)
    before after limit e serves

module _ {P : Type 0} (keeps : Ghosts P) (how : Reading) (job : KeptJob) (before after : KeptOutside) (starts : Starts (Some job) before) (start new : ControlValue) (listed ended : P)
    (network : start.net ≡ starts.begins.net) (plan : start.plan ≡ starts.begins.plan) (loaded : loaded_in start ≡ starts.loaded) (stands : Represents start (loaded_state start.plan (loaded_in start)))
    (tells : (rows : List KeptRow) → before.rows ≡ Some rows → rows_by keeps how listed ≡ Some starts.rows) (count : keeps.faults listed ≡ before.store_faults) (rows_after : after.rows ≡ rows_by keeps how ended)
    (faults_after : after.store_faults ≡ keeps.faults ended) (trusted : Trusts keeps how ended) (kept : IsControl new) where
  began : Represents start (loaded_state starts.begins.plan starts.loaded)
  began = subst (λ (s : SeatState). Represents start s) (λ k. loaded_state (plan k) (loaded k)) stands

  -- the rows were those of the book before the first line
  rows-began : (rows : List KeptRow) → before.rows ≡ Some rows → AreRows start.net start.bookings (rows_by keeps how listed)
  rows-began rows told =
      let all = load-rows starts.begins.net starts.loaded starts.rows starts.loads in
      tells rows told ∙ ap Some (sym all ∙ (λ k. rows_of (sym network k) (sym (ap (λ (l : Loaded). l.bookings) loaded) k)))

  -- and are those of the last state's
  leaves : (last : SeatState) → Represents new last → new.net ≡ start.net → (AreRows start.net start.bookings (rows_by keeps how listed) → AreRows new.net new.bookings (rows_by keeps how ended)) → Leaves starts.begins.net before after last
  leaves last stands' same stays =
      let net : new.net ≡ starts.begins.net = same ∙ network in
      let own : IsNetwork starts.begins.net = subst IsNetwork net kept.network in
      let book : IsBook (record { inventory = inventory_of starts.begins.net; bookings = last.bookings; next = new.next }) =
      subst IsBook (λ k. record { inventory = inventory_of (net k); bookings = sym stands'.bookings k; next = new.next }) kept.book in
      record {
        rows = λ rows told. rows_after ∙ stays (rows-began rows told) ∙ (λ k. Some (rows_of (net k) (sym stands'.bookings k)));
        again = load-again starts.begins.net last.bookings new.next own book;
      }

  runs-on : (commands : List Command) (output : List ℕ) → KeptRefines keeps (start, listed) (new, ended) commands output → RunsOn (Some job) before after starts commands output
  runs-on commands output refines =
      let (last, stands', writes) = refines.run (loaded_state starts.begins.plan starts.loaded) began in
      let on : KeptWrites starts.begins.net (loaded_state starts.begins.plan starts.loaded) commands output last (keeps.faults listed) (keeps.faults ended) =
      subst (λ (net : NetworkValue). KeptWrites net (loaded_state starts.begins.plan starts.loaded) commands output last (keeps.faults listed) (keeps.faults ended)) network writes in
      (last, leaves last stands' refines.network (refines.stays how trusted).1, record { writes = on.writes; counted = faults_after ∙ on.counted ∙ ap (count_after on.writes.replies) count })

  runs-on_cut : (commands : List Command) (output : List ℕ) → KeptRefinesCut keeps (start, listed) (new, ended) commands output → RunsOnCut (Some job) before after starts commands output
  runs-on_cut commands output refines =
      let (last, stands', writes) = refines.run (loaded_state starts.begins.plan starts.loaded) began in
      let on : KeptWritesCut starts.begins.net (loaded_state starts.begins.plan starts.loaded) commands output last (keeps.faults listed) (keeps.faults ended) =
      subst (λ (net : NetworkValue). KeptWritesCut net (loaded_state starts.begins.plan starts.loaded) commands output last (keeps.faults listed) (keeps.faults ended)) network writes in
      (last, leaves last stands' refines.network (refines.stays how trusted).1, record { writes = on.writes; counted = faults_after ∙ on.counted ∙ ap (count_after (on.writes.replies ++ on.writes.reply ∷ [])) count })

  pub served-ends : (e : End) → ServesBy (KeptRefines keeps (start, listed) (new, ended)) (KeptRefinesCut keeps (start, listed) (new, ended)) (streams_at before.at) (streams_at after.at) MOST_STREAM_BYTES e
      → CountsFaults (streams_at before.at) (streams_at after.at) e → Ends (Some job) before after (status_at e)
  served-ends e serves counts = by e (serves-weaker _ _ (RunsOn (Some job) before after starts) (RunsOnCut (Some job) before after starts) runs-on runs-on_cut (streams_at before.at) (streams_at after.at) MOST_STREAM_BYTES e serves) counts
    where
      by : (e : End) → ServesBy (RunsOn (Some job) before after starts) (RunsOnCut (Some job) before after starts) (streams_at before.at) (streams_at after.at) MOST_STREAM_BYTES e
          → CountsFaults (streams_at before.at) (streams_at after.at) e → Ends (Some job) before after (status_at e)
      by end.Done serves counts = record { starts = starts; serves = serves }
      by end.ReadFault serves counts = (counts.0, record { starts = starts; serves = serves })
      by end.WriteFault serves counts = (counts.0, inl (record { starts = starts; serves = serves }))
      by end.TooLong serves counts = record { starts = starts; serves = serves }

-- ---- what stands before the first line
-- a controller that has just begun
abbrev pub HasBegun : NetworkValue → ControlValue → Type 0
HasBegun net start = start ≡ record { net = net; plan = start.plan; bookings = []; next = 1; tallies = tallies_of net []; withheld = 0 }

pub begun-stands : (net : NetworkValue) (start : ControlValue) → HasBegun net start → Represents start (loaded_state start.plan (loaded_in start))
begun-stands net start begun = record {
  plan = refl;
  bookings = refl;
  next = refl;
  tallies = (λ k. tallies_of (begun k).net (requests_of (begun k).bookings)) ∙ sym (ap (λ (c : ControlValue). c.tallies) begun);
  choice = subst (λ (bookings : List Booking). ChosenFrom (requests_of bookings) (requests_of bookings)) (sym (ap (λ (c : ControlValue). c.bookings) begun)) none_chosen;
  withheld = sym (ap (λ (c : ControlValue). c.withheld) begun);
}

pub begun-load : (net : NetworkValue) (start : ControlValue) (rows : List KeptRow) → HasBegun net start → load net rows ≡ load_behind start.net (loaded_in start) rows
begun-load net start rows begun = λ k. load_behind ((sym begun) k).net (loaded_in ((sym begun) k)) rows

-- rows that were kept by a listing
pub keeps-stay : (before after : Option (List KeptRow)) → Keeps before after → (rows : List KeptRow) → before ≡ Some rows → after ≡ Some rows
keeps-stay before after keeps rows told = subst (λ (o : Option (List KeptRow)). Keeps o after) told keeps

pub lists-before : (before after : Option (List KeptRow)) (list : List KeptRow) → Keeps before after → Lists list after → Lists list before
lists-before None after list keeps lists = tt
lists-before (Some rows) after list keeps lists = subst (λ (o : Option (List KeptRow)). Lists list o) keeps lists

pub list-told : (before after : Option (List KeptRow)) (list : List KeptRow) → Keeps before after → Lists list after → (rows : List KeptRow) → before ≡ Some rows → after ≡ Some list
list-told before after list keeps lists rows told =
    let is = keeps-stay before after keeps rows told in
    let same : list ≡ rows = subst (λ (o : Option (List KeptRow)). Lists list o) is lists in
    is ∙ ap Some (sym same)

-- what holds of a job holds of the words that ask for it
pub same-job-ends : (asked known : Option KeptJob) (before after : KeptOutside) (s : KeptStatus) → asked ≡ known → Ends asked before after s → Ends known before after s
same-job-ends asked known before after s is ends = subst (λ (a : Option KeptJob). Ends a before after s) is ends
