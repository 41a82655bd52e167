-- What is kept before a line is what the line makes of the book.
use Rattle.std.proofs.Common.{ℕ, ◌≡◌, ◌∙◌, ◌<◌, true, false, List, [], ◌∷◌, ◌++◌, length, take, All, Option, Some, Result, Ok, Err, refl, sym, ap, subst, arith, append-nil}
use Rattle.std.specs.Prelude.{OnErr, OnOk}
use Rattle.std.specs.Io.KnownBytes.{Appends}
use Rattle.nrm_edge.specs.Causes.{HasCause}
use Rattle.nrm_edge.specs.Pieces.{AppendsFront}
use Rattle.nrm_model.specs.Network.{product_named}
use Rattle.nrm_book.specs.declared.booking.Booking.{Booking}
use Rattle.nrm_book.specs.Bookings.{booking_numbered, without}
use Rattle.nrm_control.specs.State.{SeatState, after_answer}
use Rattle.nrm_control.specs.Standing.{ControlValue, IsControl, Represents}
use Rattle.nrm_control.specs.Verdict.{verdict_of}
use Rattle.nrm_control.specs.declared.answer.Answer.{Answer}
use Rattle.nrm_control.specs.declared.answer.Answer.TheVariants as answer
use Rattle.nrm_control.proofs.Inventories.{sold-next}
use Rattle.nrm_control.proofs.States.{answer-same, some-state}
use Rattle.nrm_stream.specs.declared.command.Command.{Command}
use Rattle.nrm_stream.specs.declared.command.Command.TheVariants as command
use Rattle.nrm_session.specs.Answering.{AnswersLine, CutsLine, Steps}
use Rattle.nrm_session.specs.Clerks.{Answers, AnswersCut, is_control}
use Rattle.nrm_session.specs.Replies.{Reply, text_of}
use Rattle.nrm_session.specs.Step.{Step}
use Rattle.nrm_keeper.specs.declared.keeper.Keeper.{Ghosts}
use Rattle.nrm_keeper.specs.declared.row.KeepFault.{KeepFault}
use Rattle.nrm_keeper.specs.declared.row.KeptRow.{KeptRow}
use Rattle.nrm_keeper.specs.File.{Same}
use Rattle.nrm_keeper.specs.Rows.{Adds, Drops}
use Rattle.nrm_kept_cli.specs.Inner.Keeping.{KeepsAhead, KeptRefines, KeptRefinesCut, StaysWithBook}
use Rattle.nrm_kept_cli.specs.Inner.Reading.{HoweverRead}
use Rattle.nrm_kept_cli.specs.Rows.{AreRows, row_of, rows_of}
use Rattle.nrm_kept_cli.specs.Run.{count_after}
use Rattle.nrm_kept_cli.specs.Step.{ChangesBook, KeptReply, KeptStep, as_ever, kept_text, told}
use Rattle.nrm_kept_cli.proofs.KeptRows.{live-row, product-name, rows-below, rows-more, rows-without}
use Rattle.nrm_kept_cli.proofs.Readings.{changed-read, read-weaker}

-- ---- lines that leave the book
-- the rows stay, and so does the book
stays : (control : ControlValue) (rows rows' : Option (List KeptRow)) (s s' : SeatState) → rows' ≡ rows → s'.bookings ≡ s.bookings → AreRows control.net s.bookings rows → AreRows control.net s'.bookings rows'
stays control rows rows' s s' same book are = same ∙ are ∙ ap (λ (bookings : List Booking). Some (rows_of control.net bookings)) (sym book)

-- a request that is answered so
module _ (control : ControlValue) (name : List ℕ) (party j : ℕ) (rows rows' : Option (List KeptRow)) (found : product_named control.net name ≡ Some j) (given : Answer)
    (is : given ≡ verdict_of control.net control.plan control.bookings control.next j party) where
  requested : (s s' : SeatState) (reply : Reply) → Represents control s → Step control.net s (command.Book name party) reply s' → s' ≡ after_answer s j party given
  requested s s' reply stands step =
      let gives = rw found at step in
      gives.1 ∙ ap (after_answer s j party) (answer-same control s j party stands ∙ sym is)

  pub sold-ahead : (number : ℕ) → given ≡ answer.Sold number → IsControl control → Adds (record { number = number; product = name; party = party }) rows rows' → KeepsAhead control (command.Book name party) rows rows'
  sold-ahead number sells kept adds s s' reply stands step are =
      let next : number ≡ control.next = sold-next control.net control.plan control.bookings control.next party j number (sym sells ∙ is) in
      let low : All (λ (b : Booking). b.number < number) control.bookings = λ k d short. omega (arith, (kept.book.numbers k d short).1, next) in
      let below = rows-below control.net control.bookings number low in
      let own : AreRows control.net control.bookings rows = are ∙ ap (λ (bookings : List Booking). Some (rows_of control.net bookings)) stands.bookings in
      let grown : rows' ≡ Some (rows_of control.net control.bookings ++ record { number = number; product = name; party = party } ∷ []) = (subst (λ (o : Option (List KeptRow)). Adds (record { number = number; product = name; party = party }) o rows') own adds) below in
      let b : Booking = record { number = number; product = j; party = party } in
      let row : record { number = number; product = name; party = party } ≡ row_of control.net b = λ k. record { number = number; product = sym (product-name control.net name j found) k; party = party } in
      let after : s'.bookings ≡ control.bookings ++ b ∷ [] =
      ap (λ (s : SeatState). s.bookings) (requested s s' reply stands step ∙ ap (after_answer s j party) sells) ∙ ap (λ (bookings : List Booking). bookings ++ b ∷ []) stands.bookings in
      grown ∙ ap (λ (r : KeptRow). Some (rows_of control.net control.bookings ++ r ∷ [])) row ∙ ap Some (sym (rows-more control.net control.bookings b)) ∙ ap (λ (bookings : List Booking). Some (rows_of control.net bookings)) (sym after)

-- ---- cancellations
module _ (control : ControlValue) (number : ℕ) (rows rows' : Option (List KeptRow)) (b : Booking) (live : booking_numbered control.bookings number ≡ Some b) where
  pub live-ahead : Drops number rows rows' → KeepsAhead control (command.Cancel number) rows rows'
  live-ahead drops s s' reply stands step are =
      let here : booking_numbered s.bookings number ≡ Some b = ap (λ (bookings : List Booking). booking_numbered bookings number) stands.bookings ∙ live in
      let gives = rw here at step in
      let own : AreRows control.net control.bookings rows = are ∙ ap (λ (bookings : List Booking). Some (rows_of control.net bookings)) stands.bookings in
      let left = (subst (λ (o : Option (List KeptRow)). Drops number o rows') own drops) (live-row control.net control.bookings number b live) in
      let after : s'.bookings ≡ without control.bookings number = ap (λ (s : SeatState). s.bookings) gives.1 ∙ ap (λ (bookings : List Booking). without bookings number) stands.bookings in
      left ∙ ap Some (sym (rows-without control.net control.bookings number)) ∙ ap (λ (bookings : List Booking). Some (rows_of control.net bookings)) (sym after)

-- ---- one line
module _ {P : Type 0} (keeps : Ghosts P) (old new : ControlValue × P) (c : Command) where
  -- the rows are those of the book after the line
  follows : (rows rows' : Option (List KeptRow)) → IsControl old.0 → KeepsAhead old.0 c rows rows' → (reply : Reply) → Steps old.0 new.0 c reply → StaysWithBook old.0 new.0 rows rows'
  follows rows rows' kept ahead reply steps are =
      let (s, stands) = some-state old.0 kept in
      let (s', step, stands') = steps.step s stands in
      let own : AreRows old.0.net s.bookings rows = are ∙ ap (λ (bookings : List Booking). Some (rows_of old.0.net bookings)) (sym stands.bookings) in
      ahead s s' reply stands step own ∙ (λ k. Some (rows_of (sym steps.network k) (stands'.bookings k)))

  pub kept-line : (reply : Reply) → IsControl old.0 → HoweverRead keeps (KeepsAhead old.0 c) old.1 new.1 → keeps.faults new.1 ≡ keeps.faults old.1 → Steps old.0 new.0 c reply → KeptRefines keeps old new (c ∷ []) (text_of reply)
  kept-line reply kept ahead count steps = record {
    network = steps.network;
    stays = read-weaker keeps (KeepsAhead old.0 c) (StaysWithBook old.0 new.0) old.1 new.1 (λ a b before. follows a b kept before reply steps) ahead;
    run = λ s stands.
        let (s', step, stands') = steps.step s stands in
        (s', stands', record { writes = record { replies = told reply ∷ []; run = (s', as_ever reply s' step, refl); output = sym (append-nil (text_of reply)) }; counted = count });
  }

  pub kept-line_cut : (reply : Reply) (count : ℕ) → IsControl old.0 → HoweverRead keeps (KeepsAhead old.0 c) old.1 new.1 → keeps.faults new.1 ≡ keeps.faults old.1 → Steps old.0 new.0 c reply → count < length (text_of reply)
      → KeptRefinesCut keeps old new (c ∷ []) (take count (text_of reply))
  kept-line_cut reply count kept ahead same steps within = record {
    network = steps.network;
    stays = read-weaker keeps (KeepsAhead old.0 c) (StaysWithBook old.0 new.0) old.1 new.1 (λ a b before. follows a b kept before reply steps) ahead;
    run = λ s stands.
        let (s', step, stands') = steps.step s stands in (
          s',
          stands',
          record {
            writes = record { before = []; cut = c; after = []; commands_are = refl; replies = []; mid = s; run = refl; reply = told reply; step = as_ever reply s' step; count = count; short = within; output = refl };
            counted = same;
          },
        );
  }

  -- a line of which nothing was kept, and so nothing changed
  unkept-stay : new.0 ≡ old.0 → HoweverRead keeps Same old.1 new.1 → HoweverRead keeps (StaysWithBook old.0 new.0) old.1 new.1
  unkept-stay same rows_same =
      read-weaker keeps Same (StaysWithBook old.0 new.0) old.1 new.1 (λ a b rows are. rows ∙ are ∙ ap (λ (control : ControlValue). Some (rows_of control.net control.bookings)) (sym same)) rows_same

  pub unkept-line : (reply : KeptReply) → ((s : SeatState) → Represents old.0 s → KeptStep old.0.net s c reply s) → new.0 ≡ old.0 → HoweverRead keeps Same old.1 new.1 → keeps.faults new.1 ≡ count_after (reply ∷ []) (keeps.faults old.1)
      → KeptRefines keeps old new (c ∷ []) (kept_text reply)
  unkept-line reply steps same rows_same counted = record {
    network = ap (λ (control : ControlValue). control.net) same;
    stays = unkept-stay same rows_same;
    run = λ s stands. (
      s,
      subst (λ (control : ControlValue). Represents control s) (sym same) stands,
      record { writes = record { replies = reply ∷ []; run = (s, steps s stands, refl); output = sym (append-nil (kept_text reply)) }; counted = counted },
    );
  }

  pub unkept-line_cut : (reply : KeptReply) (count : ℕ) → ((s : SeatState) → Represents old.0 s → KeptStep old.0.net s c reply s) → new.0 ≡ old.0 → HoweverRead keeps Same old.1 new.1
      → keeps.faults new.1 ≡ count_after (reply ∷ []) (keeps.faults old.1) → count < length (kept_text reply) → KeptRefinesCut keeps old new (c ∷ []) (take count (kept_text reply))
  unkept-line_cut reply count steps same rows_same counted within = record {
    network = ap (λ (control : ControlValue). control.net) same;
    stays = unkept-stay same rows_same;
    run = λ s stands. (
      s,
      subst (λ (control : ControlValue). Represents control s) (sym same) stands,
      record {
        writes = record { before = []; cut = c; after = []; commands_are = refl; replies = []; mid = s; run = refl; reply = reply; step = steps s stands; count = count; short = within; output = refl };
        counted = counted;
      },
    );
  }

  -- ---- as its reply was put
  pub line-kept : {T E : Type 0} (held held' : Option (List ℕ)) (sunk sunk' : ℕ) (result : Result T E) → is_control old → is_control new → HoweverRead keeps (KeepsAhead old.0 c) old.1 new.1 → keeps.faults new.1 ≡ keeps.faults old.1
      → OnOk result (AnswersLine old.0 new.0 c held held') → HasCause sunk sunk' result → OnOk result (Answers (KeptRefines keeps) is_control old new (c ∷ []) held held' sunk sunk')
  line-kept held held' sunk sunk' (Ok value) was sound ahead count line cause = record {
    output = text_of line.reply;
    written = line.written;
    means = kept-line line.reply was ahead count line.steps;
    counts = cause.done;
    next = line.steps.next;
    sound = sound;
  }
  line-kept held held' sunk sunk' (Err error) was sound ahead count line cause = tt

  pub line-kept_cut : {T E : Type 0} (held held' : Option (List ℕ)) (sunk sunk' : ℕ) (result : Result T E) → is_control old → is_control new → HoweverRead keeps (KeepsAhead old.0 c) old.1 new.1 → keeps.faults new.1 ≡ keeps.faults old.1
      → OnErr result (CutsLine old.0 new.0 c held held') → HasCause sunk sunk' result → OnErr result (AnswersCut (KeptRefinesCut keeps) is_control old new (c ∷ []) held held' sunk sunk')
  line-kept_cut held held' sunk sunk' (Ok value) was sound ahead count line cause = tt
  line-kept_cut held held' sunk sunk' (Err error) was sound ahead count line cause = record {
    output = take line.front.count (text_of line.reply);
    written = line.front.grown;
    means = kept-line_cut line.reply line.front.count was ahead count line.steps line.front.short;
    rose = cause.failed;
    later = cause.later;
    sound = sound;
  }

  module _ (reply : KeptReply) (held held' : Option (List ℕ)) (sunk sunk' : ℕ) (sound : is_control new) (steps : (s : SeatState) → Represents old.0 s → KeptStep old.0.net s c reply s) (same : new.0 ≡ old.0)
      (rows_same : HoweverRead keeps Same old.1 new.1) (counted : keeps.faults new.1 ≡ count_after (reply ∷ []) (keeps.faults old.1)) where
    pub line-unkept : {T E : Type 0} (result : Result T E) → OnOk result (Appends held held' (kept_text reply)) → HasCause sunk sunk' result → OnOk result (Answers (KeptRefines keeps) is_control old new (c ∷ []) held held' sunk sunk')
    line-unkept (Ok value) written cause = record {
      output = kept_text reply;
      written = written;
      means = unkept-line reply steps same rows_same counted;
      counts = cause.done;
      next = omega (arith, ap (λ (control : ControlValue). control.next) same);
      sound = sound;
    }
    line-unkept (Err error) written cause = tt

    pub line-unkept_cut : {T E : Type 0} (result : Result T E) → OnErr result (AppendsFront held held' (kept_text reply)) → HasCause sunk sunk' result
        → OnErr result (AnswersCut (KeptRefinesCut keeps) is_control old new (c ∷ []) held held' sunk sunk')
    line-unkept_cut (Ok value) front cause = tt
    line-unkept_cut (Err error) front cause = record {
      output = take front.count (kept_text reply);
      written = front.grown;
      means = unkept-line_cut reply front.count steps same rows_same counted front.short;
      rose = cause.failed;
      later = cause.later;
      sound = sound;
    }

-- ---- as the keeper answered
module _ {P : Type 0} (keeps : Ghosts P) (control : ControlValue) (old new : P) (result : Result (Unit {0}) KeepFault) where
  pub sold-kept : (name : List ℕ) (party j number : ℕ) → product_named control.net name ≡ Some j
      → answer.Sold number ≡ verdict_of control.net control.plan control.bookings control.next j party → IsControl control
      → OnOk result (Adds (record { number = number; product = name; party = party }) (keeps.rows old) (keeps.rows new))
      → (keeps.trusted new → keeps.trusted old × OnOk result (Adds (record { number = number; product = name; party = party }) (keeps.shown old) (keeps.shown new))
      × OnErr result (keeps.shown new ≡ keeps.shown old))
      → OnOk result (HoweverRead keeps (KeepsAhead control (command.Book name party)) old new)
  sold-kept name party j number found is kept adds shows =
      changed-read keeps old new (Adds (record { number = number; product = name; party = party })) (KeepsAhead control (command.Book name party)) result
      (λ a b adds. sold-ahead control name party j a b found (answer.Sold number) is number refl kept adds) adds shows

  pub live-kept : (number : ℕ) (b : Booking) → booking_numbered control.bookings number ≡ Some b → OnOk result (Drops number (keeps.rows old) (keeps.rows new))
      → (keeps.trusted new → keeps.trusted old × OnOk result (Drops number (keeps.shown old) (keeps.shown new)) × OnErr result (keeps.shown new ≡ keeps.shown old))
      → OnOk result (HoweverRead keeps (KeepsAhead control (command.Cancel number)) old new)
  live-kept number b live drops shows =
      changed-read keeps old new (Drops number) (KeepsAhead control (command.Cancel number)) result (λ a b' drops. live-ahead control number a b' b live drops) drops shows
