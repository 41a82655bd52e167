-- Whatever happens at the desks, each client is told the replies to its own lines, in order, and none before its row is said to be kept.
use Rattle.std.proofs.Common.{ℕ, ◌≡◌, ◌≢◌, ◌∙◌, ◌<◌, ◌≤◌, ◌==◌, true, false, List, [], ◌∷◌, ◌++◌, length, get_or, take, refl, sym, ap, ap₂, subst, arith, inl, inr, ◌+◌}
use Rattle.std.proofs.Common.{length-append, Option, Some, None}
use Rattle.std.specs.Prelude.{All, slice_set}
use Rattle.std.proofs.lemmas.List.{take-append-le}
use Rattle.std.proofs.Math.Seq.{take-length}
use Rattle.nrm_control.specs.Standing.{ControlValue}
use Rattle.nrm_frames.specs.Frames.{Frame}
use Rattle.nrm_frames.specs.Outgoing.{Output}
use Rattle.nrm_frames.specs.declared.limits.TheConstants.{LAST_PLACE}
use Rattle.nrm_frames.specs.declared.why.Why.{Why}
use Rattle.nrm_frames.specs.declared.why.Why.TheVariants as why
use Rattle.nrm_stream.specs.Lines.{unfinished_line, whole_lines}
use Rattle.nrm_hub.specs.Clients.{ClientValue, after_telling, closed_for, joined_as, new_client, with_piece}
use Rattle.nrm_hub.specs.Desks.{IsFrontOf, lines_in, of_client, told_in}
use Rattle.nrm_hub.specs.Hub.{HubValue, after_closing, client_at, takes_frames, with_closed}
use Rattle.nrm_hub.specs.Lines.{How}
use Rattle.nrm_hub.specs.Register.{RegisterValue, desk_at}
use Rattle.nrm_hub.specs.Rows.{Entry}
use Rattle.nrm_hub.specs.Waiting.{IsTold, OfEach}
use Rattle.nrm_hub.specs.World.{Comes, Exchange, Happens, World, at_one, beginning, exchange_of, with_answered, with_piece_of}
use Rattle.nrm_hub.specs.World.{all_told, asked_to_keep, becomes_desk, ended, here, left, line_taken, opened, passed_over, piece_came, places_made, readied}
use Rattle.nrm_hub.specs.World.{rows_again, said_to_be_kept, then, too_long, too_much_came, was_closed, was_not_opened, was_told}
use Rattle.nrm_hub.specs.declared.phase.Phase.TheVariants as phase
use Rattle.nrm_hub.proofs.ClientAnswers.{at-each, at-other, at-same, front-longer, front-of_all, is-or-not, of_client-other, of_client-own}
use Rattle.nrm_hub.proofs.ClientSeats.{AreSeated, Has, Stands, after-seated, alone-seated, changed-seated, closed-stands, gone-seated, joined-stands, line-lines}
use Rattle.nrm_hub.proofs.ClientSeats.{line-stands, nobody-seated, opened-seated, piece-stands, places-seated, told-stands}
use Rattle.nrm_hub.proofs.ClientPlaces.{at-changed, at-longer}
use Rattle.nrm_hub.proofs.ClientTells.{Tells, takes-tells}
use Rattle.nrm_hub.proofs.HubPlaces.{place-within}
use Rattle.nrm_hub.proofs.HubTurns.{line-used}
use Rattle.nrm_hub.proofs.Phases.{Follows, closing-unsettled, follows-closing, frames-replayed, lines-frames}
use Rattle.nrm_stream.proofs.JoinedLines.{joined}

-- what there is of a client of a number
abbrev pub has_in : World → ℕ → Has
has_in w k = record { came = w.came k; sent = w.sent k; used = w.used k; answered = of_client k w.answered }

abbrev pub LinesFirst : World → ℕ → Type 0
LinesFirst w k = IsFrontOf (lines_in (of_client k w.answered)) (whole_lines (w.came k))

abbrev pub SentFirst : World → ℕ → Type 0
SentFirst w k = IsFrontOf (w.sent k) (told_in (of_client k (take w.safe w.answered)))

pub record ClientsStand (w : World) : Type 0 where
  pub within : w.safe ≤ length w.answered
  pub telling : w.hub.phase ≡ phase.Telling → w.safe ≡ length w.answered
  pub settled : w.hub.phase ≡ phase.Settled → OfEach IsTold w.hub
  pub replaying : w.hub.phase ≡ phase.Replaying → w.hub.clients ≡ []
  pub seated : AreSeated w.hub.clients w.hub.opened (has_in w)
  pub lines : (k : ℕ) → LinesFirst w k
  pub sent : (k : ℕ) → SentFirst w k

pub beginning-stands : (start : ControlValue) → ClientsStand (beginning start)
beginning-stands start = record {
  within = omega arith;
  telling = λ e. absurd (cc);
  settled = λ e. absurd (cc);
  replaying = λ e. refl;
  seated = nobody-seated;
  lines = λ k. ([], refl);
  sent = λ k. ([], refl);
}

-- ---- a client changed, and nothing that came, was sent or was answered
module _ (w : World) (place : ℕ) (c c' : ClientValue) (h : ClientsStand w) (there : client_at w.hub place ≡ Some c)
    (serial : c'.serial ≡ c.serial) (now : Stands (has_in w c.serial) c') where
  client-seated : AreSeated (slice_set w.hub.clients place (Some c')) w.hub.opened (has_in w)
  client-seated = changed-seated w.hub.clients w.hub.opened (has_in w) (has_in w) place c c' h.seated there serial (λ k e. refl) now

-- it is to be closed
closed-seated : (w : World) (place : ℕ) (c : ClientValue) (reason : Why) → ClientsStand w → client_at w.hub place ≡ Some c
    → AreSeated (slice_set w.hub.clients place (Some (closed_for c reason))) w.hub.opened (has_in w)
closed-seated w place c reason h there = client-seated w place c (closed_for c reason) h there refl
    (closed-stands (has_in w c.serial) c reason (h.seated.each place c there))

-- each was told, while one changes
set-told : (hub : HubValue) (place : ℕ) (c : ClientValue) → OfEach IsTold hub → place < length hub.clients → IsTold c
    → (other : ℕ) (d : ClientValue) → other ≤ LAST_PLACE → get_or (slice_set hub.clients place (Some c)) other None ≡ Some d → IsTold d
set-told hub place c told short one other d small is = elim (at-changed hub.clients place other (Some c) d short is) [
  | inl (e, same) ↦ let same_client : c ≡ d = cc in subst IsTold same_client one
  | inr (e, was) ↦ told other d small was
]

-- ---- a piece came
module _ (w : World) (place : ℕ) (c : ClientValue) (piece : List ℕ) (h : ClientsStand w) (there : client_at w.hub place ≡ Some c)
    (small : place ≤ LAST_PLACE → w.hub.phase ≡ phase.Settled → IsTold c) where
  abbrev k : ℕ
  k = c.serial

  abbrev came : List ℕ
  came = w.came k ++ piece

  piece-others : (j : ℕ) → j ≢ k → has_in (with_piece_of w place c piece) j ≡ has_in w j
  piece-others j differ =
      ap (λ (b : List ℕ). record { came = b; sent = w.sent j; used = w.used j; answered = of_client j w.answered }) (at-other w.came k j came differ)

  piece-now : Stands (has_in (with_piece_of w place c piece) k) (with_piece c piece)
  piece-now =
      subst (λ (b : List ℕ). Stands (record { came = b; sent = w.sent k; used = w.used k; answered = of_client k w.answered }) (with_piece c piece))
      (sym (at-same w.came k came)) (piece-stands (has_in w k) c piece (h.seated.each place c there))

  piece-lines : IsFrontOf (lines_in (of_client k w.answered)) (whole_lines came)
  piece-lines =
      let (lines, last, all) = joined (w.came k) piece in
      subst (λ (l : List (List ℕ)). IsFrontOf (lines_in (of_client k w.answered)) l) (sym lines)
      (front-longer (lines_in (of_client k w.answered)) (whole_lines (w.came k)) (whole_lines (unfinished_line (w.came k) ++ piece))
      (h.lines k))

  pub piece-kept : ClientsStand (with_piece_of w place c piece)
  piece-kept = record {
    within = h.within;
    telling = h.telling;
    settled = λ e other d short is. elim (at-changed w.hub.clients place other (Some (with_piece c piece)) d
        (place-within w.hub.clients place c there) is) [
          | inl (e', same) ↦
              let told : IsTold c = small (subst (λ (p : ℕ). p ≤ LAST_PLACE) e' short) e in
              let same_client : with_piece c piece ≡ d = cc in
              subst IsTold same_client (record { told = told.told; used = told.used; stays = told.stays })
          | inr (e', was) ↦ h.settled e other d short was
        ];
    replaying = λ e.
        let nobody : None ≡ Some c = sym (ap (λ (l : List (Option ClientValue)). get_or l place None) (h.replaying e)) ∙ there in
        absurd (cc);
    seated = changed-seated w.hub.clients w.hub.opened (has_in w) (has_in (with_piece_of w place c piece)) place c (with_piece c piece)
        h.seated there refl piece-others piece-now;
    lines = at-each w.came k came (λ j b. IsFrontOf (lines_in (of_client j w.answered)) (whole_lines b)) piece-lines h.lines;
    sent = h.sent;
  }

-- ---- a line was taken
module _ (w : World) (place : ℕ) (c c' : ClientValue) (line rest : List ℕ) (r : RegisterValue) (how : How) (text : List ℕ)
    (h : ClientsStand w) (there : client_at w.hub place ≡ Some c) (opens : c.closing ≡ None) (is : c.coming ≡ line ++ 10 ∷ rest)
    (unended : All (λ byte. (byte == 10) ≡ false) line) (tells : Tells c.serial c.told rest text c')
    (used : c'.used ≡ c.used + (length line + 1)) where
  abbrev e : Exchange
  e = exchange_of r c c' line how text

  abbrev after : World
  after = with_answered w place r c.desk c' e

  abbrev own : ℕ
  own = c.serial

  taken-others : (j : ℕ) → j ≢ own → of_client j after.answered ≡ of_client j w.answered
  taken-others j differ = elim (is-or-not own j) [
    | inl (equal, same) ↦ absurd (differ (sym same))
    | inr (equal, other) ↦ of_client-other j w.answered e equal
  ]

  taken-own : of_client own after.answered ≡ of_client own w.answered ++ e ∷ []
  taken-own = of_client-own w.answered e

  taken-now : Stands (has_in after own) c'
  taken-now =
      subst (λ (l : List Exchange). Stands (record { came = w.came own; sent = w.sent own; used = w.used own; answered = l }) c') (sym taken-own)
      (line-stands (has_in w own) c c' rest e opens is unended tells used (h.seated.each place c there))

  taken-lines : (j : ℕ) → LinesFirst after j
  taken-lines j = elim (is-or-not own j) [
    | inl (equal, same) ↦ subst (λ (k : ℕ). LinesFirst after k) same
        (subst (λ (l : List Exchange). IsFrontOf (lines_in l) (whole_lines (w.came own))) (sym taken-own)
        (whole_lines rest, line-lines (has_in w own) c c' rest e opens is unended tells used (h.seated.each place c there)))
    | inr (equal, other) ↦ subst (λ (l : List Exchange). IsFrontOf (lines_in l) (whole_lines (w.came j)))
        (sym (of_client-other j w.answered e equal)) (h.lines j)
  ]

  pub taken-kept : ClientsStand after
  taken-kept = record {
    within = omega (arith, h.within, length-append w.answered (e ∷ []));
    telling = λ e. absurd (cc);
    settled = λ e. absurd (cc);
    replaying = λ e. absurd (cc);
    seated = after-seated w.hub.clients w.hub.opened (has_in w) (has_in after) place c c' h.seated there tells.same
        (λ j differ. ap (λ (l : List Exchange). record { came = w.came j; sent = w.sent j; used = w.used j; answered = l }) (taken-others j differ))
        taken-now c.desk;
    lines = taken-lines;
    sent = λ j. subst (λ (l : List Exchange). IsFrontOf (w.sent j) (told_in (of_client j l)))
        (sym (take-append-le w.safe w.answered (e ∷ []) h.within)) (h.sent j);
  }

-- ---- what waits was sent, once all that was answered is kept
module _ (w : World) (place : ℕ) (c : ClientValue) (h : ClientsStand w) (there : client_at w.hub place ≡ Some c)
    (telling : w.hub.phase ≡ phase.Telling) where
  abbrev its : ℕ
  its = c.serial

  abbrev sent : List ℕ
  sent = w.sent its ++ c.told

  abbrev used : ℕ
  used = w.used its + c.used

  abbrev has_after : ℕ → Has
  has_after j = record { came = w.came j; sent = at_one w.sent its sent j; used = at_one w.used its used j; answered = of_client j w.answered }

  told-now : Stands (has_after its) (after_telling c)
  told-now =
      subst (λ (n : ℕ). Stands (record { came = w.came its; sent = at_one w.sent its sent its; used = n; answered = of_client its w.answered })
      (after_telling c)) (sym (at-same w.used its used))
      (subst (λ (b : List ℕ). Stands (record { came = w.came its; sent = b; used = used; answered = of_client its w.answered }) (after_telling c))
      (sym (at-same w.sent its sent)) (told-stands (has_in w its) c (h.seated.each place c there)))

  pub told-seated : AreSeated (slice_set w.hub.clients place (Some (after_telling c))) w.hub.opened has_after
  told-seated = changed-seated w.hub.clients w.hub.opened (has_in w) has_after place c (after_telling c) h.seated there refl
      (λ j differ. ap₂ (λ (b : List ℕ) (n : ℕ). record { came = w.came j; sent = b; used = n; answered = of_client j w.answered })
      (at-other w.sent its j sent differ) (at-other w.used its j used differ)) told-now

  pub told-sent : (j : ℕ) → IsFrontOf (at_one w.sent its sent j) (told_in (of_client j (take w.safe w.answered)))
  told-sent =
      let whole : take w.safe w.answered ≡ w.answered = ap (λ (n : ℕ). take n w.answered) (h.telling telling) ∙ take-length w.answered in
      at-each w.sent its sent (λ j b. IsFrontOf b (told_in (of_client j (take w.safe w.answered))))
      (subst (λ (l : List Exchange). IsFrontOf sent (told_in (of_client its l))) (sym whole) (h.seated.each place c there).told) h.sent

-- ---- and so what stands goes on to stand
-- another hub, while nothing comes from a client, is sent or is answered
still : (w : World) (hub : HubValue) (inputs : List Frame) (outputs : List Output) (again : List Entry) → ClientsStand w
    → (hub.phase ≡ phase.Telling → w.hub.phase ≡ phase.Telling) → (hub.phase ≡ phase.Settled → OfEach IsTold hub)
    → (hub.phase ≡ phase.Replaying → hub.clients ≡ []) → AreSeated hub.clients hub.opened (has_in w)
    → ClientsStand (record w { hub = hub; inputs = inputs; outputs = outputs; again = again })
still w hub inputs outputs again h telling settled replaying seated = record {
  within = h.within;
  telling = λ e. h.telling (telling e);
  settled = settled;
  replaying = replaying;
  seated = seated;
  lines = h.lines;
  sent = h.sent;
}

-- somebody is to be closed
closes-still : (w : World) (place : ℕ) (c : ClientValue) (reason : Why) (inputs : List Frame) → ClientsStand w → takes_frames w.hub.phase ≡ true
    → client_at w.hub place ≡ Some c → ClientsStand (record w { hub = with_closed w.hub place c reason; inputs = inputs })
closes-still w place c reason inputs h frames there =
    let follows : Follows w.hub.phase (after_closing w.hub.phase) = follows-closing w.hub.phase frames in
    still w (with_closed w.hub place c reason) inputs w.outputs w.again h follows.telling (λ e. absurd (closing-unsettled w.hub.phase e))
    (λ e. absurd (follows.replaying e)) (closed-seated w place c reason h there)

nobody-told : (clients : List (Option ClientValue)) (place : ℕ) (c : ClientValue) → clients ≡ [] → get_or clients place None ≡ Some c → ⊥
nobody-told clients place c none there =
    let nobody : None ≡ Some c = sym (ap (λ (l : List (Option ClientValue)). get_or l place None) none) ∙ there in
    absurd (cc)

pub stands-on : (w w' : World) → ClientsStand w → Happens w w' → ClientsStand w'
stands-on w _ h (rows_again payload rows r replaying some is again) = still w _ _ _ _ h (λ e. e) h.settled h.replaying h.seated
stands-on w _ h (readied replaying) =
    still w _ _ _ _ h (λ e. absurd (cc)) (λ e place c short there. absurd (nobody-told w.hub.clients place c (h.replaying replaying) there))
    (λ e. absurd (cc)) h.seated
stands-on w _ h (places_made count frames) =
    still w _ _ _ _ h (λ e. e) (λ e place c short there. h.settled e place c short (at-longer w.hub.clients count place c there))
    (λ e. absurd (frames-replayed w.hub.phase frames e)) (places-seated w.hub.clients w.hub.opened (has_in w) count h.seated)
stands-on w _ h (opened place name rights frames short free) =
    still w _ _ _ _ h (λ e. e)
    (λ e. set-told w.hub place (new_client w.hub.opened name rights) (h.settled e) short (record { told = refl; used = refl; stays = refl }))
    (λ e. absurd (frames-replayed w.hub.phase frames e))
    (opened-seated w.hub.clients w.hub.opened (has_in w) place name rights h.seated short)
stands-on w _ h (was_not_opened place name rights frames lacks free) = still w _ _ _ _ h (λ e. e) h.settled h.replaying h.seated
stands-on w _ h (piece_came place c piece frames there opens fits) =
    piece-kept w place c piece h there (λ small e. h.settled e place c small there)
stands-on w _ h (passed_over f frames nothing) = still w _ _ _ _ h (λ e. e) h.settled h.replaying h.seated
stands-on w _ h (left place c frames there opens) = closes-still w place c why.Gone _ h frames there
stands-on w _ h (too_much_came place c piece reason frames there opens much) = closes-still w place c reason _ h frames there
stands-on w _ h (too_long place c lines there opens long none) =
    closes-still w place c why.Long w.inputs h (lines-frames w.hub.phase lines) there
stands-on w _ h (becomes_desk place c line rest d r lines there opens none is unended plain spare is_spare joins) =
    still w _ _ _ _ h (λ e. absurd (cc)) (λ e. absurd (cc)) (λ e. absurd (cc))
    (alone-seated w.hub.clients w.hub.opened (has_in w) (has_in w) place c (joined_as c d (desk_at r d).next) h.seated there refl (λ k e. refl)
    (joined-stands (has_in w c.serial) c d (desk_at r d).next (h.seated.each place c there)) (Some d))
stands-on w _ h (line_taken place c c' line rest r how text lines there opens is unended short spare is_spare takes) =
    taken-kept w place c c' line rest r how text h there opens is unended (takes-tells w.hub.register c line rest r c' how text takes)
    (line-used w.hub.register c line rest r c' how text takes)
stands-on w _ h (asked_to_keep answering turns) = still w _ _ _ _ h (λ e. absurd (cc)) (λ e. absurd (cc)) (λ e. absurd (cc)) h.seated
stands-on w _ h (said_to_be_kept was_asked) = record {
  within = omega arith;
  telling = λ e. refl;
  settled = λ e. absurd (cc);
  replaying = λ e. absurd (cc);
  seated = h.seated;
  lines = h.lines;
  sent = λ k. subst (λ (l : List Exchange). IsFrontOf (w.sent k) (told_in (of_client k l))) (sym (take-length w.answered))
      (front-of_all k w.safe w.answered (w.sent k) (h.sent k));
}
stands-on w _ h (was_told place c there telling) = record {
  within = h.within;
  telling = h.telling;
  settled = λ e. absurd (cc);
  replaying = λ e. absurd (cc);
  seated = told-seated w place c h there telling;
  lines = h.lines;
  sent = told-sent w place c h there telling;
}
stands-on w _ h (was_closed place c reason there closing told used telling) =
    still w _ _ _ _ h (λ e. e) (λ e. absurd (cc)) (λ e. absurd (cc))
    (gone-seated w.hub.clients w.hub.opened (has_in w) place c there h.seated)
stands-on w _ h (all_told telling told) = still w _ _ _ _ h (λ e. absurd (cc)) (λ e. told) (λ e. absurd (cc)) h.seated
stands-on w _ h (ended untelling) = still w _ _ _ _ h (λ e. absurd (cc)) (λ e. absurd (cc)) (λ e. absurd (cc)) h.seated

pub clients-stand : (start : ControlValue) (w : World) → Comes (beginning start) w → ClientsStand w
clients-stand start _ here = beginning-stands start
clients-stand start _ (then w w' so_far happens) = stands-on w w' (clients-stand start w so_far) happens
