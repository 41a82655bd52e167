-- What methods of the hub do, by what they do to the clients at their places.
use Rattle.std.proofs.Common.{ℕ, ◌≡◌, ◌≢◌, ◌∙◌, ◌<◌, Bool, true, false, List, [], ◌∷◌, ◌++◌, length, get_or, Option, Some, None, refl, sym, ap, subst}
use Rattle.std.specs.Prelude.{is_some, replicate, slice_set}
use Rattle.std.proofs.lemmas.List.{get_or-set_same, set-get_or}
use Rattle.nrm_frames.specs.Outgoing.{close, send}
use Rattle.nrm_frames.specs.declared.header.Header.TheVariants as header
use Rattle.nrm_frames.specs.declared.why.Why.{Why}
use Rattle.nrm_frames.specs.declared.why.Why.TheVariants as why
use Rattle.nrm_hub.specs.Spare.{IsSpare}
use Rattle.nrm_hub.specs.Clients.{ClientValue, after_telling, closed_for, with_piece}
use Rattle.nrm_hub.specs.Goes.{Goes}
use Rattle.nrm_hub.specs.Hub.{HubValue, after_closing, alone, client_at, seated_after, takes_frames, takes_lines, with_client, with_closed}
use Rattle.nrm_hub.specs.Inner.Seats.{CameAt, ClosesAt, HasPlaces, IsToldAt, TakesAt, TakesBy, came, closes, nobody, passed_by, stays, takes}
use Rattle.nrm_hub.specs.Inner.Taking.{IsTook, TakesNext, joined, refused}
use Rattle.nrm_hub.specs.Register.{RegisterValue}
use Rattle.nrm_hub.specs.World.{frame}
use Rattle.nrm_hub.specs.declared.client.Took.{Took}
use Rattle.nrm_hub.specs.declared.client.Took.TheVariants as took
use Rattle.nrm_hub.specs.declared.phase.Phase.{Phase}
use Rattle.nrm_hub.specs.declared.phase.Phase.TheVariants as phase
use Rattle.nrm_hub.proofs.Going.{goes-closed, goes-left, goes-long, goes-past, goes-piece, goes-places, goes-same, goes-told, goes-too_much}
use Rattle.nrm_hub.proofs.HubLines.{after_taking, goes-taken}
use Rattle.nrm_hub.proofs.HubPlaces.{place-within, unchanged}
use Rattle.nrm_hub.proofs.Unseated.{alone-again, seated-some}

-- ---- gone
-- the phase, once somebody is to be closed, if so
abbrev pub phase_after : Bool → Phase → Phase
phase_after true p = after_closing p
phase_after false p = p

pub frames-after : (closes_it : Bool) (p : Phase) → takes_frames p ≡ true → takes_frames (phase_after closes_it p) ≡ true
frames-after false p is = is
frames-after true phase.Settled is = refl
frames-after true phase.Answering is = refl
frames-after true phase.Asked is = refl
frames-after true phase.Replaying is = is
frames-after true phase.Telling is = is
frames-after true phase.Ended is = is

pub goes-gone : (h : HubValue) (place : ℕ) (clients : List (Option ClientValue)) (closes_it : Bool) → takes_frames h.phase ≡ true
    → ClosesAt h.clients place why.Gone clients closes_it
    → Goes h (record h { clients = clients; phase = phase_after closes_it h.phase }) (frame (header.Gone place) [] ∷ []) []
goes-gone h place _ _ open_still (closes c there whole) = goes-left h place c open_still there whole
goes-gone h place _ _ open_still (stays nothing) = goes-past h (frame (header.Gone place) []) open_still nothing

-- ---- a piece came
pub goes-came : (h : HubValue) (place : ℕ) (piece : List ℕ) (clients : List (Option ClientValue)) (closes_it : Bool) → takes_frames h.phase ≡ true
    → CameAt h.clients place piece clients closes_it
    → Goes h (record h { clients = clients; phase = phase_after closes_it h.phase }) (frame (header.Came place (length piece)) piece ∷ []) []
goes-came h place piece _ _ open_still (came c _ there whole (joined _ fits)) =
    subst (λ (b : Bool). Goes h (record h { clients = slice_set h.clients place (Some (with_piece c piece)); phase = phase_after b h.phase })
    (frame (header.Came place (length piece)) piece ∷ []) []) (ap (λ (o : Option Why). is_some o) (sym whole))
    (goes-piece h place c open_still there whole piece fits)
goes-came h place piece _ _ open_still (came c _ there whole (refused _ reason much)) =
    goes-too_much h place c open_still there whole piece reason much
goes-came h place piece _ _ open_still (passed_by nothing) = goes-past h (frame (header.Came place (length piece)) piece) open_still nothing

-- ---- a line was taken
-- where lines are taken the word that all is kept isn't awaited
pub after-lines : (p : Phase) → takes_lines p ≡ true → after_closing p ≡ phase.Answering
after-lines phase.Settled is = refl
after-lines phase.Answering is = refl
after-lines phase.Asked is = absurd (cc)
after-lines phase.Replaying is = absurd (cc)
after-lines phase.Telling is = absurd (cc)
after-lines phase.Ended is = absurd (cc)

-- the hub after a line of the client at a place, or after one that is too long
module _ (h : HubValue) (place : ℕ) (c c' : ClientValue) (r' : RegisterValue) (takes_still : takes_lines h.phase ≡ true)
    (there : client_at h place ≡ Some c) (whole : c.closing ≡ None) (spare : Option ℕ) (is_spare : c.desk ≡ None → IsSpare h.register h.clients spare)
  where
    goes-next : TakesNext spare h.register r' c c' → Goes h (after_taking h place c.desk c' r') [] []
    goes-next next = goes-taken h place c takes_still there whole c' r' next.end next.ends next.short spare is_spare next.begins

    -- who becomes no desk by a line that is too long is as it was
    long-seat : c' ≡ closed_for c why.Long → (o : Option ℕ) → c.desk ≡ o → seated_after h.clients place o c' ≡ slice_set h.clients place (Some c')
    long-seat is None none = ap (λ (o : Option ℕ). alone h.clients place c' o) (ap (λ (x : ClientValue). x.desk) is ∙ none)
    long-seat is (Some d) some = refl

    pub goes-took : (result : Took) → result ≢ took.Nothing → IsTook spare h.register r' c c' result → Goes h (after_taking h place c.desk c' r') [] []
    goes-took took.Nothing some is = absurd (some refl)
    goes-took took.Line some next = goes-next next
    goes-took took.LongLine some next = goes-next next
    goes-took took.TooLong some (same, is, long, none) =
        let shut : HubValue = with_closed h place c why.Long in
        goes-same h h shut (after_taking h place c.desk c' r') [] [] refl
        (ap (λ (p : Phase). let h' : HubValue = record h { clients = slice_set h.clients place (Some (closed_for c why.Long)); phase = p } in h')
        (after-lines h.phase takes_still)
        ∙ ap (λ (x : ClientValue). let h' : HubValue = record h { clients = slice_set h.clients place (Some x); phase = phase.Answering } in h') (sym is)
        ∙ ap (λ (r : RegisterValue). let h' : HubValue = record h { register = r; clients = slice_set h.clients place (Some c'); phase = phase.Answering } in h')
        (sym same)
        ∙ ap (λ (cs : List (Option ClientValue)). let h' : HubValue = record h { register = r'; clients = cs; phase = phase.Answering } in h')
        (sym (long-seat is c.desk refl)))
        (goes-long h place c takes_still there whole long none)

-- what became of the clients: nobody was there of whom a line is taken, or it was taken, and then it is alone
pub record TookAt (h : HubValue) (place : ℕ) (r' : RegisterValue) (clients : List (Option ClientValue)) : Type 0 where
  pub before : ClientValue
  pub after : ClientValue
  pub there : client_at h place ≡ Some before
  pub now : get_or clients place None ≡ Some after
  pub clients_are : clients ≡ slice_set h.clients place (Some after)
  pub goes : Goes h (after_taking h place before.desk after r') [] []

pub took-at : (h : HubValue) (place : ℕ) (r' : RegisterValue) (clients : List (Option ClientValue)) (result : Took) → takes_lines h.phase ≡ true
    → result ≢ took.Nothing → TakesBy h.register r' h.clients place clients result → TookAt h place r' clients
took-at h place r' clients result takes_still some by = at by.spare by.is_spare clients result some by.takes
  where
    at : (spare : Option ℕ) → ((c : ClientValue) → client_at h place ≡ Some c → c.desk ≡ None → IsSpare h.register h.clients spare)
        → (clients : List (Option ClientValue)) (result : Took) → result ≢ took.Nothing → TakesAt spare h.register r' h.clients place clients result
        → TookAt h place r' clients
    at spare is_spare _ _ some (takes c c' result there whole is) = record {
      before = c;
      after = c';
      there = there;
      now = get_or-set_same h.clients place (Some c') None (place-within h.clients place c there);
      clients_are = refl;
      goes = goes-took h place c c' r' takes_still there whole spare (is_spare c there) result some is;
    }
    at spare is_spare _ _ some (nobody same nothing) = absurd (some refl)

-- it became no desk by that, or it is alone now
module _ (h : HubValue) (place : ℕ) (r' : RegisterValue) (taken : List (Option ClientValue)) (at : TookAt h place r' taken) where
  pub goes-seated : (r'' : RegisterValue) (clients : List (Option ClientValue)) → at.before.desk ≡ None → r'' ≡ r'
      → clients ≡ alone taken place at.after at.after.desk → Goes h (record h { register = r''; clients = clients; phase = phase.Answering }) [] []
  goes-seated r'' clients was same is =
      let all : seated_after h.clients place at.before.desk at.after ≡ clients =
      ap (λ (o : Option ℕ). seated_after h.clients place o at.after) was ∙ sym (alone-again h.clients place at.after at.after.desk)
      ∙ ap (λ (xs : List (Option ClientValue)). alone xs place at.after at.after.desk) (sym at.clients_are) ∙ sym is in
      goes-same h h (after_taking h place at.before.desk at.after r') (record h { register = r''; clients = clients; phase = phase.Answering }) [] [] refl
      (ap (λ (cs : List (Option ClientValue)). let h' : HubValue = record h { register = r'; clients = cs; phase = phase.Answering } in h') all
      ∙ ap (λ (r : RegisterValue). let h' : HubValue = record h { register = r; clients = clients; phase = phase.Answering } in h') (sym same)) at.goes

  pub goes-stayed : is_some at.before.desk ≡ true → Goes h (record h { register = r'; clients = taken; phase = phase.Answering }) [] []
  goes-stayed was =
      goes-same h h (after_taking h place at.before.desk at.after r') (record h { register = r'; clients = taken; phase = phase.Answering }) [] [] refl
      (ap (λ (cs : List (Option ClientValue)). let h' : HubValue = record h { register = r'; clients = cs; phase = phase.Answering } in h')
      (seated-some h.clients place at.after at.before.desk was ∙ sym at.clients_are)) at.goes

-- nothing was taken
pub took-nothing : (h : HubValue) (place : ℕ) (r' : RegisterValue) (clients : List (Option ClientValue)) (result : Took) → result ≡ took.Nothing
    → TakesBy h.register r' h.clients place clients result → h ≡ record h { register = r'; clients = clients }
took-nothing h place r' clients result nothing by = at by.spare clients result nothing by.takes
  where
    at : (spare : Option ℕ) (clients : List (Option ClientValue)) (result : Took) → result ≡ took.Nothing
        → TakesAt spare h.register r' h.clients place clients result → h ≡ record h { register = r'; clients = clients }
    at spare _ _ nothing (takes c c' result there whole is) =
        let is' : IsTook spare h.register r' c c' took.Nothing = subst (IsTook spare h.register r' c c') nothing is in
        let clients : h.clients ≡ slice_set h.clients place (Some c') =
        sym (set-get_or h.clients place None) ∙ ap (λ (x : Option ClientValue). slice_set h.clients place x) (there ∙ ap Some (sym is'.1)) in
        ap (λ (r : RegisterValue). let h' : HubValue = record h { register = r } in h') (sym is'.0)
        ∙ ap (λ (cs : List (Option ClientValue)). let h' : HubValue = record h { register = r'; clients = cs } in h') clients
    at spare _ _ nothing (nobody same none) = ap (λ (r : RegisterValue). let h' : HubValue = record h { register = r } in h') (sym same)

-- ---- what waited was sent, and the client is closed
pub goes-sent : (h h' : HubValue) (place used : ℕ) (told : List ℕ) (c c0 c' : ClientValue) → h ≡ h' → client_at h place ≡ Some c
    → h'.phase ≡ phase.Telling → c0 ≡ c → used ≡ c0.used → told ≡ c0.told → c' ≡ after_telling c0
    → Goes h' (with_client h place (Some c')) [] (send place used told ∷ [])
goes-sent h h' place used told c c0 c' stands there settled same used_is told_is new =
    let told' : HubValue = with_client h place (Some (after_telling c)) in
    let base : Goes h told' [] (send place c.used c.told ∷ []) = goes-told h place c there (ap (λ (x : HubValue). x.phase) stands ∙ settled) in
    let used' : c.used ≡ used = ap (λ (x : ClientValue). x.used) (sym same) ∙ sym used_is in
    let text' : c.told ≡ told = ap (λ (x : ClientValue). x.told) (sym same) ∙ sym told_is in
    let is : after_telling c ≡ c' = ap (λ (x : ClientValue). after_telling x) (sym same) ∙ sym new in
    goes-same h h' told' (with_client h place (Some c')) [] (send place used told ∷ []) stands
    (ap (λ (x : ClientValue). with_client h place (Some x)) is)
    (subst (λ (n : ℕ). Goes h told' [] (send place n told ∷ [])) used'
    (subst (λ (text : List ℕ). Goes h told' [] (send place c.used text ∷ [])) text' base))

pub goes-shut : (h h' : HubValue) (place : ℕ) (c : ClientValue) (closing : Option Why) (reason : Why) → h ≡ h' → client_at h' place ≡ Some c
    → closing ≡ c.closing → closing ≡ Some reason → IsToldAt h'.clients place → h'.phase ≡ phase.Telling
    → Goes h' (with_client h place None) [] (close place reason ∷ [])
goes-shut h h' place c closing reason stands there closing_is is told telling =
    goes-same h' h' (with_client h' place None) (with_client h place None) [] (close place reason ∷ []) refl
    (ap (λ (x : HubValue). with_client x place None) (sym stands))
    (goes-closed h' place c reason there (sym closing_is ∙ is) (told c there).0 (told c there).1 telling)

-- a client that was read and written back
pub same-clients : (h : HubValue) (place : ℕ) (x y : Option ClientValue) → place < length h.clients → x ≡ get_or h.clients place x → x ≡ y
    → h ≡ record h { clients = slice_set h.clients place y }
same-clients h place x y within read is =
    ap (λ (cs : List (Option ClientValue)). let h' : HubValue = record h { clients = cs } in h')
    (sym (unchanged h.clients place x within read) ∙ ap (λ (z : Option ClientValue). slice_set h.clients place z) is)

-- places were added
pub goes-made : (h : HubValue) (clients : List (Option ClientValue)) → takes_frames h.phase ≡ true → HasPlaces h.clients clients
    → Goes h (record h { clients = clients }) [] []
goes-made h clients open_still (count, is) =
    goes-same h h (record h { clients = h.clients ++ replicate count None }) (record h { clients = clients }) [] [] refl
    (ap (λ (cs : List (Option ClientValue)). let h' : HubValue = record h { clients = cs } in h') (sym is)) (goes-places h count open_still)
