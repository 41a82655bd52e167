-- What holds of each hub, as its clients and what is awaited change.
use Rattle.std.proofs.Common.{ℕ, ◌≡◌, ◌≢◌, ◌<◌, ◌≤◌, Bool, true, false, List, [], length, get_or, Option, Some, None, refl, subst, inl, inr}
use Rattle.std.specs.Prelude.{is_some, slice_set}
use Rattle.nrm_frames.specs.declared.limits.TheConstants.{LAST_PLACE}
use Rattle.nrm_frames.specs.declared.rights.Rights.{Rights}
use Rattle.nrm_frames.specs.declared.why.Why.{Why}
use Rattle.nrm_hub.specs.Clients.{ClientValue, new_client, with_piece}
use Rattle.nrm_hub.specs.Hub.{takes_frames}
use Rattle.nrm_hub.specs.Inner.Seats.{CameAt, ClosesAt, HasPlaces, came, closes, passed_by, stays}
use Rattle.nrm_hub.specs.Inner.Taking.{joined, refused}
use Rattle.nrm_hub.specs.Seats.{AreTold}
use Rattle.nrm_hub.specs.Waiting.{IsTold}
use Rattle.nrm_hub.specs.declared.phase.Phase.{Phase}
use Rattle.nrm_hub.specs.declared.phase.Phase.TheVariants as phase
use Rattle.nrm_hub.proofs.ClientPlaces.{at-changed, at-longer}
use Rattle.nrm_hub.proofs.HubPlaces.{place-within}
use Rattle.nrm_hub.proofs.HubSteps.{phase_after}
use Rattle.nrm_hub.proofs.Phases.{closing-unsettled, frames-replayed, follows-closing}

-- ---- nobody was told something while one changes
pub told-set : (clients : List (Option ClientValue)) (place : ℕ) (c : ClientValue) → place < length clients → IsTold c → AreTold clients
    → AreTold (slice_set clients place (Some c))
told-set clients place c within one told other d small is = elim (at-changed clients place other (Some c) d within is) [
  | inl (e, same) ↦ let same_client : c ≡ d = cc in subst IsTold same_client one
  | inr (e, was) ↦ told other d small was
]

pub told-more : (clients new : List (Option ClientValue)) → HasPlaces clients new → AreTold clients → AreTold new
told-more clients new (count, is) told place c small there =
    told place c small (at-longer clients count place c (subst (λ (cs : List (Option ClientValue)). get_or cs place None ≡ Some c) is there))

pub told-nobody : (clients : List (Option ClientValue)) → clients ≡ [] → AreTold clients
told-nobody clients none place c small there =
    let nobody : None ≡ Some c = subst (λ (cs : List (Option ClientValue)). get_or cs place None ≡ Some c) none there in
    absurd (cc)

pub told-new : (serial : ℕ) (name : List ℕ) (rights : Rights) → IsTold (new_client serial name rights)
told-new serial name rights = record { told = refl; used = refl; stays = refl }

-- a piece came, and so somebody is to be closed or all were told still
pub told-came : (clients clients' : List (Option ClientValue)) (place : ℕ) (piece : List ℕ) (closes_it : Bool) (p : Phase)
    → CameAt clients place piece clients' closes_it → (p ≡ phase.Settled → AreTold clients) → phase_after closes_it p ≡ phase.Settled → AreTold clients'
told-came clients _ place piece _ p (passed_by nothing) told is = told is
told-came clients _ place piece _ p (came c _ there whole (refused _ reason much)) told is = absurd (closing-unsettled p is)
told-came clients _ place piece _ p (came c _ there whole (joined _ fits)) told is =
    let settled : p ≡ phase.Settled = subst (λ (o : Option Why). phase_after (is_some o) p ≡ phase.Settled) whole is in
    λ other d small at. elim (at-changed clients place other (Some (with_piece c piece)) d (place-within clients place c there) at) [
      | inl (e, same) ↦
          let one : IsTold c = told settled place c (subst (λ (k : ℕ). k ≤ LAST_PLACE) e small) there in
          let same_client : with_piece c piece ≡ d = cc in
          subst IsTold same_client (record { told = one.told; used = one.used; stays = one.stays })
      | inr (e, was) ↦ told settled other d small was
    ]

pub told-closes : (clients clients' : List (Option ClientValue)) (place : ℕ) (reason : Why) (closes_it : Bool) (p : Phase)
    → ClosesAt clients place reason clients' closes_it → (p ≡ phase.Settled → AreTold clients) → phase_after closes_it p ≡ phase.Settled → AreTold clients'
told-closes clients _ place reason _ p (stays nothing) told is = told is
told-closes clients _ place reason _ p (closes c there whole) told is = absurd (closing-unsettled p is)

-- rows aren't given again where frames of clients come
pub replayed-after : (closes_it : Bool) (p : Phase) → takes_frames p ≡ true → phase_after closes_it p ≢ phase.Replaying
replayed-after false p frames is = frames-replayed p frames is
replayed-after true p frames is = (follows-closing p frames).replaying is
