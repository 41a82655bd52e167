-- Nobody was at the place.
use Rattle.std.proofs.Common.{◌≡◌, ◌+◌, ◌<◌, ◌≤◌, ◌∙◌, [], ◌∷◌, Err, List, None, Ok, Option, Result, Some, ap, arith, inl, inr, length, subst, sym, true}
use Rattle.std.specs.Prelude.{OnErr, OnOk, is_ok, slice_set}
use Rattle.std.specs.Result.{is_err}
use Rattle.std.proofs.lemmas.Bool.{false≢true}
use Rattle.nrm_frames.specs.Outgoing.{close}
use Rattle.nrm_frames.specs.declared.header.Header.TheVariants as header
use Rattle.nrm_frames.specs.declared.why.Why.TheVariants as why
use Rattle.nrm_hub.specs.Clients.{ClientValue, new_client}
use Rattle.nrm_hub.specs.Hub.{HubValue, client_at, takes_frames, with_client}
use Rattle.nrm_hub.specs.World.{frame}
use Rattle.nrm_hub.specs.Seats.{IsHub, IsSeated}
use Rattle.nrm_hub.specs.declared.limits.TheConstants.{MOST_OPENED}
use Rattle.nrm_hub.specs.declared.phase.Phase.{Phase}
use Rattle.nrm_hub.proofs.DuePlaces.{new-rests, set-at-rest}
use Rattle.std.proofs.lemmas.List.Elements.{All-set}
use Rattle.nrm_hub.proofs.Going.{goes-opened, goes-same, goes-then, goes-unopened}
use Rattle.nrm_hub.proofs.HubInvariants.{told-new, told-set}
use Rattle.nrm_hub.proofs.Phases.{frames-replayed}
use Rattle.nrm_hub.proofs.hub.Hub.open.Goals as goal

holds : {T E P : Type 0} (result : Result T E) → is_ok result ≡ true → OnOk result P → P
holds (Ok value) is fact = fact
holds (Err error) is fact = absurd (false≢true is)

fails : {T E : Type 0} {P : Type 0} (result : Result T E) → is_err result ≡ true → OnErr result P → P
fails (Ok value) is fact = absurd (false≢true is)
fails (Err error) is fact = fact

pub returns-then-self-clause-opened : goal.returns-then-self-clause-opened
returns-then-self-clause-opened c =
    let out : MOST_OPENED ≤ c.args.self.now.opened =
    subst (λ (h : HubValue). MOST_OPENED ≤ h.opened) c.self.view_is (omega (arith, c.if-self.true)) in
    goes-unopened c.args.self.now c.args.place c.args.name c.args.rights c.requires (inr out) c.in_default.ensures

pub returns-then-is_err-clause-opened : goal.returns-then-is_err-clause-opened
returns-then-is_err-clause-opened c =
    let made : HubValue = c.make_place.new.self in
    goes-then c.args.self.now made made [] (frame (header.Open c.args.place c.args.name c.args.rights) [] ∷ []) []
    (close c.args.place why.Memory ∷ []) c.make_place.ensures.goes
    (goes-unopened made c.args.place c.args.name c.args.rights (ap (λ (p : Phase). takes_frames p) c.make_place.ensures.phase ∙ c.requires)
    (inl (fails c.make_place.result (sym c.if-is_err.ensures.value) c.make_place.ensures.lacks))
    (c.make_place.ensures.same ∙ c.in_default.ensures))

pub returns-clause-opened : goal.returns-clause-opened
returns-clause-opened c =
    let place = c.args.place in
    let made : HubValue = record {
      register = c.self-2.inside.register;
      clients = c.self-2.inside.clients.items;
      opened = c.self-2.inside.opened;
      phase = c.self-2.inside.phase;
    } in
    let is : made ≡ c.make_place.new.self = c.self-2.view_is in
    let within : place < length made.clients =
    subst (λ (h : HubValue). place < length h.clients) (sym is)
    (holds c.make_place.result c.if-is_err.ensures.negation c.make_place.ensures.there) in
    let free : client_at made place ≡ None =
    ap (λ (h : HubValue). client_at h place) is ∙ c.make_place.ensures.same ∙ c.in_default.ensures in
    let frames : takes_frames made.phase ≡ true =
    ap (λ (h : HubValue). takes_frames h.phase) is ∙ ap (λ (p : Phase). takes_frames p) c.make_place.ensures.phase ∙ c.requires in
    let opens : HubValue = record (with_client made place (Some (new_client made.opened c.args.name c.args.rights))) { opened = made.opened + 1 } in
    let new : HubValue = record made { clients = slice_set made.clients place (Some c.new.result); opened = made.opened + 1 } in
    goes-then c.args.self.now c.make_place.new.self new [] (frame (header.Open place c.args.name c.args.rights) [] ∷ []) [] []
    c.make_place.ensures.goes
    (goes-same made c.make_place.new.self opens new (frame (header.Open place c.args.name c.args.rights) [] ∷ []) [] is
    (ap (λ (x : ClientValue). let h : HubValue = record made { clients = slice_set made.clients place (Some x); opened = made.opened + 1 } in h)
    (sym c.new.ensures))
    (goes-opened made place c.args.name c.args.rights frames within free))

pub invariant_of-self : goal.invariant_of-self
invariant_of-self c =
    let place = c.args.place in
    let clients = c.self-2.inside.clients.items in
    let desks = length c.self-2.inside.register.desks in
    let due = c.self-2.inside.due in
    let heard = c.self-2.inside.heard in
    let within : place < length clients =
    subst (λ (cs : List (Option ClientValue)). place < length cs) (sym (ap (λ (h : HubValue). h.clients) c.self-2.view_is))
    (holds c.make_place.result c.if-is_err.ensures.negation c.make_place.ensures.there) in
    let fresh : ClientValue = new_client c.self-2.inside.opened c.args.name c.args.rights in
    let frames : takes_frames c.self-2.inside.phase ≡ true =
    ap (λ (h : HubValue). takes_frames h.phase) c.self-2.view_is ∙ ap (λ (p : Phase). takes_frames p) c.make_place.ensures.phase ∙ c.requires in
    subst (λ (x : ClientValue). IsHub c.self-2.inside.register (slice_set clients place (Some x)) due heard c.self-2.inside.phase)
    (sym c.new.ensures) (
      All-set (IsSeated desks) clients place (Some fresh) tt c.self-2.invariant.0,
      set-at-rest clients due heard place fresh within (new-rests c.self-2.inside.opened c.args.name c.args.rights) c.self-2.invariant.1,
      λ e. absurd (frames-replayed c.self-2.inside.phase frames e),
      λ e. told-set clients place fresh within (told-new c.self-2.inside.opened c.args.name c.args.rights) (c.self-2.invariant.3 e),
    )
