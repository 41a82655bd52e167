-- The client at the place is alone.
use Rattle.std.proofs.Common.{ℕ, ◌≡◌, ◌∙◌, List, None, Option, Some, get_or, length, sym, ap, subst}
use Rattle.nrm_hub.specs.Clients.{ClientValue}
use Rattle.nrm_hub.specs.Hub.{alone}
use Rattle.nrm_hub.specs.Inner.Seats.{IsDeskOf}
use Rattle.nrm_hub.specs.Seats.{IsBelow}
use Rattle.nrm_hub.proofs.HubPlaces.{seated-at}
use Rattle.nrm_hub.proofs.Unseated.{unseated-all}
use Rattle.nrm_hub.proofs.hub.seat.Goals as goal

pub replace_client-requires : goal.replace_client-requires
replace_client-requires c =
    let clients = c.args.clients.now.items in
    let desks : ℕ = length c.args.register.now.desks in
    let at : IsDeskOf clients c.args.place c.in-Some.desk =
    subst (λ (cs : List (Option ClientValue)). IsDeskOf cs c.args.place c.in-Some.desk) c.deref.ensures.value c.in-Some.ensures.there in
    subst (λ (o : Option ℕ). IsBelow o desks) at.2 (seated-at clients desks c.args.place at.0 at.1 c.requires)

pub returns-in-Some-clause-alone : goal.returns-in-Some-clause-alone
returns-in-Some-clause-alone c client there =
    let clients = c.args.clients.now.items in
    let read : get_or c.deref.result.now c.args.place None ≡ Some client =
    ap (λ (cs : List (Option ClientValue)). get_or cs c.args.place None) c.deref.ensures.value ∙ there in
    let desk : client.desk ≡ Some c.in-Some.desk = sym (c.desk_of.ensures.desk client read) ∙ c.in-Some.is in
    unseated-all clients c.unseat_others.new.clients.items c.args.place c.in-Some.desk client there c.unseat_others.ensures.unseats
    ∙ ap (λ (o : Option ℕ). alone clients c.args.place client o) (sym desk)
