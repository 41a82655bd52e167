-- Each push adds one.
use Rattle.nrm_hub.proofs.HubPlaces.{places-more, places-none}
use Rattle.nrm_hub.proofs.hub.make_places.Goals as goal

pub loop-clients-init : goal.loop-clients-init
loop-clients-init c = places-none c.args.clients.now.items

pub loop-clients-preserved : goal.loop-clients-preserved
loop-clients-preserved c =
    places-more c.args.clients.now.items c.loop-clients.clients.items c.push.new.self.items c.loop-clients.invariant c.in_ok-push.ensures.items
