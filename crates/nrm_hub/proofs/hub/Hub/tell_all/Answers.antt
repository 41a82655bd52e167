-- Those that were heard are told.
use Rattle.std.proofs.Common.{◌≡◌, ◌∙◌, Some, subst}
use Rattle.nrm_hub.specs.Hub.{HubValue, client_at}
use Rattle.nrm_hub.specs.Waiting.{IsTold}
use Rattle.nrm_hub.proofs.DuePlaces.{all-so}
use Rattle.nrm_hub.proofs.hub.Hub.tell_all.Goals as goal

pub end_round-requires : goal.end_round-requires
end_round-requires g c place d short there =
    all-so IsTold IsTold c.heard_now-listed.new.self.clients c.tell_listed.new.self.clients c.heard_now-listed.result (λ e is. is)
    c.heard_now-listed.ensures.listed c.in_ok-tell_listed.ensures.told place d short
    (subst (λ (h : HubValue). client_at h place ≡ Some d) c.put_back.ensures there)

pub returns-clause-told : goal.returns-clause-told
returns-clause-told g c place d short there =
    all-so IsTold IsTold c.heard_now-listed.new.self.clients c.tell_listed.new.self.clients c.heard_now-listed.result (λ e is. is)
    c.heard_now-listed.ensures.listed c.in_ok-tell_listed.ensures.told place d short
    (subst (λ (h : HubValue). client_at h place ≡ Some d) (c.end_round.ensures ∙ c.put_back.ensures) there)
