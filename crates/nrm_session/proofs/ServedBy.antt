-- What follows from how a session was served, whatever was made of its commands; and what a controller represents that has just begun.
use Rattle.std.proofs.Common.{ℕ, ◌≡◌, ◌∙◌, List, [], take, inl, inr, refl, sym, ap}
use Rattle.nrm_model.specs.Network.{NetworkValue}
use Rattle.nrm_hindsight.specs.Requests.{tallies_of}
use Rattle.nrm_hindsight.specs.Selections.ChosenFrom.{none as none_chosen}
use Rattle.nrm_control.specs.State.{opening}
use Rattle.nrm_control.specs.Standing.{ControlValue, Represents}
use Rattle.nrm_stream.specs.Commands.{commands_of, whole_commands}
use Rattle.nrm_stream.specs.declared.command.Command.{Command}
use Rattle.nrm_session.specs.Serving.{ServesBy, Streams}
use Rattle.nrm_session.specs.declared.serving.End.{End}
use Rattle.nrm_session.specs.declared.serving.End.TheVariants as end

-- what is served by one meaning is served by a weaker one
pub serves-weaker : (whole cut whole' cut' : List Command → List ℕ → Type 0) → ((c : List Command) (o : List ℕ) → whole c o → whole' c o) → ((c : List Command) (o : List ℕ) → cut c o → cut' c o)
    → (before after : Streams) (limit : ℕ) (e : End) → ServesBy whole cut before after limit e → ServesBy whole' cut' before after limit e
serves-weaker whole cut whole' cut' w k before after limit end.Done (taken, output, did, ended, is) = (taken, output, did, ended, w (commands_of taken) output is)
serves-weaker whole cut whole' cut' w k before after limit end.ReadFault (taken, output, did, is) = (taken, output, did, w (whole_commands taken) output is)
serves-weaker whole cut whole' cut' w k before after limit end.WriteFault (taken, output, did, inl (inl is)) = (taken, output, did, inl (inl (k (whole_commands taken) output is)))
serves-weaker whole cut whole' cut' w k before after limit end.WriteFault (taken, output, did, inl (inr is)) = (taken, output, did, inl (inr (w (whole_commands taken) output is)))
serves-weaker whole cut whole' cut' w k before after limit end.WriteFault (taken, output, did, inr (ended, inl is)) = (taken, output, did, inr (ended, inl (k (commands_of taken) output is)))
serves-weaker whole cut whole' cut' w k before after limit end.WriteFault (taken, output, did, inr (ended, inr is)) = (taken, output, did, inr (ended, inr (w (commands_of taken) output is)))
serves-weaker whole cut whole' cut' w k before after limit end.TooLong (taken, output, took, long, wrote, is) = (taken, output, took, long, wrote, w (whole_commands (take limit taken)) output is)

-- what both meanings imply
pub served-as : (X : Type 0) (whole cut : List Command → List ℕ → Type 0) → ((c : List Command) (o : List ℕ) → whole c o → X) → ((c : List Command) (o : List ℕ) → cut c o → X)
    → (before after : Streams) (limit : ℕ) (e : End) → ServesBy whole cut before after limit e → X
served-as X whole cut w k before after limit end.Done (taken, output, did, ended, is) = w (commands_of taken) output is
served-as X whole cut w k before after limit end.ReadFault (taken, output, did, is) = w (whole_commands taken) output is
served-as X whole cut w k before after limit end.WriteFault (taken, output, did, inl (inl is)) = k (whole_commands taken) output is
served-as X whole cut w k before after limit end.WriteFault (taken, output, did, inl (inr is)) = w (whole_commands taken) output is
served-as X whole cut w k before after limit end.WriteFault (taken, output, did, inr (ended, inl is)) = k (commands_of taken) output is
served-as X whole cut w k before after limit end.WriteFault (taken, output, did, inr (ended, inr is)) = w (commands_of taken) output is
served-as X whole cut w k before after limit end.TooLong (taken, output, took, long, wrote, is) = w (whole_commands (take limit taken)) output is

-- a controller that has just begun stands for the opening with its plan
abbrev pub HasBegun : NetworkValue → ControlValue → Type 0
HasBegun net start = start ≡ record { net = net; plan = start.plan; bookings = []; next = 1; tallies = tallies_of net []; withheld = 0 }

pub opened : (start : ControlValue) (net : NetworkValue) → HasBegun net start → Represents start (opening start.plan)
opened start net begun = record {
  plan = refl;
  bookings = sym (ap (λ (c : ControlValue). c.bookings) begun);
  next = sym (ap (λ (c : ControlValue). c.next) begun);
  tallies = ap (λ (n : NetworkValue). tallies_of n []) (ap (λ (c : ControlValue). c.net) begun) ∙ sym (ap (λ (c : ControlValue). c.tallies) begun);
  choice = none_chosen;
  withheld = sym (ap (λ (c : ControlValue). c.withheld) begun);
}
