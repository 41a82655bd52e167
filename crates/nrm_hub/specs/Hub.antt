-- The hub: what all desks have in common, the clients by their places, and what is awaited.
use Rattle.std.specs.Prelude.{ℕ, ◌&&◌, Bool, true, false, not, List, [], get_or, map, option_map, slice_set, Option, Some, None, is_some, if◌then◌else◌}
use Rattle.nrm_control.specs.Standing.{ControlValue}
use Rattle.nrm_frames.specs.declared.why.Why.{Why}
use Rattle.nrm_frames.specs.declared.why.Why.TheVariants as why
use Rattle.nrm_hub.specs.Asked.{is_desk}
use Rattle.nrm_hub.specs.Clients.{ClientValue, closed_for}
use Rattle.nrm_hub.specs.Register.{RegisterValue, new_register}
use Rattle.nrm_hub.specs.declared.phase.Phase.{Phase}
use Rattle.nrm_hub.specs.declared.phase.Phase.TheVariants as phase

pub record HubValue : Type 0 where
  pub register : RegisterValue
  pub clients : List (Option ClientValue)
  pub opened : ℕ
  pub phase : Phase

abbrev pub new_hub : ControlValue → HubValue
new_hub control = record { register = new_register control; clients = []; opened = 0; phase = phase.Replaying }

-- who is at a place
abbrev pub client_at : HubValue → ℕ → Option ClientValue
client_at h place = get_or h.clients place None

-- another client is at a place that the hub has
abbrev pub with_client : HubValue → ℕ → Option ClientValue → HubValue
with_client h place c = record h { clients = slice_set h.clients place c }

-- lines may be taken: the journal was given again, the word that all is kept isn't awaited, what waits for clients isn't being sent, and the last
-- frame didn't come
abbrev pub takes_lines : Phase → Bool
takes_lines phase.Settled = true
takes_lines phase.Answering = true
takes_lines other = false

-- frames of clients may come: then, and while that word is awaited
abbrev pub takes_frames : Phase → Bool
takes_frames phase.Asked = true
takes_frames other = takes_lines other

-- somebody is to be closed, who waits for the word that all is kept
abbrev pub after_closing : Phase → Phase
after_closing phase.Settled = phase.Answering
after_closing other = other

-- the client at a place is to be closed
abbrev pub with_closed : HubValue → ℕ → ClientValue → Why → HubValue
with_closed h place c reason = record (with_client h place (Some (closed_for c reason))) { phase = after_closing h.phase }

-- a client that is this desk is to be closed, unless it is already: another client is the desk
abbrev pub unseated : ℕ → ClientValue → ClientValue
unseated desk c = if is_desk desk c.desk && not (is_some c.closing) then closed_for c why.Elsewhere else c

-- a client is at a place, and if it is a desk it is the only one
abbrev pub alone : List (Option ClientValue) → ℕ → ClientValue → Option ℕ → List (Option ClientValue)
alone clients place c None = slice_set clients place (Some c)
alone clients place c (Some desk) = slice_set (map (option_map (unseated desk)) clients) place (Some c)

-- the clients after a line of one that was this desk before it, if it was one
abbrev pub seated_after : List (Option ClientValue) → ℕ → Option ℕ → ClientValue → List (Option ClientValue)
seated_after clients place (Some desk) c = slice_set clients place (Some c)
seated_after clients place None c = alone clients place c c.desk
