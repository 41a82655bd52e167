-- The value of a hub, and of a register, out of its fields.
use Rattle.std.proofs.Common.{ℕ, List, Option}
use Rattle.nrm_control.specs.Standing.{ControlValue}
use Rattle.nrm_hub.specs.Clients.{ClientValue}
use Rattle.nrm_hub.specs.Hub.{HubValue}
use Rattle.nrm_hub.specs.Register.{DeskValue, RegisterValue}
use Rattle.nrm_hub.specs.declared.phase.Phase.{Phase}

abbrev pub hub_of : RegisterValue → List (Option ClientValue) → ℕ → Phase → HubValue
hub_of register clients opened phase = record { register = register; clients = clients; opened = opened; phase = phase }

abbrev pub register_of : ControlValue → List DeskValue → List ℕ → ℕ → List ℕ → RegisterValue
register_of control desks owners rows text = record { control = control; desks = desks; owners = owners; rows = rows; text = text }
