-- Hindsight, to be read aloud: what a line of hindsight says of the requests of its run.
use Rattle.std.specs.Prelude.{ℕ, ◌≡◌, List, [], ◌∷◌, ◌++◌, flat_map}
use Rattle.std.specs.Option.{option_map_or}
use Rattle.nrm_fraction.specs.Fraction.{Fraction}
use Rattle.nrm_model.specs.Limits.{IsNetwork}
use Rattle.nrm_model.specs.Network.{NetworkValue, product_named}
use Rattle.nrm_dlp.specs.Hindsight.{IsAttained}
use Rattle.nrm_dlp.specs.Programs.{hindsight_program}
use Rattle.nrm_hindsight.specs.Requests.{Request, requests_of, tallies_of}
use Rattle.nrm_hindsight.specs.Selections.{BoundsSelections, ChosenFrom, IsSelection, earned_by}
use Rattle.nrm_plan.specs.Plans.{PlanValue}
use Rattle.nrm_control.specs.State.{SeatState, opening}
use Rattle.nrm_stream.specs.declared.command.Command.{Command}
use Rattle.nrm_stream.specs.declared.command.Command.TheVariants as command
use Rattle.nrm_session.specs.Laws.{IsSound}
use Rattle.nrm_session.specs.Replies.{Reply, hindsight_told}
use Rattle.nrm_session.specs.Run.{Run}
use Rattle.nrm_session.specs.Step.{Step}

-- the requests among some commands: the `book` lines for a product that the network has, sold or not, cancelled later or not
abbrev pub request_in : NetworkValue → Command → List Request
request_in net (command.Book name party) =
    option_map_or (λ product. record { product = product; party = party } ∷ []) (product_named net name) []
request_in net (command.Cancel number) = []
request_in net (command.Reoptimise period) = []
request_in net (command.Leg name) = []
request_in net command.Hindsight = []
request_in net command.Plan = []
request_in net command.Bad = []

abbrev pub requests_in : NetworkValue → List Command → List Request
requests_in net commands = flat_map (request_in net) commands

-- No selection of these requests, each whole and at most once, that fits the authorised seats earns more than the value, and an allocation
-- of their linear program, which may sell parts of seats, gains just that: so it is the least bound that it gives. The bookings
-- that stand are such a selection, and the revenue is what they earn. What is withheld is in none of these.
pub record IsBounded (net : NetworkValue) (requests : List Request) (s : SeatState) (value : Fraction) (revenue : ℕ) : Type 0 where
  pub bound : BoundsSelections net requests value
  pub attained : IsAttained (hindsight_program net (tallies_of net requests)) value
  pub selection : IsSelection net requests (requests_of s.bookings)
  pub earned : earned_by net (requests_of s.bookings) ≡ revenue

-- So it is at each line of hindsight that tells a value, after any commands from s on: of the requests before s and all of theirs.
abbrev pub BoundsFrom : NetworkValue → SeatState → Type 0
BoundsFrom net s = (commands : List Command) (replies : List Reply) (mid after : SeatState) (value : Fraction) (revenue withheld : ℕ)
    → Run net s commands replies mid → Step net mid command.Hindsight (hindsight_told value revenue withheld) after
    → IsBounded net (s.requests ++ requests_in net commands) mid value revenue

-- From an opening on those are all requests so far.
abbrev pub HindsightBounds : Type 0
HindsightBounds = (net : NetworkValue) (plan : PlanValue) → IsNetwork net → BoundsFrom net (opening plan)

-- And from each state whose bookings oversell no leg and are a choice of its requests.
abbrev pub HindsightBoundsOn : Type 0
HindsightBoundsOn = (net : NetworkValue) (s : SeatState) → IsNetwork net → IsSound net s → ChosenFrom s.requests (requests_of s.bookings)
    → BoundsFrom net s
