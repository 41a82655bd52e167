-- Laws of whole sessions.
use Rattle.std.specs.Prelude.{ℕ, ◌≡◌, ◌≢◌, ◌<◌, ◌≤◌, List, ◌++◌, length, All, ⊤}
use Rattle.std.specs.Int.{IsInRange}
use Rattle.nrm_model.specs.Inventory.{inventory_of, authorised_of}
use Rattle.nrm_model.specs.Network.{NetworkValue}
use Rattle.nrm_model.specs.Limits.{IsNetwork}
use Rattle.nrm_model.specs.declared.mode.Mode.{Mode}
use Rattle.nrm_model.specs.declared.mode.Mode.TheVariants as mode
use Rattle.nrm_book.specs.declared.booking.Booking.{Booking}
use Rattle.nrm_book.specs.Bookings.{sold_on}
use Rattle.nrm_plan.specs.Plans.{HasOptimalPrices, IsOpeningPlan, IsPlanOf, PlanValue}
use Rattle.nrm_control.specs.State.{SeatState, opening}
use Rattle.nrm_stream.specs.declared.command.Command.{Command}
use Rattle.nrm_stream.specs.declared.command.Command.TheVariants as command
use Rattle.nrm_session.specs.Replies.{Reply, memory}
use Rattle.nrm_session.specs.Step.{Step}
use Rattle.nrm_session.specs.Run.{Run, RunBy}

-- no leg of the network has more seats sold than are authorised
abbrev pub NoLegOversold : NetworkValue → SeatState → Type 0
NoLegOversold net s = (leg : ℕ) → leg < length net.legs → sold_on (inventory_of net) s.bookings leg ≤ authorised_of (inventory_of net) leg

-- the bookings are of the network's products, and no leg is oversold
pub record IsSound (net : NetworkValue) (s : SeatState) : Type 0 where
  pub products : All (λ (booking : Booking). booking.product < length net.products) s.bookings
  pub seats : NoLegOversold net s

-- the opening is such a state, whatever its plan, and whatever the commands, a run from such a state comes to such a state; and each
-- first part of a run is a run
abbrev pub RunsOversellNoLeg : Type 0
RunsOversellNoLeg = ((net : NetworkValue) (plan : PlanValue) → IsSound net (opening plan))
    × ((net : NetworkValue) (s s' : SeatState) (commands : List Command) (replies : List Reply) → IsSound net s
    → Run net s commands replies s' → IsSound net s')

-- no line ran out of memory
abbrev pub MemorySuffices : List Reply → Type 0
MemorySuffices replies = All (λ reply. reply ≢ memory) replies

-- that memory ran out is the one reply that is free: where no line runs out of it, the commands determine the replies and the state
abbrev pub RepliesAreDetermined : Type 0
RepliesAreDetermined = (net : NetworkValue) (s : SeatState) (commands : List Command) (replies others : List Reply) (s' s'' : SeatState)
    → Run net s commands replies s' → Run net s commands others s'' → MemorySuffices replies → MemorySuffices others → (others ≡ replies)
    × (s'' ≡ s')

-- a line for which a linear program is solved: one of hindsight, and one that optimises again from a period of the network, where the mode
-- solves linear programs
abbrev pub Solves : NetworkValue → SeatState → Command → Type 0
Solves net s (command.Reoptimise period) = (s.plan.mode ≢ mode.FirstCome) × IsInRange 1 net.periods period
Solves net s command.Hindsight = ⊤
Solves net s (command.Book name party) = ⊥
Solves net s (command.Cancel number) = ⊥
Solves net s (command.Leg name) = ⊥
Solves net s command.Plan = ⊥
Solves net s command.Bad = ⊥

-- memory runs out at such lines alone, and then nothing changes: every other line has its reply whatever memory there is
abbrev pub OtherLinesNeedNoMemory : Type 0
OtherLinesNeedNoMemory = (net : NetworkValue) (s s' : SeatState) (c : Command) → Step net s c memory s' → Solves net s c × (s' ≡ s)

-- the commands and the replies determine the state, whichever they are
abbrev pub StatesAreDetermined : Type 0
StatesAreDetermined = (net : NetworkValue) (s : SeatState) (commands : List Command) (replies : List Reply) (s' s'' : SeatState)
    → Run net s commands replies s' → Run net s commands replies s'' → s'' ≡ s'

-- each list of commands has a run from each state in which memory suffices
abbrev pub EachListHasARun : Type 0
EachListHasARun = (net : NetworkValue) (s : SeatState) (commands : List Command)
    → (replies : List Reply) × (s' : SeatState) × Run net s commands replies s' × MemorySuffices replies

-- the plan in force is one of the network in the mode of the session, and where the mode solves linear programs its bid prices are optimal
-- duals of the linear program at the plan's seats left and period
pub record IsPlanned (net : NetworkValue) (m : Mode) (s : SeatState) : Type 0 where
  pub mode_is : s.plan.mode ≡ m
  pub planned : IsPlanOf net s.plan
  pub optimal : m ≢ mode.FirstCome → HasOptimalPrices net s.plan

-- so it is in each opening, and a run from such a state comes to such a state
abbrev pub PlansStayOptimal : Type 0
PlansStayOptimal = ((net : NetworkValue) (m : Mode) (plan : PlanValue) → IsNetwork net → IsOpeningPlan net m plan
    → IsPlanned net m (opening plan))
    × ((net : NetworkValue) (m : Mode) (s s' : SeatState) (commands : List Command) (replies : List Reply)
    → IsNetwork net → IsPlanned net m s → Run net s commands replies s' → IsPlanned net m s')

-- each first part of a run is a run, and the rest is one from where it came: so what holds after each run holds in every state on the way
abbrev pub HasFirstParts : {R : Type 0} → (SeatState → Command → R → SeatState → Type 0) → Type 0
HasFirstParts {R = R} step = (s s' : SeatState) (first rest : List Command) (replies : List R) → RunBy step s (first ++ rest) replies s'
    → (before : List R) × (later : List R) × (mid : SeatState) × (replies ≡ before ++ later) × RunBy step s first before mid
    × RunBy step mid rest later s'

abbrev pub RunsHaveFirstParts : Type 0
RunsHaveFirstParts = (net : NetworkValue) → HasFirstParts (Step net)
