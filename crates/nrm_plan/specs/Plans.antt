-- Plans: what the last optimisation was of, and what it gave.
use Rattle.std.specs.Prelude.{ℕ, ◌≡◌, ◌≢◌, ◌<◌, ◌≤◌, ◌*◌, ◌-◌, ◌^◌, ℤ, min, nat_abs, nat_lt, Bool, false, List, length, Option, Some, None}
use Rattle.std.specs.Prelude.{option_map, slice_index}
use Rattle.std.specs.Int.{IsInRange}
use Rattle.nrm_fraction.specs.Fraction.{Fraction}
use Rattle.nrm_fraction.specs.Large.{size_limit}
use Rattle.nrm_model.specs.Inventory.{inventory_of}
use Rattle.nrm_model.specs.Network.{NetworkValue, leg_of, product_of}
use Rattle.nrm_model.specs.declared.mode.Mode.{Mode}
use Rattle.nrm_model.specs.declared.mode.Mode.TheVariants as mode
use Rattle.nrm_lp.specs.declared.certificate.Certificate.{Certificate}
use Rattle.nrm_lp.specs.Certified.{Certifies, sizes}
use Rattle.nrm_lp.specs.Means.{mean_value}
use Rattle.nrm_lp.specs.Overflow.{Overflows}
use Rattle.nrm_lp.specs.Program.{price_sum}
use Rattle.nrm_simplex.specs.Solving.{IsClosing}
use Rattle.nrm_simplex.specs.declared.fault.SolveFault.{SolveFault}
use Rattle.nrm_simplex.specs.declared.fault.SolveFault.TheVariants as fault
use Rattle.nrm_dlp.specs.Programs.{program_at}
use Rattle.nrm_virtual.specs.Buckets.{bucket_of}
use Rattle.nrm_emsr.specs.Protections.{protection_of}
use Rattle.nrm_plan.specs.Nesting.{AreNestsOf, NestsValue}

-- how the seats are controlled, the period and the seats left of the last optimisation, the certificate that it gave, where the mode
-- solves a linear program, and the nests, where the mode has them
pub record PlanValue : Type 0 where
  pub mode : Mode
  pub period : ℕ
  pub left : List ℕ
  pub certificate : Option Certificate
  pub nests : Option NestsValue

-- seats left of a network: on each leg no more than its authorised seats
pub record AreSeatsLeft (net : NetworkValue) (left : List ℕ) : Type 0 where
  pub legs : length left ≡ length net.legs
  pub seats : (leg : ℕ) → leg < length net.legs → slice_index left leg ≤ (leg_of net leg).authorised

-- the linear program at these seats left and from this period on was solved, and this is the certificate of its closing
abbrev pub IsSolved : NetworkValue → List ℕ → ℕ → Option Certificate → Type 0
IsSolved net left period None = ⊥
IsSolved net left period (Some cert) = IsClosing (program_at net left period) cert

-- first come, first served solves nothing; the other modes solve that linear program
abbrev pub HasCertificate : NetworkValue → List ℕ → ℕ → Mode → Option Certificate → Type 0
HasCertificate net left period mode.FirstCome cert = cert ≡ None
HasCertificate net left period mode.Bid cert = IsSolved net left period cert
HasCertificate net left period mode.Davn cert = IsSolved net left period cert

-- only virtual nesting has nests: those at the bid prices of its certificate
abbrev pub AreNests : NetworkValue → ℕ → Option Certificate → Option NestsValue → Type 0
AreNests net period (Some cert) (Some nests) = AreNestsOf net period cert nests
AreNests net period (Some cert) None = ⊥
AreNests net period None nests = ⊥

abbrev pub HasNests : NetworkValue → ℕ → Mode → Option Certificate → Option NestsValue → Type 0
HasNests net period mode.FirstCome cert nests = nests ≡ None
HasNests net period mode.Bid cert nests = nests ≡ None
HasNests net period mode.Davn cert nests = AreNests net period cert nests

-- A plan of a network: it is for seats left and from a period of the network, its certificate is that of these, and its nests are those
-- at the certificate's bid prices from that period on.
pub record IsPlanOf (net : NetworkValue) (plan : PlanValue) : Type 0 where
  pub left : AreSeatsLeft net plan.left
  pub period : IsInRange 1 net.periods plan.period
  pub certificate : HasCertificate net plan.left plan.period plan.mode plan.certificate
  pub nests : HasNests net plan.period plan.mode plan.certificate plan.nests

-- a plan of a network in a mode, for these seats left and this period
pub record IsPlanFor (net : NetworkValue) (m : Mode) (left : List ℕ) (period : ℕ) (plan : PlanValue) : Type 0 where
  pub mode_is : plan.mode ≡ m
  pub left_is : plan.left ≡ left
  pub period_is : plan.period ≡ period
  pub planned : IsPlanOf net plan

-- the plan before anything is sold: that of period 1 with every authorised seat left
abbrev pub IsOpeningPlan : NetworkValue → Mode → PlanValue → Type 0
IsOpeningPlan net m plan = IsPlanFor net m (inventory_of net).authorised 1 plan

-- there is no plan, since the linear program that the mode would solve is Large: after n finished pivots, with this number
abbrev pub PlanOverflows : NetworkValue → Mode → List ℕ → ℕ → ℕ → ℤ → Type 0
PlanOverflows net mode.FirstCome left period n number = ⊥
PlanOverflows net mode.Bid left period n number = Overflows size_limit (program_at net left period) n number
PlanOverflows net mode.Davn left period n number = Overflows size_limit (program_at net left period) n number

abbrev pub OpeningOverflows : NetworkValue → Mode → ℕ → ℤ → Type 0
OpeningOverflows net m n number = PlanOverflows net m (inventory_of net).authorised 1 n number

-- why no plan is made: its linear program is Large, after so many finished pivots, where 4,294,967,295 stands for more; or memory runs out,
-- which first come, first served never needs
abbrev pub IsPlanFault : NetworkValue → Mode → List ℕ → ℕ → SolveFault → Type 0
IsPlanFault net m left period (fault.Overflow pivots number) =
    (n : ℕ) × PlanOverflows net m left period n number × (pivots ≡ min n (2 ^ 32 - 1))
IsPlanFault net m left period fault.NoMemory = m ≢ mode.FirstCome

-- the mean value of a history, where a linear program was solved
abbrev pub value_of : NetworkValue → PlanValue → Option Fraction
value_of net plan = option_map (mean_value net.histories) plan.certificate

-- whether the fare of a product is below the sum of its legs' bid prices
abbrev pub below_bid_prices : NetworkValue → Certificate → ℕ → Bool
below_bid_prices net cert product =
    nat_lt (nat_abs cert.den * (product_of net product).fare) (price_sum (sizes cert.p) (product_of net product).legs)

-- the fare refuses under bid-price control alone, and only where it is below that sum: equality sells
abbrev pub fare_refuses_by : NetworkValue → Mode → Option Certificate → ℕ → Bool
fare_refuses_by net mode.FirstCome cert product = false
fare_refuses_by net mode.Bid None product = false
fare_refuses_by net mode.Bid (Some cert) product = below_bid_prices net cert product
fare_refuses_by net mode.Davn cert product = false

abbrev pub fare_refuses : NetworkValue → PlanValue → ℕ → Bool
fare_refuses net plan product = fare_refuses_by net plan.mode plan.certificate product

-- the seats that are protected from a product on its leg: under virtual nesting those protected for the buckets above its own
abbrev pub seats_protected : NetworkValue → Mode → ℕ → Option Certificate → ℕ → ℕ → ℕ
seats_protected net mode.FirstCome period cert leg product = 0
seats_protected net mode.Bid period cert leg product = 0
seats_protected net mode.Davn period None leg product = 0
seats_protected net mode.Davn period (Some cert) leg product = protection_of net cert leg period (bucket_of net cert leg product - 1)

abbrev pub protected_from : NetworkValue → PlanValue → ℕ → ℕ → ℕ
protected_from net plan leg product = seats_protected net plan.mode plan.period plan.certificate leg product

-- a plan's bid prices are optimal duals: its certificate has an optimal allocation and optimal bid prices, against every allocation and
-- all prices of the linear program at the plan's seats left and period, and its value is the gain of the one and the cost of the others
abbrev pub HasOptimalPrices : NetworkValue → PlanValue → Type 0
HasOptimalPrices net plan =
    (cert : Certificate) × (plan.certificate ≡ Some cert) × Certifies size_limit (program_at net plan.left plan.period) cert
