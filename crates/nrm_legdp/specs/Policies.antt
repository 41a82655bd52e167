-- One leg, and classes that ask for its authorised seats from the lowest fare to the highest: policies, the greatest value, and
-- protections. Each class's demand is one of its histories, with equal chance, whatever the others' is. Sums over all of them stand for
-- means: of j classes, over the number of histories to the power j.
use Rattle.std.specs.Prelude.{ℕ, zero, suc, ◌+◌, ◌-◌, ◌*◌, ◌^◌, ◌≤◌, Bool, true, false, List, sum_by, take, drop, slice_index, nat_lt}
use Rattle.std.specs.Prelude.{min, max}

-- how many histories there are, the fare of each class, the highest first, and its demands, class by class and history by history
pub record DemandValue : Type 0 where
  pub histories : ℕ
  pub fares : List ℕ
  pub demands : List ℕ

-- the class behind the first j: what it pays for a seat, over the histories of these j, and its demands
abbrev pub pay_after : DemandValue → ℕ → ℕ
pay_after c j = c.histories ^ j * slice_index c.fares j

abbrev pub demands_after : DemandValue → ℕ → List ℕ
demands_after c j = take c.histories (drop (j * c.histories) c.demands)

-- a policy: how many seats are sold to a class, by its number from 1, if so many are left and so many are asked for
abbrev pub Policy : Type 0
Policy = ℕ → ℕ → ℕ → ℕ

abbrev pub IsPolicy : Policy → Type 0
IsPolicy sells = (j x d : ℕ) → sells j x d ≤ min d x

-- what a policy earns of the first j classes with x seats left for them: class j asks first
abbrev pub earned : DemandValue → Policy → ℕ → ℕ → ℕ
earned c sells zero x = 0
earned c sells (suc j) x =
    sum_by (λ d. pay_after c j * sells (suc j) x d + earned c sells j (x - sells (suc j) x d)) (demands_after c j)

-- the greatest of f 0 to f n
abbrev pub greatest : (ℕ → ℕ) → ℕ → ℕ
greatest f zero = f 0
greatest f (suc n) = max (greatest f n) (f (suc n))

-- the value of x seats for the first j classes: the best number is sold to each class, whatever it asks for
abbrev pub value : DemandValue → ℕ → ℕ → ℕ
value c zero x = 0
value c (suc j) x = sum_by (λ d. greatest (λ u. pay_after c j * u + value c j (x - u)) (min d x)) (demands_after c j)

-- the greatest number from 1 to n that passes, or 0
abbrev pub last_passing : (ℕ → Bool) → ℕ → ℕ
last_passing test zero = 0
last_passing test (suc n) = elim (test (suc n)) [ true ↦ suc n | false ↦ last_passing test n ]

-- a further seat is worth more than the pay
abbrev pub worth_more : ℕ → (ℕ → ℕ) → ℕ → Bool
worth_more pay worth y = nat_lt (pay + worth (y - 1)) (worth y)

-- the protection of the first j classes: the last seat that is worth more to them than what the class behind them pays
abbrev pub protection : DemandValue → ℕ → ℕ → ℕ
protection c seats j = last_passing (worth_more (pay_after c j) (value c j)) seats

-- the policy that sells a class what is left above the protection of the classes before it; class 1 has none before it
abbrev pub by_protections : DemandValue → ℕ → Policy
by_protections c seats zero x d = 0
by_protections c seats (suc zero) x d = min d x
by_protections c seats (suc (suc j)) x d = min d (x - protection c seats (suc j))
