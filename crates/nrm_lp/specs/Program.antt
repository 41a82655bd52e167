-- The deterministic linear program of a network, and its dual. The program allots seats to products, so that the
-- revenue is greatest; the dual sets bid prices for the legs, so that their cost is least. Both are told in whole
-- numbers: an allocation is x over a denominator q, bid prices are p over a denominator d.
use Rattle.std.specs.Prelude.{ℕ, ◌+◌, ◌*◌, ◌-◌, ◌<◌, ◌≤◌, ◌≡◌, ◌||◌, Bool, false, List, [], ◌∷◌, length, if◌then◌else◌, ◌==◌, slice_index}

-- the seats of each leg that may be sold, and for each product the most that can be sold, the fare and the numbers of its legs
pub record ProgramValue : Type 0 where
  pub caps : List ℕ
  pub bounds : List ℕ
  pub fares : List ℕ
  pub legs : List (List ℕ)

-- the sum of the products of two lists, place by place
abbrev pub dot : List ℕ → List ℕ → ℕ
dot [] ys = 0
dot (x ∷ xs) [] = 0
dot (x ∷ xs) (y ∷ ys) = x * y + dot xs ys

-- whether a leg is among these legs
abbrev pub names : ℕ → List ℕ → Bool
names leg [] = false
names leg (l ∷ ls) = (leg == l) || names leg ls

-- these are legs of a network with n legs, each named once
abbrev pub AreLegs : ℕ → List ℕ → Type 0
AreLegs n [] = Unit {0}
AreLegs n (l ∷ ls) = (l < n) × (names l ls ≡ false) × AreLegs n ls

-- the seats of a leg that an allocation takes: the sum over the products that use the leg
abbrev pub load : ℕ → List (List ℕ) → List ℕ → ℕ
load leg [] xs = 0
load leg (ls ∷ legs) [] = 0
load leg (ls ∷ legs) (x ∷ xs) = (if names leg ls then x else 0) + load leg legs xs

-- the sum of the bid prices of a product's legs
abbrev pub price_sum : List ℕ → List ℕ → ℕ
price_sum p [] = 0
price_sum p (l ∷ ls) = slice_index p l + price_sum p ls

-- what the fares exceed the bid prices by, each product times its bound: a product that isn't worth its bid prices
-- counts 0, since a difference of whole numbers ends at 0
abbrev pub surplus : ℕ → List ℕ → List ℕ → List ℕ → List (List ℕ) → ℕ
surplus d p (u ∷ us) (r ∷ rs) (ls ∷ legs) = u * (d * r - price_sum p ls) + surplus d p us rs legs
surplus d p _ _ _ = 0

-- the revenue of an allocation
abbrev pub gain : ProgramValue → List ℕ → ℕ
gain a x = dot a.fares x

-- the cost of bid prices, the dual's objective: the seats at their prices, and the bounds at what each fare exceeds
-- them by
abbrev pub cost : ProgramValue → ℕ → List ℕ → ℕ
cost a d p = dot a.caps p + surplus d p a.bounds a.fares a.legs

-- as many bounds as fares and leg lists, and each product's legs are legs of the network
abbrev pub AreProducts : ℕ → List ℕ → List ℕ → List (List ℕ) → Type 0
AreProducts n [] [] [] = Unit {0}
AreProducts n (u ∷ us) (r ∷ rs) (ls ∷ legs) = AreLegs n ls × AreProducts n us rs legs
AreProducts n _ _ _ = ⊥

abbrev pub IsProgram : ProgramValue → Type 0
IsProgram a = AreProducts (length a.caps) a.bounds a.fares a.legs

-- x over q: no product above its bound, no leg above its cap
pub record IsAllocation (a : ProgramValue) (q : ℕ) (x : List ℕ) : Type 0 where
  pub whole : 1 ≤ q
  pub shape : length x ≡ length a.bounds
  pub within : (product : ℕ) → product < length x → slice_index x product ≤ q * slice_index a.bounds product
  pub seats : (leg : ℕ) → leg < length a.caps → load leg a.legs x ≤ q * slice_index a.caps leg

-- p over d: a price for each leg, none below 0
pub record IsPrices (a : ProgramValue) (d : ℕ) (p : List ℕ) : Type 0 where
  pub whole : 1 ≤ d
  pub shape : length p ≡ length a.caps

-- no allocation has a greater revenue, as a fraction
pub record IsOptimalAllocation (a : ProgramValue) (q : ℕ) (x : List ℕ) : Type 0 where
  pub allocation : IsAllocation a q x
  pub best : (q' : ℕ) (x' : List ℕ) → IsAllocation a q' x' → gain a x' * q ≤ gain a x * q'

-- no bid prices cost less, as a fraction
pub record IsOptimalPrices (a : ProgramValue) (d : ℕ) (p : List ℕ) : Type 0 where
  pub prices : IsPrices a d p
  pub best : (d' : ℕ) (p' : List ℕ) → IsPrices a d' p' → cost a d p * d' ≤ cost a d' p' * d
