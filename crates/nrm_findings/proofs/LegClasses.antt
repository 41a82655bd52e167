-- The points and the classes of a leg: where there are none, and which products are in them.
use Rattle.std.proofs.Common.{ℕ, ◌≡◌, ◌≢◌, ◌+◌, ◌-◌, ◌<◌, ◌≤◌, List, [], ◌∷◌, All, Contains, map, length, arith, refl, ap, subst, get_or}
use Rattle.std.specs.List.{range_with_len}
use Rattle.std.proofs.lemmas.List.Elements.{All-contains, All-filter}
use Rattle.std.proofs.lemmas.List.FromFn.{get_or-range_with_len, length-range_with_len}
use Rattle.nrm_model.specs.Inventory.{fare_of, inventory_of, legs_of, products_on}
use Rattle.nrm_model.specs.Network.{NetworkValue}
use Rattle.nrm_model.specs.Demand.{total_to_come}
use Rattle.nrm_cluster.specs.Divisions.{AreCuts, CutsValue, centres_from, cuts_from}
use Rattle.nrm_cluster.specs.Points.{ArePointsOf, PointsValue, asked_on, fares_of}
use Rattle.nrm_cluster.specs.declared.points.Asked.{Asked}
use Rattle.nrm_legdp.specs.Classes.{AreClassesOf, ClassesValue, is_only, only_on}

-- ---- points
none-in : {X : Type 0} (x : X) → Contains [] x → ⊥
none-in x (k, short, is) = omega (arith, short)

-- products have fares
no-fares : (f : ℕ → Asked) (js : List ℕ) → All (Contains []) (fares_of (map f js)) → js ≡ []
no-fares f [] each = refl
no-fares f (j ∷ js) each = absurd (none-in (f j).fare (each 0 0 (omega arith)))

no-values : (values : List ℕ) → All (Contains []) values → values ≡ []
no-values [] only = refl
no-values (v ∷ values) only = absurd (none-in v (only 0 0 (omega arith)))

-- what is asked for of a product
abbrev asked_at : NetworkValue → ℕ → Asked
asked_at net j = record { fare = fare_of (inventory_of net) j; seats = total_to_come net j 1 }

module _ (net : NetworkValue) (i : ℕ) (p : PointsValue) (of : ArePointsOf (asked_on net i) p) where
  -- where there is a value some product uses the leg
  pub used-leg : p.values ≢ [] → products_on (inventory_of net) i ≢ []
  used-leg some none = some (no-values p.values (subst (λ (fares : List ℕ). All (Contains fares) p.values) (ap (λ (js : List ℕ). fares_of (map (asked_at net) js)) none) of.values.only))

-- ---- thresholds: at most one for each group but the last, and a centre for each group
cuts-count : (p : PointsValue) (a : ℕ) (lengths : List ℕ) → length (cuts_from p a lengths) ≤ length lengths - 1
cuts-count p a [] = omega arith
cuts-count p a (l ∷ []) = omega arith
cuts-count p a (l ∷ m ∷ lengths) = omega (arith, cuts-count p (a + l) (m ∷ lengths))

centres-count : (p : PointsValue) (a : ℕ) (lengths : List ℕ) → length (centres_from p a lengths) ≤ length lengths
centres-count p a [] = omega arith
centres-count p a (l ∷ lengths) = omega (arith, centres-count p (a + l) lengths)

pub few-cuts : (p : PointsValue) (groups : ℕ) (found : CutsValue) → AreCuts p groups found → length found.cuts ≤ groups - 1
few-cuts p groups found (lengths, chosen, is) = omega (arith, chosen.few, cuts-count p 0 lengths, ap (λ (c : CutsValue). length c.cuts) is)

pub few-centres : (p : PointsValue) (groups : ℕ) (found : CutsValue) → AreCuts p groups found → length found.centres ≤ groups
few-centres p groups found (lengths, chosen, is) = omega (arith, chosen.few, centres-count p 0 lengths, ap (λ (c : CutsValue). length c.centres) is)

-- ---- classes: each is a product of the network
range-below : (n : ℕ) → All (λ j. j < n) (range_with_len 0 n)
range-below n k d short = let count = length-range_with_len 0 n in omega (arith, short, count, get_or-range_with_len 0 n k d (omega (arith, short, count)))

pub classes-within : (net : NetworkValue) (i : ℕ) (classes : ClassesValue) → AreClassesOf net i classes
    → All (λ j. j < length net.products) classes.products
classes-within net i classes are k d short =
    All-contains (λ (j : ℕ). j < length net.products) (only_on net i) (get_or classes.products k d)
    (All-filter (λ j. is_only i (legs_of (inventory_of net) j)) (λ (j : ℕ). j < length net.products) (range_with_len 0 (length net.products)) (range-below (length net.products))) (are.products.only k d short)
