-- What is told of a leg is determined.
use Rattle.std.proofs.Common.{ℕ, zero, suc, ◌≡◌, ◌∙◌, ◌<◌, ◌⊎◌, List, [], ◌∷◌, get_or, map, flat_map, All, AllPairs, Contains, Some, arith, inl, inr, refl, sym, ap, ap₂, subst}
use Rattle.std.proofs.lemmas.List.Elements.{All-contains, Contains-get_or}
use Rattle.nrm_model.specs.Network.{NetworkValue, leg_named, leg_of}
use Rattle.nrm_model.specs.Inventory.{inventory_of, fare_of}
use Rattle.nrm_cluster.specs.Points.{PointsValue, ArePointsOf, asked_on, fares_of, seats_at}
use Rattle.nrm_cluster.specs.Divisions.{AreCuts, CutsValue, cuts_of}
use Rattle.nrm_cluster.specs.declared.points.Asked.{Asked}
use Rattle.nrm_cluster.proofs.Tables.{one-is-chosen}
use Rattle.nrm_legdp.specs.Classes.{AreClassesOf, ClassesValue, ComesBefore, demands_of, only_on}
use Rattle.nrm_findings.specs.LegThresholds.{IsCut, IsUnused, cuts_text}
use Rattle.nrm_findings.specs.LegValues.{HasNoClasses, IsValued, their_demand, values_text}

-- ---- a list in a strict order is fixed by what it has
module _ (R : ℕ → ℕ → Type 0) (apart : (a b : ℕ) → R a b → R b a → ⊥) where
  first-or : (x : ℕ) (xs : List ℕ) (v : ℕ) → Contains (x ∷ xs) v → (x ≡ v) ⊎ Contains xs v
  first-or x xs v (zero, within, is) = inl is
  first-or x xs v (suc k, within, is) = inr (k, omega (arith, within), is)

  behind : (x : ℕ) (xs : List ℕ) (v : ℕ) → AllPairs R (x ∷ xs) → Contains xs v → R x v
  behind x xs v are (k, within, is) = subst (R x) is (are 0 (suc k) v (omega arith) (omega (arith, within)))

  one-list : (xs ys : List ℕ) → AllPairs R xs → AllPairs R ys → All (Contains ys) xs → All (Contains xs) ys → xs ≡ ys
  one-list [] [] p q a b = refl
  one-list [] (y ∷ ys) p q a b = let (k, within, is) = b 0 y (omega arith) in absurd (omega (arith, within))
  one-list (x ∷ xs) [] p q a b = let (k, within, is) = a 0 x (omega arith) in absurd (omega (arith, within))
  one-list (x ∷ xs) (y ∷ ys) p q a b = ap₂ (λ z zs. z ∷ zs) same (one-list xs ys
      (λ i j d low within. p (suc i) (suc j) d (omega (arith, low)) (omega (arith, within)))
      (λ i j d low within. q (suc i) (suc j) d (omega (arith, low)) (omega (arith, within)))
      (λ k d short. elim (first-or y ys (get_or xs k d) (a (suc k) d (omega (arith, short)))) [
        | inl here ↦ absurd (let before = behind x xs (get_or xs k d) p (Contains-get_or xs k d short) in
            let again : R x x = subst (R x) (sym (same ∙ here)) before in apart x x again again)
        | inr there ↦ there
      ])
      (λ k d short. elim (first-or x xs (get_or ys k d) (b (suc k) d (omega (arith, short)))) [
        | inl here ↦ absurd (let before = behind y ys (get_or ys k d) q (Contains-get_or ys k d short) in
            let again : R y y = subst (R y) (sym (sym same ∙ here)) before in apart y y again again)
        | inr there ↦ there
      ]))
    where
      same : x ≡ y
      same = elim (first-or y ys x (a 0 x (omega arith))) [
        | inl here ↦ sym here
        | inr there ↦ elim (first-or x xs y (b 0 y (omega arith))) [
          | inl here ↦ here
          | inr back ↦ absurd (apart x y (behind x xs y p back) (behind y ys x q there))
        ]
      ]

-- ---- thresholds
falling-apart : (a b : ℕ) → b < a → a < b → ⊥
falling-apart a b low high = omega (arith, low, high)

all-of : (xs ys zs : List ℕ) → All (Contains zs) xs → All (Contains xs) ys → All (Contains zs) ys
all-of xs ys zs each only k d short = All-contains (Contains zs) xs (get_or ys k d) each (only k d short)

one-points : (asked : List Asked) (p q : PointsValue) → ArePointsOf asked p → ArePointsOf asked q → p ≡ q
one-points asked p q is other =
    let same = one-list (λ earlier later. later < earlier) falling-apart p.values q.values is.values.falling other.values.falling
    (all-of (fares_of asked) p.values q.values other.values.each is.values.only) (all-of (fares_of asked) q.values p.values is.values.each other.values.only) in
    let heavy : p.weights ≡ q.weights = is.weights ∙ ap (map (seats_at asked)) same ∙ sym other.weights in
    λ n. record { values = same n; weights = heavy n }

one-cut : (p : PointsValue) (groups : ℕ) (c d : CutsValue) → AreCuts p groups c → AreCuts p groups d → c ≡ d
one-cut p groups c d (one, chosen, is) (other, chosen', is') = is ∙ ap (cuts_of p) (one-is-chosen p groups one other chosen chosen') ∙ sym is'

one-number : (net : NetworkValue) (leg : List ℕ) (i j : ℕ) → leg_named net leg ≡ Some i → leg_named net leg ≡ Some j → i ≡ j
one-number net leg i j e g = let same : Some i ≡ Some j = sym e ∙ g in cc

pub one-cut-text : (net : NetworkValue) (leg : List ℕ) (groups : ℕ) (text text' : List ℕ) → IsCut net leg groups text → IsCut net leg groups text' → text' ≡ text
one-cut-text net leg groups text text' is other =
    let number = one-number net leg other.number is.number other.named is.named in
    let points = one-points (asked_on net is.number) other.points is.points (subst (λ i. ArePointsOf (asked_on net i) other.points) number other.points_of_leg) is.points_of_leg in
    let found = one-cut is.points groups other.found is.found (subst (λ (p : PointsValue). AreCuts p groups other.found) points other.cuts) is.cuts in
    other.told ∙ ap (cuts_text leg) found ∙ sym is.told

pub not-both : (net : NetworkValue) (leg : List ℕ) (groups : ℕ) (text : List ℕ) → IsCut net leg groups text → IsUnused net leg → ⊥
not-both net leg groups text is none = is.used (none is.number is.named)

-- ---- classes
classes-apart : (net : NetworkValue) (a b : ℕ) → ComesBefore net a b → ComesBefore net b a → ⊥
classes-apart net a b (inl less) (inl more) = omega (arith, less, more)
classes-apart net a b (inl less) (inr (same, before)) = omega (arith, less, same)
classes-apart net a b (inr (same, before)) (inl less) = omega (arith, less, same)
classes-apart net a b (inr (same, before)) (inr (again, after)) = omega (arith, before, after)

one-classes : (net : NetworkValue) (i : ℕ) (c d : ClassesValue) → AreClassesOf net i c → AreClassesOf net i d → c ≡ d
one-classes net i c d is other =
    let same = one-list (ComesBefore net) (classes-apart net) c.products d.products is.products.order other.products.order
    (all-of (only_on net i) c.products d.products other.products.each is.products.only) (all-of (only_on net i) d.products c.products is.products.each other.products.only) in
    let fares : c.fares ≡ d.fares = is.fares ∙ ap (map (fare_of (inventory_of net))) same ∙ sym other.fares in
    let demands : c.demands ≡ d.demands = is.demands ∙ ap (flat_map (demands_of net)) same ∙ sym other.demands in
    λ n. record { products = same n; fares = fares n; demands = demands n }

pub one-value-text : (net : NetworkValue) (leg : List ℕ) (text text' : List ℕ) → IsValued net leg text → IsValued net leg text' → text' ≡ text
one-value-text net leg text text' is other =
    let number = one-number net leg other.number is.number other.named is.named in
    let classes = one-classes net is.number other.classes is.classes (subst (λ i. AreClassesOf net i other.classes) number other.classes_of_leg) is.classes_of_leg in
    other.told ∙ (λ n. values_text net leg (leg_of net (number n)).authorised (classes n).products (their_demand net (classes n))) ∙ sym is.told

pub neither-both : (net : NetworkValue) (leg : List ℕ) (text : List ℕ) → IsValued net leg text → HasNoClasses net leg → ⊥
neither-both net leg text is (inl few) = omega (arith, is.count.0, few)
neither-both net leg text is (inr many) = omega (arith, is.count.1, many)
