-- What a policy earns is a sum over all seasons; and to remember gains nothing.
use Rattle.std.proofs.Common.{◌≡◌, ℕ, zero, suc, ◌+◌, ◌*◌, ◌-◌, ◌^◌, ◌<◌, ◌≤◌, arith, refl, sym, ap, ◌∙◌, List, [], ◌∷◌, length, map, drop, slice_index, min}
use native.Mathlib.Nat.{mul-le-mul_right, pow-suc, pow-zero}
use Rattle.std.specs.List.{flat_map, sum_by}
use Rattle.std.proofs.lemmas.List.{length-map, length-take-le, length-drop, length-append}
use Rattle.std.proofs.lemmas.List.Concat.{flat_map-cons}
use Rattle.std.proofs.lemmas.List.Sums.{sum_by-append, sum_by-cons, sum_by-le-sum_by}
use Rattle.nrm_legdp.specs.Policies.{DemandValue, Policy, demands_after, earned, pay_after, value, greatest}
use Rattle.nrm_legdp.specs.Seasons.{EarnedOverSeasons, RememberingEarnsNoMore, earned_after, earned_in, seasons}
use Rattle.nrm_legdp.specs.Table.{AreClasses}
use Rattle.nrm_legdp.proofs.OneClass.{greatest-above, sale}

same-sum : {X : Type 0} (f g : X → ℕ) (xs : List X) → ((x : X) → f x ≡ g x) → sum_by f xs ≡ sum_by g xs
same-sum f g [] h = refl
same-sum f g (x ∷ xs) h = omega (arith, sum_by-cons f x xs, sum_by-cons g x xs, same-sum f g xs h, h x)

-- a number more in each
sum-more : (a : ℕ) (g : List ℕ → ℕ) (ss : List (List ℕ)) → sum_by (λ s. a + g s) ss ≡ length ss * a + sum_by g ss
sum-more a g [] = omega arith
sum-more a g (s ∷ ss) = omega (arith, sum_by-cons (λ s. a + g s) s ss, sum_by-cons g s ss, sum-more a g ss)

sum-behind : (f : List ℕ → ℕ) (d : ℕ) (ss : List (List ℕ)) → sum_by f (map (λ s. d ∷ s) ss) ≡ sum_by (λ s. f (d ∷ s)) ss
sum-behind f d [] = refl
sum-behind f d (s ∷ ss) = omega (arith, sum_by-cons f (d ∷ s) (map (λ s. d ∷ s) ss), sum_by-cons (λ s. f (d ∷ s)) s ss, sum-behind f d ss)

-- over all that begin with one of some demands
sum-all : (f : List ℕ → ℕ) (ds : List ℕ) (ss : List (List ℕ))
    → sum_by f (flat_map (λ d. map (λ s. d ∷ s) ss) ds) ≡ sum_by (λ d. sum_by (λ s. f (d ∷ s)) ss) ds
sum-all f [] ss = refl
sum-all f (d ∷ ds) ss =
    ap (sum_by f) (flat_map-cons (λ d. map (λ s. d ∷ s) ss) d ds)
    ∙ omega (
      arith,
      sum_by-append f (map (λ s. d ∷ s) ss) (flat_map (λ d. map (λ s. d ∷ s) ss) ds),
      sum-behind f d ss,
      sum-all f ds ss,
      sum_by-cons (λ d. sum_by (λ s. f (d ∷ s)) ss) d ds,
    )

count-all : (ds : List ℕ) (ss : List (List ℕ)) → length (flat_map (λ d. map (λ s. d ∷ s) ss) ds) ≡ length ds * length ss
count-all [] ss = omega arith
count-all (d ∷ ds) ss =
    ap length (flat_map-cons (λ d. map (λ s. d ∷ s) ss) d ds)
    ∙ omega (arith, length-append (map (λ s. d ∷ s) ss) (flat_map (λ d. map (λ s. d ∷ s) ss) ds), length-map ss (λ (s : List ℕ). d ∷ s), count-all ds ss)

-- a class has as many demands as there are histories
demands-count : (c : DemandValue) (j : ℕ) → AreClasses c → j < length c.fares → length (demands_after c j) ≡ c.histories
demands-count c j ok few = length-take-le c.histories (drop (j * c.histories) c.demands) (omega (arith, length-drop (j * c.histories) c.demands, ok.demand_count, rows))
  where
    rows : (j + 1) * c.histories ≤ length c.fares * c.histories
    rows = mul-le-mul_right c.histories (omega arith)

count-seasons : (c : DemandValue) (j : ℕ) → AreClasses c → j ≤ length c.fares → length (seasons c j) ≡ c.histories ^ j
count-seasons c zero ok few = sym (pow-zero c.histories)
count-seasons c (suc j) ok few =
    count-all (demands_after c j) (seasons c j)
    ∙ omega (arith, ap (λ n. n * length (seasons c j)) (demands-count c j ok (omega arith)), ap (λ n. c.histories * n) (count-seasons c j ok (omega arith)), pow-suc c.histories j)

over-seasons : (c : DemandValue) (sells : Policy) (j x : ℕ) → AreClasses c → j ≤ length c.fares
    → earned c sells j x ≡ sum_by (earned_in c sells j x) (seasons c j)
over-seasons c sells zero x ok few = refl
over-seasons c sells (suc j) x ok few =
    same-sum (λ d. pay_after c j * sells (suc j) x d + earned c sells j (x - sells (suc j) x d))
    (λ d. sum_by (λ s. earned_in c sells (suc j) x (d ∷ s)) (seasons c j)) (demands_after c j) (λ d.
    let u : ℕ = sells (suc j) x d in
    let f : ℕ = slice_index c.fares j in
    let all = sum-more (f * u) (earned_in c sells j (x - u)) (seasons c j) in
    let many = ap (λ n. n * (f * u)) (count-seasons c j ok (omega arith)) in
    let pay : c.histories ^ j * f * u ≡ c.histories ^ j * (f * u) = omega arith in
    omega (arith, all, many, pay, over-seasons c sells j (x - u) ok (omega arith)))
    ∙ sym (sum-all (earned_in c sells (suc j) x) (demands_after c j) (seasons c j))

pub earned-over-seasons : EarnedOverSeasons
earned-over-seasons c sells j x ok few = (count-seasons c j ok few, over-seasons c sells j x ok few)

-- ---- to remember gains nothing
pub remembering-earns-no-more : RememberingEarnsNoMore
remembering-earns-no-more c sells is zero x past = omega arith
remembering-earns-no-more c sells is (suc j) x past =
    sum_by-le-sum_by (λ d. pay_after c j * sells past x d + earned_after c sells j (x - sells past x d) (d ∷ past)) (λ d. greatest (sale (pay_after c j) (value c j) x) (min d x)) (demands_after c j)
    (λ d. omega (arith, remembering-earns-no-more c sells is j (x - sells past x d) (d ∷ past), greatest-above (sale (pay_after c j) (value c j) x) (min d x) (sells past x d) (is past x d)))
