-- The value of a leg's authorised seats: its differences fall, no policy earns more, and protections earn it.
use Rattle.std.proofs.Common.{◌≡◌, ℕ, zero, suc, ◌+◌, ◌*◌, ◌-◌, ◌^◌, ◌≤◌, Bool, true, false, arith, inl, inr, refl, sym, ap, ap₂, ◌∙◌, List, [], ◌∷◌, length, get_or, drop, slice_index, min, nat_lt, All}
use native.Mathlib.Nat.{mul-le-mul_left, mul-le-mul_right, pow-suc}
use Rattle.std.specs.List.{sum_by}
use Rattle.std.proofs.lemmas.Bool.{cases_lt}
use Rattle.std.proofs.lemmas.List.{get_or_past, length-take}
use Rattle.std.proofs.lemmas.List.Sums.{sum_by-cons, sum_by-le, sum_by-le-sum_by}
use Rattle.nrm_legdp.specs.Policies.{DemandValue, pay_after, demands_after, Policy, IsPolicy, earned, greatest, value, last_passing, worth_more, protection, by_protections}
use Rattle.nrm_legdp.specs.Inner.Filling.{worth_above}
use Rattle.nrm_legdp.specs.Laws.{ProtectionsEarnAll}
use Rattle.nrm_legdp.proofs.OneClass.{greatest-above, greatest-least, FallsOff, IsThreshold, threshold-is, sale, greatest-is-threshold}

sum_by-same : (f g : ℕ → ℕ) (xs : List ℕ) → ((x : ℕ) → f x ≡ g x) → sum_by f xs ≡ sum_by g xs
sum_by-same f g [] h = refl
sum_by-same f g (x ∷ xs) h = omega (arith, sum_by-cons f x xs, sum_by-cons g x xs, sum_by-same f g xs h, h x)

-- ---- the differences fall
-- what a sale comes to, where the seats sold and left are known
sale-at : (pay : ℕ) (worth : ℕ → ℕ) (x u k r : ℕ) → u ≡ k → x - u ≡ r → sale pay worth x u ≡ pay * k + worth r
sale-at pay worth x u k r e g = ap₂ (λ s t. pay * s + worth t) e g

threshold-falls : (pay : ℕ) (worth : ℕ → ℕ) (y x d : ℕ) → FallsOff worth → IsThreshold pay worth (x + 2) y
    → sale pay worth (x + 2) (min d (x + 2 - y)) + sale pay worth x (min d (x - y)) ≤ 2 * sale pay worth (x + 1) (min d (x + 1 - y))
threshold-falls pay worth y x d falls is = elim (cases_lt x y) [
  | inl below ↦ elim (cases_lt (x + 1) y) [
    | inl far ↦ flat (omega arith)
    | inr near ↦ elim (cases_lt 0 d) [
      | inl some ↦
          omega (
            arith,
            sale-at pay worth (x + 2) (min d (x + 2 - y)) 1 (x + 1) (omega arith) (omega arith),
            sale-at pay worth (x + 1) (min d (x + 1 - y)) 0 (x + 1) (omega arith) (omega arith),
            sale-at pay worth x (min d (x - y)) 0 x (omega arith) (omega arith),
            is.inside x below,
          )
      | inr none ↦ flat (omega arith)
    ]
  ]
  | inr above ↦ elim (cases_lt (d + y) (x + 1)) [
    | inl early ↦
        omega (
          arith,
          sale-at pay worth (x + 2) (min d (x + 2 - y)) d (x - d + 2) (omega arith) (omega arith),
          sale-at pay worth (x + 1) (min d (x + 1 - y)) d (x - d + 1) (omega arith) (omega arith),
          sale-at pay worth x (min d (x - y)) d (x - d) (omega arith) (omega arith),
          falls (x - d),
        )
    | inr late ↦ elim (cases_lt (x + 1) (d + y)) [
      | inl later ↦
          omega (
            arith,
            sale-at pay worth (x + 2) (min d (x + 2 - y)) (x - y + 2) y (omega arith) (omega arith),
            sale-at pay worth (x + 1) (min d (x + 1 - y)) (x - y + 1) y (omega arith) (omega arith),
            sale-at pay worth x (min d (x - y)) (x - y) y (omega arith) (omega arith),
          )
      | inr just ↦
          omega (
            arith,
            sale-at pay worth (x + 2) (min d (x + 2 - y)) (x - y + 1) (y + 1) (omega arith) (omega arith),
            sale-at pay worth (x + 1) (min d (x + 1 - y)) (x - y + 1) y (omega arith) (omega arith),
            sale-at pay worth x (min d (x - y)) (x - y) y (omega arith) (omega arith),
            is.beyond y (omega arith) (omega arith),
          )
    ]
  ]
]
  where
    flat : (min d (x + 2 - y) ≡ 0) → sale pay worth (x + 2) (min d (x + 2 - y)) + sale pay worth x (min d (x - y)) ≤ 2 * sale pay worth (x + 1) (min d (x + 1 - y))
    flat none =
        omega (
          arith,
          sale-at pay worth (x + 2) (min d (x + 2 - y)) 0 (x + 2) none (omega arith),
          sale-at pay worth (x + 1) (min d (x + 1 - y)) 0 (x + 1) (omega arith) (omega arith),
          sale-at pay worth x (min d (x - y)) 0 x (omega arith) (omega arith),
          falls x,
        )

one-class-falls : (pay : ℕ) (worth : ℕ → ℕ) (x d : ℕ) → FallsOff worth
    → greatest (sale pay worth (x + 2)) (min d (x + 2)) + greatest (sale pay worth x) (min d x) ≤ 2 * greatest (sale pay worth (x + 1)) (min d (x + 1))
one-class-falls pay worth x d falls =
    let y : ℕ = last_passing (worth_more pay worth) (x + 2) in
    let is = threshold-is pay worth (x + 2) falls in
    omega (
      arith,
      threshold-falls pay worth y x d falls is,
      greatest-is-threshold pay worth (x + 2) y (x + 2) d is (omega arith),
      greatest-is-threshold pay worth (x + 2) y (x + 1) d is (omega arith),
      greatest-is-threshold pay worth (x + 2) y x d is (omega arith),
    )

classes-fall : (pay : ℕ) (worth : ℕ → ℕ) (x : ℕ) (ds : List ℕ) → FallsOff worth
    → sum_by (λ d. greatest (sale pay worth (x + 2)) (min d (x + 2))) ds + sum_by (λ d. greatest (sale pay worth x) (min d x)) ds ≤ 2 * sum_by (λ d. greatest (sale pay worth (x + 1)) (min d (x + 1))) ds
classes-fall pay worth x [] falls = omega arith
classes-fall pay worth x (d ∷ ds) falls =
    omega (
      arith,
      sum_by-cons (λ e. greatest (sale pay worth (x + 2)) (min e (x + 2))) d ds,
      sum_by-cons (λ e. greatest (sale pay worth x) (min e x)) d ds,
      sum_by-cons (λ e. greatest (sale pay worth (x + 1)) (min e (x + 1))) d ds,
      one-class-falls pay worth x d falls,
      classes-fall pay worth x ds falls,
    )

pub values-fall : (c : DemandValue) (j : ℕ) → FallsOff (value c j)
values-fall c zero x = omega arith
values-fall c (suc j) x = classes-fall (pay_after c j) (value c j) x (demands_after c j) (values-fall c j)

-- ---- no policy earns more
pub no-policy-earns-more : (c : DemandValue) (sells : Policy) → IsPolicy sells → (j x : ℕ) → earned c sells j x ≤ value c j x
no-policy-earns-more c sells is zero x = omega arith
no-policy-earns-more c sells is (suc j) x =
    sum_by-le-sum_by (λ d. pay_after c j * sells (suc j) x d + earned c sells j (x - sells (suc j) x d)) (λ d. greatest (sale (pay_after c j) (value c j) x) (min d x)) (demands_after c j)
    (λ d. omega (arith, no-policy-earns-more c sells is j (x - sells (suc j) x d), greatest-above (sale (pay_after c j) (value c j) x) (min d x) (sells (suc j) x d) (is (suc j) x d)))

-- ---- the policy by protections
protections-are-policy : (c : DemandValue) (seats : ℕ) → IsPolicy (by_protections c seats)
protections-are-policy c seats zero x d = omega arith
protections-are-policy c seats (suc zero) x d = omega arith
protections-are-policy c seats (suc (suc j)) x d = omega arith

-- the first class has nothing to protect
nothing-protected : (pay seats : ℕ) → IsThreshold pay (λ (x : ℕ). 0) seats 0
nothing-protected pay seats = record { within = omega arith; inside = λ i h. absurd (omega arith); beyond = λ i h few. omega arith }

protections-earn : (c : DemandValue) (seats j x : ℕ) → x ≤ seats → earned c (by_protections c seats) j x ≡ value c j x
protections-earn c seats zero x few = refl
protections-earn c seats (suc zero) x few =
    sum_by-same (λ d. pay_after c 0 * min d x + 0) (λ d. greatest (sale (pay_after c 0) (λ (x : ℕ). 0) x) (min d x)) (demands_after c 0)
    (λ d. sym (greatest-is-threshold (pay_after c 0) (λ (x : ℕ). 0) seats 0 x d (nothing-protected (pay_after c 0) seats) few ∙ ap (λ s. pay_after c 0 * min d s + 0) (none x)))
  where
    none : (x : ℕ) → x - 0 ≡ x
    none x = omega arith
protections-earn c seats (suc (suc j)) x few =
    sum_by-same (λ d. pay_after c (suc j) * min d (x - y) + earned c (by_protections c seats) (suc j) (x - min d (x - y))) (λ d. greatest (sale (pay_after c (suc j)) (value c (suc j)) x) (min d x)) (demands_after c (suc j))
    (λ d. ap (λ t. pay_after c (suc j) * min d (x - y) + t) (protections-earn c seats (suc j) (x - min d (x - y)) (omega arith))
    ∙ sym (greatest-is-threshold (pay_after c (suc j)) (value c (suc j)) seats y x d (threshold-is (pay_after c (suc j)) (value c (suc j)) seats (values-fall c (suc j))) few))
  where
    y : ℕ
    y = protection c seats (suc j)

pub protections-earn-all : ProtectionsEarnAll
protections-earn-all = record { policy = protections-are-policy; all = protections-earn }

-- ---- the table
last-same : (test other : ℕ → Bool) (n : ℕ) → ((z : ℕ) → z ≤ n → test z ≡ other z) → last_passing test n ≡ last_passing other n
last-same test other zero h = refl
last-same test other (suc n) h = go (last-same test other n (λ z l. h z (omega arith))) (other (suc n)) refl
  where
    go : last_passing test n ≡ last_passing other n → (b : Bool) → other (suc n) ≡ b → last_passing test (suc n) ≡ last_passing other (suc n)
    go rest true e = rw (h (suc n) (omega arith) ∙ e, e, last_passing) refl
    go rest false e = rw (h (suc n) (omega arith) ∙ e, e, last_passing) rest

pub same-threshold : (pay : ℕ) (worth other : ℕ → ℕ) (seats : ℕ) → ((z : ℕ) → z ≤ seats → worth z ≡ other z) → last_passing (worth_more pay worth) seats ≡ last_passing (worth_more pay other) seats
same-threshold pay worth other seats h =
    last-same (worth_more pay worth) (worth_more pay other) seats (λ z l. ap₂ (λ s t. nat_lt (pay + s) t) (h (z - 1) (omega arith)) (h z l))

-- a row that holds the values of the first classes gives the value of one more
pub above-threshold-is-value : (c : DemandValue) (seats j x : ℕ) (row : ℕ → ℕ) → x ≤ seats → ((z : ℕ) → z ≤ seats → row z ≡ value c j z)
    → worth_above (pay_after c j) row (protection c seats j) (demands_after c j) x ≡ value c (suc j) x
above-threshold-is-value c seats j x row few h =
    sum_by-same (λ d. sale (pay_after c j) row x (min d (x - protection c seats j))) (λ d. greatest (sale (pay_after c j) (value c j) x) (min d x)) (demands_after c j)
    (λ d. ap (λ t. pay_after c j * min d (x - protection c seats j) + t) (h (x - min d (x - protection c seats j)) (omega arith))
    ∙ sym (greatest-is-threshold (pay_after c j) (value c j) seats (protection c seats j) x d (threshold-is (pay_after c j) (value c j) seats (values-fall c j)) few))

-- ---- how large a value is
pub values-bounded : (c : DemandValue) (f j x : ℕ) → All (λ fare. fare ≤ f) c.fares → value c j x ≤ c.histories ^ j * (f * x)
values-bounded c f zero x small = omega arith
values-bounded c f (suc j) x small =
    omega (
      arith,
      sum_by-le (λ d. greatest (sale pay (value c j) x) (min d x)) (n * (f * x)) (demands_after c j) (λ k d l. one (get_or (demands_after c j) k d) (λ u. values-bounded c f j (x - u) small)),
      mul-le-mul_right (n * (f * x)) few,
      ap (λ t. t * (f * x)) (pow-suc c.histories j),
    )
  where
    n : ℕ
    n = c.histories ^ j

    pay : ℕ
    pay = pay_after c j

    few : length (demands_after c j) ≤ c.histories
    few = omega (arith, length-take c.histories (drop (j * c.histories) c.demands))

    fare : slice_index c.fares j ≤ f
    fare = elim (cases_lt j (length c.fares)) [
      | inl less ↦ small j 0 less
      | inr past ↦ omega (arith, get_or_past c.fares j 0 past)
    ]

    one : (d : ℕ) → ((u : ℕ) → value c j (x - u) ≤ n * (f * (x - u))) → greatest (sale pay (value c j) x) (min d x) ≤ n * (f * x)
    one d rest = greatest-least (sale pay (value c j) x) (min d x) (n * (f * x)) (λ u l.
        let left : ℕ = x - u in
        let whole : u + left ≡ x = omega arith in
        let paid : n * slice_index c.fares j * u ≤ n * f * u = mul-le-mul_right u (mul-le-mul_left n fare) in
        let spread : n * (f * (u + left)) ≡ n * f * u + n * (f * left) = omega arith in
        omega (arith, rest u, ap (λ t. n * (f * t)) whole))
