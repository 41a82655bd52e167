-- One class more: seats are sold while one more is worth no more than the pay.
use Rattle.std.proofs.Common.{◌≡◌, ℕ, zero, suc, ◌+◌, ◌*◌, ◌-◌, ◌<◌, ◌≤◌, Bool, true, false, arith, inl, inr, refl, ap, subst, ◌∙◌, min}
use Rattle.std.proofs.lemmas.Bool.{cases_lt, ltb-true, ltb-false}
use Rattle.nrm_legdp.specs.Policies.{greatest, last_passing, worth_more}

-- ---- the greatest of some numbers
pub greatest-above : (f : ℕ → ℕ) (n u : ℕ) → u ≤ n → f u ≤ greatest f n
greatest-above f zero u h = let e : u ≡ 0 = omega arith in let same : f u ≡ f 0 = ap f e in omega arith
greatest-above f (suc n) u h = elim (cases_lt u (suc n)) [
  | inl less ↦ omega (arith, greatest-above f n u (omega arith))
  | inr more ↦ let e : u ≡ suc n = omega arith in let same : f u ≡ f (suc n) = ap f e in omega arith
]

pub greatest-least : (f : ℕ → ℕ) (n m : ℕ) → ((u : ℕ) → u ≤ n → f u ≤ m) → greatest f n ≤ m
greatest-least f zero m h = h 0 (omega arith)
greatest-least f (suc n) m h = omega (arith, greatest-least f n m (λ u l. h u (omega arith)), h (suc n) (omega arith))

-- ---- the last number that passes
pub record IsLastPassing (test : ℕ → Bool) (n y : ℕ) : Type 0 where
  pub within : y ≤ n
  pub passes : 0 < y → test y ≡ true
  pub last : (z : ℕ) → y < z → z ≤ n → test z ≡ false

pub last-passes : (test : ℕ → Bool) (n : ℕ) → IsLastPassing test n (last_passing test n)
last-passes test zero = record { within = omega arith; passes = λ h. absurd (omega arith); last = λ z h l. absurd (omega arith) }
last-passes test (suc n) = go (last-passes test n) (test (suc n)) refl
  where
    go : IsLastPassing test n (last_passing test n) → (b : Bool) → test (suc n) ≡ b → IsLastPassing test (suc n) (last_passing test (suc n))
    go rest true e = rw (e, last_passing) (record { within = omega arith; passes = λ h. e; last = λ z h l. absurd (omega arith) })
    go rest false e = rw (e, last_passing) (record {
      within = omega (arith, rest.within);
      passes = rest.passes;
      last = λ z h l. elim (cases_lt z (suc n)) [
        | inl less ↦ rest.last z h (omega arith)
        | inr more ↦ let same : z ≡ suc n = omega arith in ap test same ∙ e
      ];
    })

-- ---- worths whose differences fall
abbrev pub FallsOff : (ℕ → ℕ) → Type 0
FallsOff worth = (x : ℕ) → worth (x + 2) + worth x ≤ 2 * worth (x + 1)

far-falls : (worth : ℕ → ℕ) → FallsOff worth → (i n : ℕ) → worth (i + n + 1) + worth i ≤ worth (i + n) + worth (i + 1)
far-falls worth falls i zero = omega (arith, ap (λ k. worth (k + 1)) (plus-zero i), ap worth (plus-zero i))
  where
    plus-zero : (i : ℕ) → i + 0 ≡ i
    plus-zero i = omega arith
far-falls worth falls i (suc n) =
    omega (arith, far-falls worth falls i n, falls (i + n), ap worth (last i n), ap worth (next i n))
  where
    last : (i n : ℕ) → i + suc n + 1 ≡ i + n + 2
    last i n = omega arith

    next : (i n : ℕ) → i + suc n ≡ i + n + 1
    next i n = omega arith

-- up to y a further seat is worth more than the pay, and from there on no more
pub record IsThreshold (pay : ℕ) (worth : ℕ → ℕ) (seats y : ℕ) : Type 0 where
  pub within : y ≤ seats
  pub inside : (i : ℕ) → i < y → pay + worth i ≤ worth (i + 1)
  pub beyond : (i : ℕ) → y ≤ i → i < seats → worth (i + 1) ≤ pay + worth i

pub threshold-is : (pay : ℕ) (worth : ℕ → ℕ) (seats : ℕ) → FallsOff worth → IsThreshold pay worth seats (last_passing (worth_more pay worth) seats)
threshold-is pay worth seats falls = record { within = is.within; inside = inside; beyond = beyond }
  where
    y : ℕ
    y = last_passing (worth_more pay worth) seats

    is : IsLastPassing (worth_more pay worth) seats (last_passing (worth_more pay worth) seats)
    is = last-passes (worth_more pay worth) seats

    back : (i : ℕ) → i + 1 - 1 ≡ i
    back i = omega arith

    beyond : (i : ℕ) → last_passing (worth_more pay worth) seats ≤ i → i < seats → worth (i + 1) ≤ pay + worth i
    beyond i above few =
        let no : worth (i + 1) ≤ pay + worth (i + 1 - 1) = ltb-false _ _ (is.last (i + 1) (omega arith) (omega arith)) in
        omega (arith, ap worth (back i))

    inside : (i : ℕ) → i < last_passing (worth_more pay worth) seats → pay + worth i ≤ worth (i + 1)
    inside i below =
        let yes : pay + worth (y - 1) < worth y = ltb-true _ _ (is.passes (omega arith)) in
        let n : ℕ = y - 1 - i in
        let low : i + n ≡ y - 1 = omega arith in
        let high : i + n + 1 ≡ y = omega arith in
        omega (arith, far-falls worth falls i n, ap worth low, ap worth high)

-- what a sale of u of x seats comes to
abbrev pub sale : ℕ → (ℕ → ℕ) → ℕ → ℕ → ℕ
sale pay worth x u = pay * u + worth (x - u)

-- selling down to y is best
pub threshold-best : (pay : ℕ) (worth : ℕ → ℕ) (seats y x d u : ℕ) → IsThreshold pay worth seats y → x ≤ seats → u ≤ min d x → sale pay worth x u ≤ sale pay worth x (min d (x - y))
threshold-best pay worth seats y x d u is few bound = elim (cases_lt (min d (x - y)) u) [
  | inl more ↦ subst (λ v. sale pay worth x v ≤ sale pay worth x s) (back s u more) (down (u - s) (omega arith) (omega arith))
  | inr less ↦ up (s - u) u (omega arith)
]
  where
    s : ℕ
    s = min d (x - y)

    back : (s u : ℕ) → s < u → s + (u - s) ≡ u
    back s u h = omega arith

    up : (k v : ℕ) → v + k ≡ min d (x - y) → sale pay worth x v ≤ sale pay worth x (min d (x - y))
    up zero v e = let same : v ≡ min d (x - y) = omega arith in let value = ap (sale pay worth x) same in omega arith
    up (suc k) v e =
        let i : ℕ = x - suc v in
        let one : i + 1 ≡ x - v = omega arith in
        let gain = is.beyond i (omega arith) (omega arith) in
        omega (arith, ap worth one, up k (suc v) (omega arith))

    down : (k : ℕ) → min d (x - y) + k ≤ min d x → (0 < k → x ≤ min d (x - y) + y) → sale pay worth x (min d (x - y) + k) ≤ sale pay worth x (min d (x - y))
    down zero within low = let same : min d (x - y) + 0 ≡ min d (x - y) = omega arith in let value = ap (sale pay worth x) same in omega arith
    down (suc k) within low =
        let i : ℕ = x - (min d (x - y) + suc k) in
        let one : i + 1 ≡ x - (min d (x - y) + k) = omega arith in
        let loss = is.inside i (omega (arith, low (omega arith))) in
        let rest = down k (omega arith) (λ h. low (omega arith)) in
        let split : pay * (min d (x - y) + suc k) ≡ pay * (min d (x - y) + k) + pay = omega arith in
        omega (arith, ap worth one)

-- so the greatest is what selling down to y comes to
pub greatest-is-threshold : (pay : ℕ) (worth : ℕ → ℕ) (seats y x d : ℕ) → IsThreshold pay worth seats y → x ≤ seats → greatest (sale pay worth x) (min d x) ≡ sale pay worth x (min d (x - y))
greatest-is-threshold pay worth seats y x d is few =
    omega (
      arith,
      greatest-least (sale pay worth x) (min d x) (sale pay worth x (min d (x - y))) (λ u l. threshold-best pay worth seats y x d u is few l),
      greatest-above (sale pay worth x) (min d x) (min d (x - y)) (omega arith),
    )
