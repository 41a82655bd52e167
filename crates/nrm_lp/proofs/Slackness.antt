-- Where gain and cost meet, each inequality on the way is an equality: both kinds of slackness.
use Rattle.std.proofs.Common.{◌≡◌, ℕ, zero, suc, ◌+◌, ◌*◌, ◌-◌, ◌<◌, ◌≤◌, ◌⊎◌, inl, inr, arith, refl, sym, ap, ap₂, ◌∙◌, subst, List, [], ◌∷◌, length, get_or}
use native.Mathlib.Nat.{mul-le-mul_left, eq_of_mul-eq-mul_left, mul-lt-mul_of_pos_right}
use Rattle.nrm_lp.specs.Program.{ProgramValue, dot, load, price_sum, surplus, gain, cost, IsProgram, IsAllocation, IsPrices}
use Rattle.nrm_number.proofs.Totals.{sum_below, sum_same, sum_le, sum_plus, sum_times, sum_front}
use Rattle.nrm_lp.proofs.Duality.{dot_is, held, held_is, one_product}
use Rattle.nrm_lp.proofs.Optimal.{lengths_are, surplus_is}

-- terms that are at most others, with the same sum, are the same
sum_tight : (n : ℕ) (f g : ℕ → ℕ) → ((k : ℕ) → k < n → f k ≤ g k) → sum_below n f ≡ sum_below n g → (k : ℕ) → k < n → f k ≡ g k
sum_tight zero f g h e k l = absurd (omega arith)
sum_tight (suc n) f g h e k l = go (last_or k n l) (sum_tight n f g (λ k m. h k (omega arith)) (omega (arith, sum_le n f g (λ k m. h k (omega arith)), h n (omega arith))))
  where
    last_or : (k n : ℕ) → k < suc n → (k ≡ n) ⊎ (k < n)
    last_or k n l = grind arith

    go : (k ≡ n) ⊎ (k < n) → ((k : ℕ) → k < n → f k ≡ g k) → f k ≡ g k
    go (inl q) rest = subst (λ j. f j ≡ g j) (sym q) (omega (arith, e, sum_le n f g (λ k m. h k (omega arith)), h n (omega arith)))
    go (inr m) rest = rest k m

held_sum : (p : List ℕ) (legs : List (List ℕ)) (xs : List ℕ) → length legs ≡ length xs → held p legs xs ≡ sum_below (length xs) (λ j. price_sum p (get_or legs j []) * get_or xs j 0)
held_sum p [] [] e = refl
held_sum p [] (x ∷ xs) e = absurd (omega arith)
held_sum p (ls ∷ legs) [] e = absurd (omega arith)
held_sum p (ls ∷ legs) (x ∷ xs) e =
    ap (λ s. price_sum p ls * x + s) (held_sum p legs xs (omega arith)) ∙ sym (sum_front (length xs) (λ j. price_sum p (get_or (ls ∷ legs) j []) * get_or (x ∷ xs) j 0))

-- the two conditions of one product, where its inequality is an equality
below_bound : (q d x u r s : ℕ) → d * (r * x) ≡ s * x + q * (u * (d * r - s)) → x < q * u → d * r ≤ s
below_bound q d x u r s e l = go (le_or_more (d * r) s)
  where
    le_or_more : (m n : ℕ) → (m ≤ n) ⊎ ((m ≡ n + (m - n)) × (0 < m - n))
    le_or_more m n = grind arith

    go : (d * r ≤ s) ⊎ ((d * r ≡ s + (d * r - s)) × (0 < d * r - s)) → d * r ≤ s
    go (inl h) = h
    go (inr h) = absurd (omega (arith, e, ap (λ t. t * x) h.0, mul-lt-mul_of_pos_right l h.1))

used_covers : (q d x u r s : ℕ) → d * (r * x) ≡ s * x + q * (u * (d * r - s)) → 0 < x → s ≤ d * r
used_covers q d x u r s e l = go (le_or_less s (d * r))
  where
    le_or_less : (m n : ℕ) → (m ≤ n) ⊎ (n < m)
    le_or_less m n = grind arith

    go : (s ≤ d * r) ⊎ (d * r < s) → s ≤ d * r
    go (inl h) = h
    go (inr h) = absurd (omega (arith, e, mul-lt-mul_of_pos_right h l))

-- and both conditions make it one
both_tight : (q d x u r s : ℕ) → x ≤ q * u → (x < q * u → d * r ≤ s) → (0 < x → s ≤ d * r) → d * (r * x) ≡ s * x + q * (u * (d * r - s))
both_tight q d x u r s h unmet used = go (none_or_some x) (less_or_same x (q * u) h)
  where
    none_or_some : (m : ℕ) → (m ≡ 0) ⊎ (0 < m)
    none_or_some m = grind arith

    less_or_same : (m n : ℕ) → m ≤ n → (m < n) ⊎ (m ≡ n)
    less_or_same m n h = grind arith

    none_over : d * r ≤ s → d * r - s ≡ 0
    none_over h = omega arith

    whole_over : s ≤ d * r → s + (d * r - s) ≡ d * r
    whole_over h = omega arith

    go : (x ≡ 0) ⊎ (0 < x) → (x < q * u) ⊎ (x ≡ q * u) → d * (r * x) ≡ s * x + q * (u * (d * r - s))
    go (inl e) (inl l) = omega (arith, ap (λ t. d * (r * t)) e, ap (λ t. s * t) e, ap (λ t. q * (u * t)) (none_over (unmet l)))
    go (inl e) (inr f) = omega (arith, ap (λ t. d * (r * t)) e, ap (λ t. s * t) e, ap (λ t. t * (d * r - s)) (sym f ∙ e))
    go (inr k) (inl l) = omega (arith, ap (λ t. q * (u * t)) (none_over (unmet l)), ap (λ t. t * x) (same (unmet l) (used k)))
      where
        same : d * r ≤ s → s ≤ d * r → d * r ≡ s
        same h i = omega arith
    go (inr k) (inr f) = omega (arith, ap (λ t. t * x) (whole_over (used k)), ap (λ t. t * (d * r - s)) f)

module _ (a : ProgramValue) (q d : ℕ) (x p : List ℕ) (ok : IsProgram a) (al : IsAllocation a q x) (pr : IsPrices a d p) where
  fares_count : length x ≡ length a.fares
  fares_count = omega (arith, al.shape, (lengths_are (length a.caps) a.bounds a.fares a.legs ok).0)

  pub left_term : ℕ → ℕ
  left_term j = d * (get_or a.fares j 0 * get_or x j 0)

  pub right_term : ℕ → ℕ
  right_term j = price_sum p (get_or a.legs j []) * get_or x j 0 + q * (get_or a.bounds j 0 * (d * get_or a.fares j 0 - price_sum p (get_or a.legs j [])))

  left_sum : sum_below (length x) left_term ≡ gain a x * d
  unfolding left_term
  left_sum =
      sum_times (length x) d (λ j. get_or a.fares j 0 * get_or x j 0)
      ∙ ap (λ n. d * sum_below n (λ j. get_or a.fares j 0 * get_or x j 0)) fares_count
      ∙ ap (λ t. d * t) (sym (dot_is a.fares x fares_count))
      ∙ omega arith

  right_sum : sum_below (length x) right_term ≡ sum_below (length a.caps) (λ k. get_or p k 0 * load k a.legs x) + q * surplus d p a.bounds a.fares a.legs
  unfolding right_term
  right_sum =
      sum_plus (length x) (λ j. price_sum p (get_or a.legs j []) * get_or x j 0) (λ j. q * (get_or a.bounds j 0 * (d * get_or a.fares j 0 - price_sum p (get_or a.legs j []))))
      ∙ ap₂ (λ s t. s + t)
      (sym (held_sum p a.legs x (omega (arith, al.shape, (lengths_are (length a.caps) a.bounds a.fares a.legs ok).1))) ∙ sym (held_is (length a.caps) p a.bounds a.fares a.legs x ok))
      (sum_times (length x) q (λ j. get_or a.bounds j 0 * (d * get_or a.fares j 0 - price_sum p (get_or a.legs j [])))
      ∙ ap (λ n. q * sum_below n (λ j. get_or a.bounds j 0 * (d * get_or a.fares j 0 - price_sum p (get_or a.legs j [])))) al.shape
      ∙ ap (λ t. q * t) (sym (surplus_is (length a.caps) d p a.bounds a.fares a.legs ok)))

  at_most : (j : ℕ) → j < length x → left_term j ≤ right_term j
  unfolding left_term right_term
  at_most j l = one_product q d (get_or x j 0) (get_or a.bounds j 0) (get_or a.fares j 0) (price_sum p (get_or a.legs j [])) (al.within j l)

  loads : (k : ℕ) → k < length a.caps → get_or p k 0 * load k a.legs x ≤ q * (get_or a.caps k 0 * get_or p k 0)
  loads k l = omega (arith, mul-le-mul_left (get_or p k 0) (al.seats k l))

  caps_sum : sum_below (length a.caps) (λ k. q * (get_or a.caps k 0 * get_or p k 0)) ≡ dot a.caps p * q
  caps_sum = sum_times (length a.caps) q (λ k. get_or a.caps k 0 * get_or p k 0) ∙ ap (λ t. q * t) (sym (dot_is a.caps p pr.shape)) ∙ omega arith

  -- where each product and each leg is tight, gain and cost meet
  pub meets_if : ((j : ℕ) → j < length x → left_term j ≡ right_term j) → ((k : ℕ) → k < length a.caps → get_or p k 0 * load k a.legs x ≡ q * (get_or a.caps k 0 * get_or p k 0)) → gain a x * d ≡ cost a d p * q
  meets_if products legs =
      omega (
        arith,
        left_sum,
        right_sum,
        caps_sum,
        sum_same (length x) left_term right_term products,
        sum_same (length a.caps) (λ k. get_or p k 0 * load k a.legs x) (λ k. q * (get_or a.caps k 0 * get_or p k 0)) legs,
      )

  -- a product is tight where both its conditions hold, and a leg where its condition holds
  pub product_tight : (j : ℕ) → j < length x → (get_or x j 0 < q * get_or a.bounds j 0 → d * get_or a.fares j 0 ≤ price_sum p (get_or a.legs j [])) → (0 < get_or x j 0 → price_sum p (get_or a.legs j []) ≤ d * get_or a.fares j 0) → left_term j ≡ right_term j
  unfolding left_term right_term
  product_tight j l unmet used = both_tight q d (get_or x j 0) (get_or a.bounds j 0) (get_or a.fares j 0) (price_sum p (get_or a.legs j [])) (al.within j l) unmet used

  pub leg_tight : (k : ℕ) → (0 < get_or p k 0 → load k a.legs x ≡ q * get_or a.caps k 0) → get_or p k 0 * load k a.legs x ≡ q * (get_or a.caps k 0 * get_or p k 0)
  leg_tight k full = go (none_or_some (get_or p k 0))
    where
      none_or_some : (m : ℕ) → (m ≡ 0) ⊎ (0 < m)
      none_or_some m = grind arith

      go : (get_or p k 0 ≡ 0) ⊎ (0 < get_or p k 0) → get_or p k 0 * load k a.legs x ≡ q * (get_or a.caps k 0 * get_or p k 0)
      go (inl e) = ap (λ t. t * load k a.legs x) e ∙ sym (ap (λ t. q * (get_or a.caps k 0 * t)) e ∙ omega arith)
      go (inr h) = ap (λ t. get_or p k 0 * t) (full h) ∙ omega arith

module _ (a : ProgramValue) (q d : ℕ) (x p : List ℕ) (ok : IsProgram a) (al : IsAllocation a q x) (pr : IsPrices a d p) (meets : gain a x * d ≡ cost a d p * q) where
  tight_products : sum_below (length x) (left_term a q d x p ok al pr) ≡ sum_below (length x) (right_term a q d x p ok al pr)
  tight_products = omega (arith, left_sum a q d x p ok al pr, right_sum a q d x p ok al pr, meets, caps_sum a q d x p ok al pr, sum_le (length x) (left_term a q d x p ok al pr) (right_term a q d x p ok al pr) (at_most a q d x p ok al pr), sum_le (length a.caps) (λ k. get_or p k 0 * load k a.legs x) (λ k. q * (get_or a.caps k 0 * get_or p k 0)) (loads a q d x p ok al pr))

  tight_legs : sum_below (length a.caps) (λ k. get_or p k 0 * load k a.legs x) ≡ sum_below (length a.caps) (λ k. q * (get_or a.caps k 0 * get_or p k 0))
  tight_legs = omega (arith, left_sum a q d x p ok al pr, right_sum a q d x p ok al pr, meets, caps_sum a q d x p ok al pr, sum_le (length x) (left_term a q d x p ok al pr) (right_term a q d x p ok al pr) (at_most a q d x p ok al pr), sum_le (length a.caps) (λ k. get_or p k 0 * load k a.legs x) (λ k. q * (get_or a.caps k 0 * get_or p k 0)) (loads a q d x p ok al pr))

  -- a price above 0 only on a full leg
  pub priced_legs_full : (i : ℕ) → i < length a.caps → 0 < get_or p i 0 → load i a.legs x ≡ q * get_or a.caps i 0
  priced_legs_full i l h =
      eq_of_mul-eq-mul_left (get_or p i 0) h (load i a.legs x) (q * get_or a.caps i 0)
      (sum_tight (length a.caps) (λ k. get_or p k 0 * load k a.legs x) (λ k. q * (get_or a.caps k 0 * get_or p k 0)) (loads a q d x p ok al pr) tight_legs i l ∙ omega arith)

  -- a product below its bound is not worth more than its prices, and a product that is used not less
  pub unmet_not_dear : (j : ℕ) → j < length x → get_or x j 0 < q * get_or a.bounds j 0 → d * get_or a.fares j 0 ≤ price_sum p (get_or a.legs j [])
  unfolding left_term right_term
  unmet_not_dear j l h =
      below_bound q d (get_or x j 0) (get_or a.bounds j 0) (get_or a.fares j 0) (price_sum p (get_or a.legs j [])) (sum_tight (length x) (left_term a q d x p ok al pr) (right_term a q d x p ok al pr) (at_most a q d x p ok al pr) tight_products j l) h

  pub used_not_cheap : (j : ℕ) → j < length x → 0 < get_or x j 0 → price_sum p (get_or a.legs j []) ≤ d * get_or a.fares j 0
  unfolding left_term right_term
  used_not_cheap j l h =
      used_covers q d (get_or x j 0) (get_or a.bounds j 0) (get_or a.fares j 0) (price_sum p (get_or a.legs j [])) (sum_tight (length x) (left_term a q d x p ok al pr) (right_term a q d x p ok al pr) (at_most a q d x p ok al pr) tight_products j l) h
