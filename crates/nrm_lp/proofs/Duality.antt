-- Weak duality: no allocation gains more than any prices cost.
use Rattle.std.proofs.Common.{◌≡◌, ◌≢◌, ℕ, suc, ◌+◌, ◌*◌, ◌-◌, ◌<◌, ◌≤◌, ◌⊎◌, ◌||◌, inl, inr, arith, refl, sym, ap, ap₂, ◌∙◌, List, [], ◌∷◌, length, get_or, false, cond, eqb, eq-eqb, ne_eqb}
use Rattle.std.proofs.lemmas.Bool.{cases_eq}
use native.Mathlib.Nat.{mul-le-mul_left, mul-le-mul_right, le_of_mul-le-mul_right}
use Rattle.nrm_number.proofs.Totals.{sum_below, sum_same, sum_le, sum_plus, sum_times, sum_front, sum_zero, only}
use Rattle.nrm_lp.specs.Program.{ProgramValue, dot, names, AreLegs, load, price_sum, surplus, gain, cost, AreProducts, IsProgram, IsAllocation, IsPrices, IsOptimalAllocation, IsOptimalPrices}

pub dot_is : (xs ys : List ℕ) → length ys ≡ length xs → dot xs ys ≡ sum_below (length xs) (λ k. get_or xs k 0 * get_or ys k 0)
dot_is [] ys e = refl
dot_is (x ∷ xs) [] e = absurd (omega arith)
dot_is (x ∷ xs) (y ∷ ys) e = omega (arith, dot_is xs ys (omega arith), sum_front (length xs) (λ k. get_or (x ∷ xs) k 0 * get_or (y ∷ ys) k 0))

-- a list that names l and then others: at each leg it is one or the other
named_once : (k l : ℕ) (ls : List ℕ) (x : ℕ) → names l ls ≡ false → cond (eqb k l || names k ls) x 0 ≡ cond (eqb k l) x 0 + cond (names k ls) x 0
named_once k l ls x h = go (cases_eq k l)
  where
    go : (k ≡ l) ⊎ (k ≢ l) → cond (eqb k l || names k ls) x 0 ≡ cond (eqb k l) x 0 + cond (names k ls) x 0
    go (inl e) = ap (λ b. cond (b || names k ls) x 0) (eq-eqb k l e) ∙ sym (ap₂ (λ a b. cond a x 0 + cond b x 0) (eq-eqb k l e) (ap (λ t. names t ls) e ∙ h) ∙ omega arith)
    go (inr d) = ap (λ b. cond (b || names k ls) x 0) (ne_eqb k l d) ∙ sym (ap (λ a. cond a x 0 + cond (names k ls) x 0) (ne_eqb k l d) ∙ omega arith)

-- what the prices of the legs that a list names come to
pub priced : (n : ℕ) (p ls : List ℕ) (x : ℕ) → AreLegs n ls → sum_below n (λ k. get_or p k 0 * cond (names k ls) x 0) ≡ price_sum p ls * x
priced n p [] x h = sum_zero n (λ k. get_or p k 0 * 0) (λ k l. omega arith) ∙ omega arith
priced n p (l ∷ ls) x h =
    sum_same n (λ k. get_or p k 0 * cond (names k (l ∷ ls)) x 0) (λ k. get_or p k 0 * cond (eqb k l) x 0 + get_or p k 0 * cond (names k ls) x 0)
    (λ k lk. ap (λ t. get_or p k 0 * t) (named_once k l ls x h.1) ∙ omega arith)
    ∙ sum_plus n (λ k. get_or p k 0 * cond (eqb k l) x 0) (λ k. get_or p k 0 * cond (names k ls) x 0)
    ∙ ap₂ (λ s t. s + t) (only n l (λ k. get_or p k 0) x h.0) (priced n p ls x h.2)
    ∙ omega arith

-- the prices of what x holds, product by product
abbrev pub held : List ℕ → List (List ℕ) → List ℕ → ℕ
held p [] xs = 0
held p (ls ∷ legs) [] = 0
held p (ls ∷ legs) (x ∷ xs) = price_sum p ls * x + held p legs xs

pub held_is : (n : ℕ) (p us rs : List ℕ) (legs : List (List ℕ)) (xs : List ℕ) → AreProducts n us rs legs → sum_below n (λ k. get_or p k 0 * load k legs xs) ≡ held p legs xs
held_is n p us rs [] xs h = sum_zero n (λ k. get_or p k 0 * 0) (λ k l. omega arith)
held_is n p us rs (ls ∷ legs) [] h = sum_zero n (λ k. get_or p k 0 * 0) (λ k l. omega arith)
held_is n p [] [] (ls ∷ legs) (x ∷ xs) h = absurd h
held_is n p [] (r ∷ rs) (ls ∷ legs) (x ∷ xs) h = absurd h
held_is n p (u ∷ us) [] (ls ∷ legs) (x ∷ xs) h = absurd h
held_is n p (u ∷ us) (r ∷ rs) (ls ∷ legs) (x ∷ xs) h =
    sum_same n (λ k. get_or p k 0 * load k (ls ∷ legs) (x ∷ xs)) (λ k. get_or p k 0 * cond (names k ls) x 0 + get_or p k 0 * load k legs xs) (λ k l. omega arith)
    ∙ sum_plus n (λ k. get_or p k 0 * cond (names k ls) x 0) (λ k. get_or p k 0 * load k legs xs)
    ∙ ap₂ (λ s t. s + t) (priced n p ls x h.0) (held_is n p us rs legs xs h.1)

-- one product: its fare is at most its price sum and what is above it
pub one_product : (q d x u r s : ℕ) → x ≤ q * u → d * (r * x) ≤ s * x + q * (u * (d * r - s))
one_product q d x u r s h = omega (arith, mul-le-mul_right x above, mul-le-mul_left (d * r - s) h)
  where
    above : d * r ≤ s + (d * r - s)
    above = omega arith

products : (n q d : ℕ) (p us rs : List ℕ) (legs : List (List ℕ)) (xs : List ℕ) → AreProducts n us rs legs → length xs ≡ length us → ((j : ℕ) → j < length xs → get_or xs j 0 ≤ q * get_or us j 0) → d * dot rs xs ≤ held p legs xs + q * surplus d p us rs legs
products n q d p us [] legs xs h e w = omega arith
products n q d p us (r ∷ rs) legs [] h e w = omega arith
products n q d p us (r ∷ rs) [] (x ∷ xs) h e w = absurd (none us h)
  where
    none : (us : List ℕ) → AreProducts n us (r ∷ rs) [] → ⊥
    none [] h = h
    none (u ∷ us) h = h
products n q d p [] (r ∷ rs) (ls ∷ legs) (x ∷ xs) h e w = absurd h
products n q d p (u ∷ us) (r ∷ rs) (ls ∷ legs) (x ∷ xs) h e w =
    omega (arith, one_product q d x u r (price_sum p ls) (w 0 (omega arith)), products n q d p us rs legs xs h.1 (omega arith) (λ j l. w (suc j) (omega arith)))

pub weak_duality : (a : ProgramValue) (q d : ℕ) (x p : List ℕ) → IsProgram a → IsAllocation a q x → IsPrices a d p → gain a x * d ≤ cost a d p * q
weak_duality a q d x p ok al pr =
    omega (
      arith,
      products (length a.caps) q d p a.bounds a.fares a.legs x ok al.shape al.within,
      held_is (length a.caps) p a.bounds a.fares a.legs x ok,
      ap (λ t. t * q) (dot_is a.caps p pr.shape),
      sum_le (length a.caps) (λ k. get_or p k 0 * load k a.legs x) (λ k. q * (get_or a.caps k 0 * get_or p k 0)) (λ k l. omega (arith, mul-le-mul_left (get_or p k 0) (al.seats k l))),
      sum_times (length a.caps) q (λ k. get_or a.caps k 0 * get_or p k 0),
    )

-- so an allocation and prices that meet are both optimal: gain / q = cost / d
pub optimal_allocation : (a : ProgramValue) (q d : ℕ) (x p : List ℕ) → IsProgram a → IsAllocation a q x → IsPrices a d p → gain a x * d ≡ cost a d p * q → IsOptimalAllocation a q x
optimal_allocation a q d x p ok al pr e = record {
  allocation = al;
  best = λ q' x' al'. le_cancel d (gain a x' * q) (gain a x * q') pr.whole
      (omega (arith, mul-le-mul_left q (weak_duality a q' d x' p ok al' pr), ap (λ t. t * q') e));
}
  where
    le_cancel : (d m n : ℕ) → 1 ≤ d → m * d ≤ n * d → m ≤ n
    le_cancel d m n h l = le_of_mul-le-mul_right l h

pub optimal_prices : (a : ProgramValue) (q d : ℕ) (x p : List ℕ) → IsProgram a → IsAllocation a q x → IsPrices a d p → gain a x * d ≡ cost a d p * q → IsOptimalPrices a d p
optimal_prices a q d x p ok al pr e = record {
  prices = pr;
  best = λ d' p' pr'. le_cancel q (cost a d p * d') (cost a d' p' * d) al.whole
      (omega (arith, mul-le-mul_left d (weak_duality a q d' x p' ok al pr'), ap (λ t. t * d') e));
}
  where
    le_cancel : (d m n : ℕ) → 1 ≤ d → m * d ≤ n * d → m ≤ n
    le_cancel d m n h l = le_of_mul-le-mul_right l h
