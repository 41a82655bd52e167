-- Ranges of whole numbers: what they hold, one number more, and the pairs of their numbers with what each stands for.
use Rattle.std.proofs.Common.{ℕ, zero, suc, ◌≡◌, ◌≢◌, ◌∙◌, ◌+◌, ◌<◌, ◌≤◌, Bool, true, false, cond, nat_eq, List, [], ◌∷◌, ◌++◌, get_or, map, filter, All, AllPairs, Some, None, inl, inr, refl, sym, ap, arith, zero-add, ne_eqb, eq-eqb}
use Rattle.std.specs.List.{list_all, range_with_len}
use Rattle.std.specs.Map.{lookup}
use Rattle.std.proofs.lemmas.Bool.{cases_Bool, cases_lt, eqb-true}
use Rattle.std.proofs.lemmas.List.{append-nil, map-append, map-id}
use Rattle.std.proofs.lemmas.List.Elements.{All-head, All-tail, filter-append}
use Rattle.std.proofs.lemmas.List.FromFn.{length-range_with_len, get_or-range_with_len, map-range_with_len_more}
use Rattle.std.proofs.lemmas.List.Sums.{AllPass-from_list_all}
use Rattle.std.proofs.lemmas.Option.{same_Some}

pub below-range : (n : ℕ) → All (λ k. k < n) (range_with_len 0 n)
below-range n k d short =
    let few : k < n = omega (arith, length-range_with_len 0 n) in
    omega (arith, get_or-range_with_len 0 n k d few)

pub range-rises : (start n : ℕ) → AllPairs (λ a b. a < b) (range_with_len start n)
range-rises start n a b d low high =
    let few : b < n = omega (arith, length-range_with_len start n) in
    omega (arith, get_or-range_with_len start n a d (omega arith), get_or-range_with_len start n b d few)

pub range-more : (n : ℕ) → range_with_len 0 (n + 1) ≡ range_with_len 0 n ++ n ∷ []
range-more n = sym (map-id (range_with_len 0 (n + 1))) ∙ map-range_with_len_more (λ (x : ℕ). x) 0 n n (omega arith) ∙ ap (λ (xs : List ℕ). xs ++ n ∷ []) (map-id (range_with_len 0 n))

-- ---- a list of what stands for those numbers of a range that pass a test, and the next number
module _ {X : Type 0} (f : ℕ → X) (test : ℕ → Bool) (n : ℕ) (items : List X) (are : items ≡ map f (filter test (range_with_len 0 n))) where
  more : (b : Bool) → test n ≡ b → map f (filter test (range_with_len 0 (n + 1))) ≡ items ++ map f (cond b (n ∷ []) [])
  more b e =
      ap (λ (xs : List ℕ). map f (filter test xs)) (range-more n) ∙ ap (map f) (filter-append test (range_with_len 0 n) (n ∷ []))
      ∙ map-append f (filter test (range_with_len 0 n)) (filter test (n ∷ []))
      ∙ ap (λ (xs : List X). xs ++ map f (cond (test n) (n ∷ []) [])) (sym are)
      ∙ ap (λ (c : Bool). items ++ map f (cond c (n ∷ []) [])) e

  pub push-yes : (after : List X) (x : X) → test n ≡ true → x ≡ f n → after ≡ items ++ x ∷ [] → after ≡ map f (filter test (range_with_len 0 (n + 1)))
  push-yes after x passes stands put = put ∙ ap (λ (y : X). items ++ y ∷ []) stands ∙ sym (more true passes)

  pub push-no : test n ≡ false → items ≡ map f (filter test (range_with_len 0 (n + 1)))
  push-no fails = sym (append-nil items) ∙ sym (more false fails)

-- ---- pairs of numbers and what they stand for
module _ {X : Type 0} (f : ℕ → X) where
  abbrev pub pairs : List ℕ → List (ℕ × X)
  pairs ks = map (λ k. (k, f k)) ks

  -- what is found is what the key stands for
  pub lookup-is : (ks : List ℕ) (k : ℕ) (x : X) → lookup (nat_eq k) (pairs ks) ≡ Some x → x ≡ f k
  lookup-is [] k x found = cc
  lookup-is (j ∷ ks) k x found = elim (cases_Bool (nat_eq k j)) [
    | inl here ↦
        let same = eqb-true k j here in
        same_Some x (f k) (sym found ∙ ap (λ b. cond b (Some (f j)) (lookup (nat_eq k) (pairs ks))) here ∙ ap (λ i. Some (f i)) (sym same))
    | inr other ↦ lookup-is ks k x (sym (ap (λ b. cond b (Some (f j)) (lookup (nat_eq k) (pairs ks))) other) ∙ found)
  ]

  -- a key above all others isn't there
  pub lookup-above : (ks : List ℕ) (k : ℕ) → All (λ j. j < k) ks → lookup (nat_eq k) (pairs ks) ≡ None
  lookup-above [] k below = refl
  lookup-above (j ∷ ks) k below =
      let low = All-head (λ j. j < k) j ks below in
      let apart : k ≢ j = λ same. omega arith in
      ap (λ b. cond b (Some (f j)) (lookup (nat_eq k) (pairs ks))) (ne_eqb k j apart) ∙ lookup-above ks k (All-tail (λ j. j < k) j ks below)

  -- a key of a range that passes a test is found among those that do
  pub lookup-kept : (test : ℕ → Bool) (start n k : ℕ) → start ≤ k → k < start + n → test k ≡ true → lookup (nat_eq k) (pairs (filter test (range_with_len start n))) ≡ Some (f k)
  lookup-kept test start zero k low high passes = absurd (omega arith)
  lookup-kept test start (suc n) k low high passes = elim (cases_lt start k) [
    | inl under ↦
        let rest = lookup-kept test (start + 1) n k (omega arith) (omega arith) passes in
        let apart : k ≢ start = λ same. omega arith in
        elim (cases_Bool (test start)) [
          | inl e ↦ ap (λ b. lookup (nat_eq k) (pairs (cond b (start ∷ filter test (range_with_len (start + 1) n)) (filter test (range_with_len (start + 1) n))))) e
              ∙ ap (λ b. cond b (Some (f start)) (lookup (nat_eq k) (pairs (filter test (range_with_len (start + 1) n))))) (ne_eqb k start apart) ∙ rest
          | inr e ↦ ap (λ b. lookup (nat_eq k) (pairs (cond b (start ∷ filter test (range_with_len (start + 1) n)) (filter test (range_with_len (start + 1) n))))) e ∙ rest
        ]
    | inr over ↦
        let same : start ≡ k = omega arith in
        let here : test start ≡ true = ap test same ∙ passes in
        ap (λ b. lookup (nat_eq k) (pairs (cond b (start ∷ filter test (range_with_len (start + 1) n)) (filter test (range_with_len (start + 1) n))))) here
        ∙ ap (λ b. cond b (Some (f start)) (lookup (nat_eq k) (pairs (filter test (range_with_len (start + 1) n))))) (eq-eqb k start (sym same)) ∙ ap (λ i. Some (f i)) same
  ]

  -- a key of a range is found
  pub lookup-range : (start n k : ℕ) → start ≤ k → k < start + n → lookup (nat_eq k) (pairs (range_with_len start n)) ≡ Some (f k)
  lookup-range start zero k low high = absurd (omega arith)
  lookup-range start (suc n) k low high = elim (cases_lt start k) [
    | inl under ↦
        let apart : k ≢ start = λ same. omega arith in
        ap (λ b. cond b (Some (f start)) (lookup (nat_eq k) (pairs (range_with_len (start + 1) n)))) (ne_eqb k start apart) ∙ lookup-range (start + 1) n k (omega arith) (omega arith)
    | inr over ↦
        let same : start ≡ k = omega arith in
        ap (λ b. cond b (Some (f start)) (lookup (nat_eq k) (pairs (range_with_len (start + 1) n)))) (eq-eqb k start (sym same)) ∙ ap (λ i. Some (f i)) same
  ]

-- ---- a test that each number below n passes
pub passes-below : (n : ℕ) (p : ℕ → Bool) → list_all p (range_with_len 0 n) ≡ true → (i : ℕ) → i < n → p i ≡ true
passes-below n p h i few =
    let at = AllPass-from_list_all p (range_with_len 0 n) h i 0 (rw length-range_with_len few) in
    let number : get_or (range_with_len 0 n) i 0 ≡ i = get_or-range_with_len 0 n i 0 few ∙ zero-add i in
    rw number at at
