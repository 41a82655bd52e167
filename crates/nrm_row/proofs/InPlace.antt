-- Numbers from which multiples are taken away at some columns, one after another, and what the list of these columns is.
use Rattle.nrm_row.specs.declared.limits.TheConstants.{MOST_COLUMNS}
use Rattle.std.proofs.Common.{◌≡◌, ℕ, zero, suc, ◌+◌, ◌-◌, ◌*◌, ◌<◌, ◌≤◌, ◌⊎◌, inl, inr, ℤ, pos, ◌-ℤ◌, ◌*ℤ◌, nat_abs, arith, refl, sym, ap, ap₂, ◌∙◌, subst, subst₂, ◌<ℤ◌, List, [], ◌∷◌, ◌++◌, length, get_or, set, take, drop, map, cond, ne_eqb, All, get_or-set_same, get_or-set_other, length-take-le, to_z, of_z, w64, FitsSigned}
use Rattle.std.proofs.lemmas.List.{get_or_default, take_more, drop_more, get_or_at, get_or-take, length-set, length-map}
use Rattle.std.specs.List.{AllPairs}
use Rattle.std.proofs.lemmas.Int.{ints, unsigned_abs-mul}
use Rattle.std.proofs.Math.Nat.{mul-le-mul}
use Rattle.nrm_number.proofs.Integers.{ring_ℤ, positive_product}
use Rattle.nrm_row.proofs.Combining.{length-crossed}
use Rattle.nrm_number.proofs.Ring.{solve, ◌⊖◌, v0, v1}
use Rattle.nrm_number.proofs.Ring.Expr.{◌⊗◌, e0, e1}
use Rattle.nrm_fraction.specs.Large.{size_limit, IsSmall}
use Rattle.nrm_fraction.specs.Rows.{number_at}
use Rattle.nrm_row.specs.Numbers.{AreNoughts, IsBounded, IsBoundedRow, Lists}
use Rattle.std.specs.Int.{IsInRange}
use Rattle.nrm_row.specs.Inner.Crossed.{crossed}
use Rattle.nrm_row.proofs.Filled.{at_last, past_last, same_or_not}

-- no entry stands at a column
pub absent : (es : List (ℕ × ℤ)) (c : ℕ) → ((k : ℕ) → k < length es → ¬ ((get_or es k (0, pos 0)).0 ≡ c)) → number_at es c ≡ pos 0
absent [] c h = refl
absent ((col, n) ∷ es) c h = ap (λ b. cond b n (number_at es c)) (ne_eqb col c (h 0 (omega arith))) ∙ absent es c (λ k l. h (suc k) (omega arith))

-- none of the first i stands at the column of the next
before_next : (es : List (ℕ × ℤ)) (i : ℕ) → AllPairs (λ (s t : ℕ × ℤ). s.0 < t.0) es → i < length es → (k : ℕ) → k < length (take i es) → ¬ ((get_or (take i es) k (0, pos 0)).0 ≡ (get_or es i (0, pos 0)).0)
before_next es i r h k l q = omega (arith, r k i (0, pos 0) below h, ap (λ t. t.0) (sym (get_or-take i es k (0, pos 0) below)), q)
  where
    below : k < i
    below = omega (arith, length-take-le i es (omega arith))

-- so far a times the first i entries is taken away
pub record IsTakenTo (old xs : List ℤ) (a : ℤ) (es : List (ℕ × ℤ)) (i : ℕ) : Type 0 where
  pub long : length xs ≡ length old
  pub so_far : (c : ℕ) → c < length old → get_or xs c (pos 0) ≡ get_or old c (pos 0) -ℤ a *ℤ number_at (take i es) c

nothing : (x a : ℤ) → x ≡ x -ℤ a *ℤ pos 0
nothing x a = sym (solve ring_ℤ (x ∷ a ∷ []) (v0 ⊖ v1 ⊗ e0) v0 refl)

-- the next column still has its old number
pub next_old : (old xs : List ℤ) (a : ℤ) (es : List (ℕ × ℤ)) (i : ℕ) → AllPairs (λ (s t : ℕ × ℤ). s.0 < t.0) es → All (λ (s : ℕ × ℤ). s.0 < length old) es → i < length es → IsTakenTo old xs a es i → get_or xs (get_or es i (0, pos 0)).0 (pos 0) ≡ get_or old (get_or es i (0, pos 0)).0 (pos 0)
next_old old xs a es i r w h p =
    p.so_far (get_or es i (0, pos 0)).0 (w i (0, pos 0) h)
    ∙ ap (λ n. get_or old (get_or es i (0, pos 0)).0 (pos 0) -ℤ a *ℤ n) (absent (take i es) (get_or es i (0, pos 0)).0 (before_next es i r h))
    ∙ sym (nothing (get_or old (get_or es i (0, pos 0)).0 (pos 0)) a)

pub taken_more : (old xs : List ℤ) (a n : ℤ) (es : List (ℕ × ℤ)) (i col : ℕ) → AllPairs (λ (s t : ℕ × ℤ). s.0 < t.0) es → All (λ (s : ℕ × ℤ). s.0 < length old) es → i < length es → col ≡ (get_or es i (0, pos 0)).0 → n ≡ get_or old col (pos 0) -ℤ a *ℤ (get_or es i (0, pos 0)).1 → IsTakenTo old xs a es i → IsTakenTo old (set xs col n) a es (i + 1)
taken_more old xs a n es i col r w h e m p = record {
  long = length-set xs col n ∙ p.long;
  so_far = λ c l. go c l (same_or_not c col);
}
  where
    more : take (i + 1) es ≡ take i es ++ get_or es i (0, pos 0) ∷ []
    more = take_more es i (0, pos 0) h

    go : (c : ℕ) → c < length old → (c ≡ col) ⊎ ¬ (c ≡ col) → get_or (set xs col n) c (pos 0) ≡ get_or old c (pos 0) -ℤ a *ℤ number_at (take (i + 1) es) c
    go c l (inl s) =
        ap (λ t. get_or (set xs col n) t (pos 0)) s
        ∙ get_or-set_same xs col n (pos 0) (omega (arith, p.long))
        ∙ m
        ∙ ap₂ (λ t u. get_or old t (pos 0) -ℤ a *ℤ u) (sym s)
        (sym (at_last (take i es) (get_or es i (0, pos 0)).0 c (get_or es i (0, pos 0)).1 (s ∙ e) (λ k q t. before_next es i r h k q (t ∙ s ∙ e))) ∙ ap (λ t. number_at t c) (sym more))
    go c l (inr d) =
        get_or-set_other xs col c n (pos 0) d
        ∙ p.so_far c l
        ∙ ap (λ u. get_or old c (pos 0) -ℤ a *ℤ u) (sym (past_last (take i es) (get_or es i (0, pos 0)).0 c (get_or es i (0, pos 0)).1 (λ q. d (q ∙ sym e))) ∙ ap (λ t. number_at t c) (sym more))

-- sizes: a product with a factor of at most this size
pub product_at_most : (x y : ℤ) (m n : ℕ) → nat_abs x ≤ m → nat_abs y ≤ n → nat_abs (x *ℤ y) ≤ m * n
product_at_most x y m n h k = subst (λ t. t ≤ m * n) (sym (unsigned_abs-mul x y)) (mul-le-mul h k)

-- the numbers, by their places
pub crossed_is : (a e : ℤ) (us xs made : List ℤ) → length us ≡ length xs → length made ≡ length xs → ((c : ℕ) → c < length xs → get_or made c (pos 0) ≡ get_or xs c (pos 0) *ℤ e -ℤ a *ℤ get_or us c (pos 0)) → made ≡ crossed a e us xs
crossed_is a e [] [] [] l m h = refl
crossed_is a e [] [] (n ∷ made) l m h = absurd (omega arith)
crossed_is a e [] (x ∷ xs) made l m h = absurd (omega arith)
crossed_is a e (u ∷ us) [] made l m h = absurd (omega arith)
crossed_is a e (u ∷ us) (x ∷ xs) [] l m h = absurd (omega arith)
crossed_is a e (u ∷ us) (x ∷ xs) (n ∷ made) l m h = ap₂ (λ s t. s ∷ t) (h 0 (omega arith)) (crossed_is a e us xs made (omega arith) (omega arith) (λ c k. h (suc c) (omega arith)))

-- the bound of a list with one more number
pub bounded_more : (ns : List ℤ) (i most size : ℕ) → i < length ns → most ≤ size → nat_abs (get_or ns i (pos 0)) ≤ size → IsBounded most (take i ns) → IsBounded size (take (i + 1) ns)
bounded_more ns i most size h l k b = subst (IsBounded size) (sym (take_more ns i (pos 0) h)) (all_more (take i ns) (get_or ns i (pos 0)) (λ j d q. omega (arith, b j d q)) k)
  where
    all_more : (xs : List ℤ) (x : ℤ) → IsBounded size xs → nat_abs x ≤ size → IsBounded size (xs ++ x ∷ [])
    all_more [] x a q zero d m = q
    all_more [] x a q (suc j) d m = absurd (omega arith)
    all_more (y ∷ ys) x a q zero d m = a 0 d (omega arith)
    all_more (y ∷ ys) x a q (suc j) d m = all_more ys x (λ k e r. a (suc k) e (omega arith)) q j d (omega arith)

-- so far the columns before i whose number isn't 0 are listed
pub record IsListedTo (ns : List ℤ) (es : List (ℕ × ℤ)) (i : ℕ) : Type 0 where
  pub rising : AllPairs (λ (s t : ℕ × ℤ). s.0 < t.0) es
  pub below : All (λ (e : ℕ × ℤ). e.0 < i) es
  pub same : (c : ℕ) → number_at es c ≡ get_or (take i ns) c (pos 0)
  pub each : All (λ (e : ℕ × ℤ). e.1 ≡ get_or ns e.0 (pos 0)) es

snoc_all : (P : ℕ × ℤ → Type 0) (es : List (ℕ × ℤ)) (e : ℕ × ℤ) → All P es → P e → All P (es ++ e ∷ [])
snoc_all P [] e a p zero d h = p
snoc_all P [] e a p (suc k) d h = absurd (omega arith)
snoc_all P (x ∷ es) e a p zero d h = a 0 d (omega arith)
snoc_all P (x ∷ es) e a p (suc k) d h = snoc_all P es e (λ j q l. a (suc j) q (omega arith)) p k d (omega arith)

snoc_rising : (es : List (ℕ × ℤ)) (e : ℕ × ℤ) → AllPairs (λ (s t : ℕ × ℤ). s.0 < t.0) es → All (λ (s : ℕ × ℤ). s.0 < e.0) es → AllPairs (λ (s t : ℕ × ℤ). s.0 < t.0) (es ++ e ∷ [])
snoc_rising [] e r b i zero d h l = absurd (omega arith)
snoc_rising [] e r b i (suc j) d h l = absurd (omega arith)
snoc_rising (x ∷ es) e r b i zero d h l = absurd (omega arith)
snoc_rising (x ∷ es) e r b zero (suc j) d h l = snoc_all (λ (t : ℕ × ℤ). x.0 < t.0) es e (λ k q m. r 0 (suc k) q (omega arith) (omega arith)) (b 0 (0, pos 0) (omega arith)) j d (omega arith)
snoc_rising (x ∷ es) e r b (suc i) (suc j) d h l = snoc_rising es e (λ k m q s t. r (suc k) (suc m) q (omega arith) (omega arith)) (λ k q m. b (suc k) q (omega arith)) i j d (omega arith) (omega arith)

past_end : (ns : List ℤ) (c : ℕ) → length ns ≤ c → get_or ns c (pos 0) ≡ pos 0
past_end [] c h = refl
past_end (n ∷ ns) zero h = absurd (omega arith)
past_end (n ∷ ns) (suc c) h = past_end ns c (omega arith)

next : (i : ℕ) → suc i + 1 ≡ suc (i + 1)
next i = omega arith

taken_place : (ns : List ℤ) (i c : ℕ) → i < length ns → ¬ (c ≡ i) → get_or (take (i + 1) ns) c (pos 0) ≡ get_or (take i ns) c (pos 0)
taken_place [] i c h d = absurd (omega arith)
taken_place (n ∷ ns) zero zero h d = absurd (d refl)
taken_place (n ∷ ns) zero (suc c) h d = refl
taken_place (n ∷ ns) (suc i) zero h d = ap (λ k. get_or (take k (n ∷ ns)) 0 (pos 0)) (next i)
taken_place (n ∷ ns) (suc i) (suc c) h d = ap (λ k. get_or (take k (n ∷ ns)) (suc c) (pos 0)) (next i) ∙ taken_place ns i c (omega arith) (λ q. d (ap suc q))

pub listed_more : (ns : List ℤ) (es : List (ℕ × ℤ)) (i : ℕ) (n : ℤ) → i < length ns → n ≡ get_or ns i (pos 0) → IsListedTo ns es i → IsListedTo ns (es ++ (i, n) ∷ []) (i + 1)
listed_more ns es i n h e p = record {
  rising = snoc_rising es (i, n) p.rising p.below;
  below = snoc_all (λ (s : ℕ × ℤ). s.0 < i + 1) es (i, n) (λ k d l. omega (arith, p.below k d l)) (omega arith);
  same = λ c. go c (same_or_not c i);
  each = snoc_all (λ (s : ℕ × ℤ). s.1 ≡ get_or ns s.0 (pos 0)) es (i, n) p.each e;
}
  where
    none : (c : ℕ) → c ≡ i → (k : ℕ) → k < length es → ¬ ((get_or es k (0, pos 0)).0 ≡ c)
    none c s k l q = omega (arith, p.below k (0, pos 0) l)

    go : (c : ℕ) → (c ≡ i) ⊎ ¬ (c ≡ i) → number_at (es ++ (i, n) ∷ []) c ≡ get_or (take (i + 1) ns) c (pos 0)
    go c (inl s) = at_last es i c n s (none c s) ∙ e ∙ sym (get_or-take (i + 1) ns i (pos 0) (omega arith)) ∙ ap (λ t. get_or (take (i + 1) ns) t (pos 0)) (sym s)
    go c (inr d) = past_last es i c n d ∙ p.same c ∙ sym (taken_place ns i c h d)

pub listed_skip : (ns : List ℤ) (es : List (ℕ × ℤ)) (i : ℕ) → i < length ns → get_or ns i (pos 0) ≡ pos 0 → IsListedTo ns es i → IsListedTo ns es (i + 1)
listed_skip ns es i h z p = record {
  rising = p.rising;
  below = λ k d l. omega (arith, p.below k d l);
  same = λ c. go c (same_or_not c i);
  each = p.each;
}
  where
    go : (c : ℕ) → (c ≡ i) ⊎ ¬ (c ≡ i) → number_at es c ≡ get_or (take (i + 1) ns) c (pos 0)
    go c (inl s) = p.same c ∙ past_end (take i ns) c (omega (arith, length-take-le i ns (omega arith))) ∙ sym z ∙ sym (get_or-take (i + 1) ns i (pos 0) (omega arith)) ∙ ap (λ t. get_or (take (i + 1) ns) t (pos 0)) (sym s)
    go c (inr d) = p.same c ∙ sym (taken_place ns i c h d)

pub listed_past : (ns : List ℤ) (es : List (ℕ × ℤ)) (i n : ℕ) → i + n ≤ length ns → ((c : ℕ) → i ≤ c → c < i + n → get_or ns c (pos 0) ≡ pos 0) → IsListedTo ns es i → IsListedTo ns es (i + n)
listed_past ns es i zero h z p = subst (IsListedTo ns es) here p
  where
    here : i ≡ i + 0
    here = omega arith
listed_past ns es i (suc n) h z p = subst (IsListedTo ns es) next_place (listed_skip ns es (i + n) (omega arith) (z (i + n) (omega arith) (omega arith)) (listed_past ns es i n (omega arith) (λ c l m. z c l (omega arith)) p))
  where
    next_place : i + n + 1 ≡ i + suc n
    next_place = omega arith

pub listed_to : (ns : List ℤ) (es : List (ℕ × ℤ)) (i j : ℕ) → AreNoughts ns i j → IsListedTo ns es i → IsListedTo ns es j
listed_to ns es i j z p = subst (IsListedTo ns es) here (listed_past ns es i (j - i) (omega (arith, z.within, z.rising)) (λ c l m. z.noughts c l (omega (arith, z.rising))) p)
  where
    here : i + (j - i) ≡ j
    here = omega (arith, z.rising)

-- a multiplied number stays within the bound
pub scaled_at_most : (xs : List ℤ) (e : ℤ) (most : ℕ) → IsBounded most xs → IsBounded (most * nat_abs e) (map (λ x. x *ℤ e) xs)
scaled_at_most [] e most b k d h = absurd (omega arith)
scaled_at_most (x ∷ xs) e most b zero d h = product_at_most x e most (nat_abs e) (b 0 (pos 0) (omega arith)) (omega arith)
scaled_at_most (x ∷ xs) e most b (suc k) d h = scaled_at_most xs e most (λ j q l. b (suc j) q (omega arith)) k d (omega arith)

-- a number that isn't written yet
pub still_old : (f : ℤ → ℤ) (old xs : List ℤ) (i : ℕ) → i < length old → xs ≡ map f (take i old) ++ drop i old → get_or xs i (pos 0) ≡ get_or old i (pos 0)
still_old f old xs i h p =
    ap (λ t. get_or t i (pos 0)) (p ∙ ap (λ l. map f (take i old) ++ l) (drop_more old i (pos 0) h))
    ∙ get_or_at (map f (take i old)) (get_or old i (pos 0)) (drop (i + 1) old) (pos 0) i (length-map (take i old) f ∙ length-take-le i old (omega arith))

times_one : (x : ℤ) → x ≡ x *ℤ pos 1
times_one x = sym (solve ring_ℤ (x ∷ []) (v0 ⊗ e1) v0 refl)

pub times_one_each : (xs : List ℤ) → xs ≡ map (λ x. x *ℤ pos 1) xs
times_one_each [] = refl
times_one_each (x ∷ xs) = ap₂ (λ s t. s ∷ t) (times_one x) (times_one_each xs)

-- a difference within the limit, as the code has it at 64 bits
pub difference_fits : (x t : ℤ) (m n : ℕ) → nat_abs x ≤ m → nat_abs t ≤ n → m + n < size_limit → FitsSigned w64 (to_z w64 (of_z w64 x) -ℤ to_z w64 (of_z w64 t))
difference_fits x t m n h k l = omega (arith, ints)

pub difference_is : (x t : ℤ) (m n : ℕ) → nat_abs x ≤ m → nat_abs t ≤ n → m + n < size_limit → to_z w64 (of_z w64 (to_z w64 (of_z w64 x) -ℤ to_z w64 (of_z w64 t))) ≡ x -ℤ t
difference_is x t m n h k l = omega (arith, ints)

-- what a unit row lists, for a row as long
pub listed_within : (us : List ℤ) (es : List (ℕ × ℤ)) (n : ℕ) → length us ≡ n → Lists us es → All (λ (e : ℕ × ℤ). e.0 < n) es
listed_within us es n l p k d h = omega (arith, p.within k d h)

pub listed_sizes : (us : List ℤ) (es : List (ℕ × ℤ)) (most : ℕ) → IsBounded most us → Lists us es → All (λ (e : ℕ × ℤ). nat_abs e.1 ≤ most) es
listed_sizes us es most b p k d h = subst (λ n. nat_abs n ≤ most) (sym (p.each k d h)) (b (get_or es k d).0 (pos 0) (p.within k d h))

pub listed_smalls : (us : List ℤ) (es : List (ℕ × ℤ)) → All IsSmall us → Lists us es → All (λ (e : ℕ × ℤ). IsSmall e.1) es
listed_smalls us es b p k d h = subst IsSmall (sym (p.each k d h)) (b (get_or es k d).0 (pos 0) (p.within k d h))

-- a bound on what is listed is one on all the numbers
pub listed_bounded : (us : List ℤ) (es : List (ℕ × ℤ)) (most : ℕ) → Lists us es → ((c : ℕ) → nat_abs (number_at es c) ≤ most) → IsBounded most us
listed_bounded us es most p b k d l = subst (λ n. nat_abs n ≤ most) (p.same k ∙ get_or_default us k (pos 0) d l) (b k)

-- the numbers x e - a u stay within the bound
crossed_at_most : (a e : ℤ) (us xs : List ℤ) (m n : ℕ) → length us ≡ length xs → IsBounded m xs → IsBounded n us → IsBounded (m * nat_abs e + nat_abs a * n) (crossed a e us xs)
crossed_at_most a e [] xs m n l b c k d h = absurd (omega arith)
crossed_at_most a e (u ∷ us) [] m n l b c k d h = absurd (omega arith)
crossed_at_most a e (u ∷ us) (x ∷ xs) m n l b c zero d h =
    apart (x *ℤ e) (a *ℤ u) (m * nat_abs e) (nat_abs a * n) (product_at_most x e m (nat_abs e) (b 0 (pos 0) (omega arith)) (omega arith)) (product_at_most a u (nat_abs a) n (omega arith) (c 0 (pos 0) (omega arith)))
  where
    apart : (p q : ℤ) (m n : ℕ) → nat_abs p ≤ m → nat_abs q ≤ n → nat_abs (p -ℤ q) ≤ m + n
    apart p q m n h k = omega (arith, ints)
crossed_at_most a e (u ∷ us) (x ∷ xs) m n l b c (suc k) d h = crossed_at_most a e us xs m n (omega arith) (λ j q r. b (suc j) q (omega arith)) (λ j q r. c (suc j) q (omega arith)) k d (omega arith)

-- the numbers that were made in their places
pub made_crossed : (a e : ℤ) (us xs made : List ℤ) (es : List (ℕ × ℤ)) → length us ≡ length xs → Lists us es → length made ≡ length xs → ((c : ℕ) → c < length xs → get_or made c (pos 0) ≡ get_or xs c (pos 0) *ℤ e -ℤ a *ℤ number_at es c) → made ≡ crossed a e us xs
made_crossed a e us xs made es l p m h = crossed_is a e us xs made l m (λ c k. h c k ∙ ap (λ u. get_or xs c (pos 0) *ℤ e -ℤ a *ℤ u) (p.same c))

-- they are a row with the bound
pub crossed_bounded : (d a e den : ℤ) (us xs made : List ℤ) (m n most : ℕ) → IsBoundedRow d m xs → IsBounded n us → pos 0 <ℤ e → length us ≡ length xs → made ≡ crossed a e us xs → den ≡ d *ℤ e → IsSmall den → most ≡ m * nat_abs e + nat_abs a * n → most < size_limit → IsBoundedRow den most made
crossed_bounded d a e den us xs made m n most r b h l made_is den_is small most_is room = record {
  row = record {
    positive = subst (λ z. pos 0 <ℤ z) (sym den_is) (positive_product d e r.row.positive h);
    small = small;
    smalls = λ k q j. omega (arith, bounded k q j);
    width = subst (IsInRange 1 MOST_COLUMNS) (sym (ap length made_is ∙ length-crossed a e us xs l)) r.row.width;
  };
  bounded = bounded;
  room = room;
}
  where
    bounded : IsBounded most made
    bounded = subst₂ (λ t ms. IsBounded t ms) (sym most_is) (sym made_is) (crossed_at_most a e us xs m n l r.bounded b)
