-- The path of every program ends: each pivot that isn't Large raises the measure, which stays below a bound.
use Rattle.std.proofs.Common.{◌≡◌, ℕ, zero, suc, ◌+◌, ◌-◌, ◌<◌, ◌≤◌, ◌⊎◌, inl, inr, ℤ, arith, refl, sym, ap, ◌∙◌, subst, List, [], ◌∷◌, map, length, get_or, Option, Some, None}
use Rattle.std.specs.List.{range_with_len}
use Rattle.std.proofs.lemmas.List.{get_or-map, length-map}
use Rattle.std.proofs.lemmas.List.FromFn.{get_or-range_with_len, length-range_with_len}
use Rattle.std.proofs.lemmas.Option.{none-some, same_Some}
use Rattle.nrm_fraction.specs.Fraction.{Fraction}
use Rattle.nrm_fraction.specs.Large.{large_number}
use Rattle.nrm_fraction.specs.Rows.{at}
use Rattle.nrm_fraction.proofs.Embed.{W, W-den, W-num}
use Rattle.nrm_lp.specs.Program.{ProgramValue}
use Rattle.nrm_lp.specs.Tableau.{Tableau, first_tableau, entering, leaving, pivot, key_columns, product_count, right_side, row_count, slack}
use Rattle.nrm_lp.specs.Path.{after, next_at, next_of, row_number}
use Rattle.nrm_lp.specs.Overflow.{Closes, Overflows, Reaches, closing_large, large_at, pivot_large}
use Rattle.nrm_lp.specs.Ends.{EndsOnce}
use Rattle.nrm_lp.proofs.Certify.{first_nought, last_value}
use Rattle.nrm_lp.proofs.Measure.{AreBelow, IsBelow}
use Rattle.nrm_lp.proofs.Path.{entering_is, path_kept}
use Rattle.nrm_lp.proofs.Rising.{keys_below, value_bound, value_keys, value_number, value_number_below, value_number_rises}
use Rattle.nrm_lp.proofs.Rule.{IsSound, IsLeaving, leaving_exists}

-- the columns of the key stand at or behind the first slack, and before the end of the row
key_at : (a : ProgramValue) (k : ℕ) → k < length (key_columns a) → (product_count a ≤ get_or (key_columns a) k 0) × (get_or (key_columns a) k 0 < suc (right_side a))
key_at a zero l = (omega arith, omega arith)
key_at a (suc k) l =
    let few : k < row_count a = omega (arith, l, length-map (range_with_len 0 (row_count a)) (slack a), length-range_with_len 0 (row_count a)) in
    let is : get_or (map (slack a) (range_with_len 0 (row_count a))) k 0 ≡ slack a (0 + k) =
    get_or-map (slack a) (range_with_len 0 (row_count a)) k 0 0 (omega (arith, few, length-range_with_len 0 (row_count a))) ∙ ap (slack a) (get_or-range_with_len 0 (row_count a) k 0 few) in
    (omega (arith, is), omega (arith, is, few))

nought_below : (l : ℕ) → 1 < l → IsBelow l (W 0)
nought_below l room = record { num_below = subst (λ n. n < l) (sym (W-num 0)) (omega (arith, room)); den_below = subst (λ d. d < l) (sym (W-den 0)) room }

noughts_below : (l : ℕ) → 1 < l → (xs : List Fraction) (cs : List ℕ) → ((k : ℕ) → k < length cs → at xs (get_or cs k 0) ≡ W 0) → AreBelow l (map (λ c. at xs c) cs)
noughts_below l room xs [] h = tt
noughts_below l room xs (c ∷ cs) h = (subst (IsBelow l) (sym (h 0 (omega arith))) (nought_below l room), noughts_below l room xs cs (λ k m. h (suc k) (omega arith)))

module _ (limit : ℕ) (room : 1 < limit) (a : ProgramValue) where
  -- the value row's list is below the limit at each tableau that is reached
  pub keys_small : (n : ℕ) (t : Tableau) → Reaches limit a n t → AreBelow limit (value_keys a t)
  keys_small n t r = go (last_value limit room a n t r)
    where
      go : (first_tableau a ≡ t) ⊎ (large_number limit t.value ≡ None) → AreBelow limit (value_keys a t)
      go (inl e) = subst (λ u. AreBelow limit (value_keys a u)) e (noughts_below limit room (first_tableau a).value (key_columns a) (λ k l. first_nought limit room a (get_or (key_columns a) k 0) (key_at a k l).0 (key_at a k l).1))
      go (inr e) = keys_below limit t.value (key_columns a) e (λ k l. omega (arith, (key_at a k l).1, (path_kept a n t r.path).value_width))

-- the tableau after a pivot that isn't Large is reached too
pub next_reached : (limit : ℕ) (a : ProgramValue) (n : ℕ) (t : Tableau) (s : ℕ) → Reaches limit a n t → entering t ≡ Some s → pivot_large limit a t ≡ None → Reaches limit a (suc n) (pivot t (row_number (leaving a t s)) s)
next_reached limit a n t s r e small = record { path = ap (next_of a) r.path ∙ ap (next_at a t) e; small = λ m u l f. before_or_here m u f (earlier m l) }
  where
    earlier : (m : ℕ) → m < suc n → (m < n) ⊎ (m ≡ n)
    earlier m l = grind arith

    before_or_here : (m : ℕ) (u : Tableau) → after a m ≡ Some u → (m < n) ⊎ (m ≡ n) → pivot_large limit a u ≡ None
    before_or_here m u f (inl k) = r.small m u k f
    before_or_here m u f (inr k) = subst (λ v. pivot_large limit a v ≡ None) (same_Some t u (sym r.path ∙ ap (after a) (sym k) ∙ f)) small

-- how far the measure may still rise
pub rise_left : ℕ → ProgramValue → Tableau → ℕ
rise_left limit a t = value_bound limit a - value_number limit a t

pub rise_falls : (limit : ℕ) → 1 < limit → (a : ProgramValue) (n : ℕ) (t : Tableau) (s : ℕ) → Reaches limit a n t → entering t ≡ Some s → pivot_large limit a t ≡ None → rise_left limit a (pivot t (row_number (leaving a t s)) s) < rise_left limit a t
unfolding rise_left
rise_falls limit room a n t s r e small =
    let h : IsSound a t = path_kept a n t r.path in
    let w : (i : ℕ) × (s ≡ 0 + i) × (suc i < length t.value) × _ = entering_is 0 t.value s e in
    let found : (k : ℕ) × IsLeaving a t s k = leaving_exists a t s h (omega (arith, w.1, w.2, h.value_width)) in
    let row : row_number (leaving a t s) ≡ found.0 = ap row_number (found.1).answer in
    let next : Reaches limit a (suc n) (pivot t (row_number (leaving a t s)) s) = next_reached limit a n t s r e small in
    let rises : value_number limit a t < value_number limit a (pivot t (row_number (leaving a t s)) s) =
    value_number_rises limit a t s (row_number (leaving a t s)) h e (subst (IsLeaving a t s) (sym row) found.1) (keys_small limit room a n t r) (keys_small limit room a (suc n) _ next) in
    let below : value_number limit a (pivot t (row_number (leaving a t s)) s) < value_bound limit a = value_number_below limit a _ (keys_small limit room a (suc n) _ next) in
    omega (arith, rises, below)

-- ---- every path ends
abbrev Ends : ℕ → ProgramValue → Type 0
Ends limit a = ((n : ℕ) × (t : Tableau) × Closes limit a n t) ⊎ ((n : ℕ) × (number : ℤ) × Overflows limit a n number)

module _ (limit : ℕ) (room : 1 < limit) (a : ProgramValue) where
  ends_from : (fuel n : ℕ) (t : Tableau) → rise_left limit a t < fuel → Reaches limit a n t → Ends limit a
  ends_from zero n t few r = absurd (omega (arith, few))
  ends_from (suc fuel) n t few r = from_column (λ m u. ends_from fuel m u) (entering t) refl
    where
      at_end : entering t ≡ None → (o : Option ℤ) → closing_large limit a t ≡ o → Ends limit a
      at_end e None f = inl (n, t, (r, e, f))
      at_end e (Some number) f = inr (n, number, (t, r, inr (e, f)))

      at_pivot : ((m : ℕ) (u : Tableau) → rise_left limit a u < fuel → Reaches limit a m u → Ends limit a) → (s : ℕ) → entering t ≡ Some s → (o : Option ℤ) → pivot_large limit a t ≡ o → Ends limit a
      at_pivot go s e (Some number) f = inr (n, number, (t, r, inl f))
      at_pivot go s e None f = go (suc n) (pivot t (row_number (leaving a t s)) s) (omega (arith, few, rise_falls limit room a n t s r e f)) (next_reached limit a n t s r e f)

      from_column : ((m : ℕ) (u : Tableau) → rise_left limit a u < fuel → Reaches limit a m u → Ends limit a) → (o : Option ℕ) → entering t ≡ o → Ends limit a
      from_column go None e = at_end e (closing_large limit a t) refl
      from_column go (Some s) e = at_pivot go s e (pivot_large limit a t) refl

  pub every_path_ends : Ends limit a
  every_path_ends = ends_from (suc (rise_left limit a (first_tableau a))) 0 (first_tableau a) (omega arith) (record { path = refl; small = λ m u l e. absurd (omega (arith, l)) })

-- ---- in one place
module _ (limit : ℕ) (a : ProgramValue) where
  -- no column enters, or the pivot is Large
  abbrev IsStop : Tableau → Type 0
  IsStop t = (entering t ≡ None) ⊎ ((x : ℤ) × (pivot_large limit a t ≡ Some x))

  nothing_after : (n : ℕ) (t : Tableau) → after a n ≡ Some t → entering t ≡ None → (k : ℕ) → after a (suc n + k) ≡ None
  nothing_after n t r e zero = ap (after a) (plus_nought (suc n)) ∙ ap (next_of a) r ∙ ap (next_at a t) e
    where
      plus_nought : (n : ℕ) → n + 0 ≡ n
      plus_nought n = omega arith
  nothing_after n t r e (suc k) = ap (after a) (plus_one (suc n) k) ∙ ap (next_of a) (nothing_after n t r e k)
    where
      plus_one : (n k : ℕ) → n + suc k ≡ suc (n + k)
      plus_one n k = omega arith

  -- no tableau is reached behind a stop
  no_further : (n m : ℕ) (t u : Tableau) → Reaches limit a n t → IsStop t → Reaches limit a m u → n < m → ⊥
  no_further n m t u r (inr (x, f)) q l = none-some x (sym (q.small n t l r.path) ∙ f)
  no_further n m t u r (inl e) q l = none-some u (sym (sym q.path ∙ ap (after a) (apart n m l) ∙ nothing_after n t r.path e (m - suc n)))
    where
      apart : (n m : ℕ) → n < m → m ≡ suc n + (m - suc n)
      apart n m l = omega (arith, l)

  same_place : (n m : ℕ) (t u : Tableau) → Reaches limit a n t → IsStop t → Reaches limit a m u → IsStop u → n ≡ m
  same_place n m t u r s q w = of (order n m)
    where
      order : (n m : ℕ) → (n < m) ⊎ (m < n) ⊎ (n ≡ m)
      order n m = grind arith

      of : (n < m) ⊎ (m < n) ⊎ (n ≡ m) → n ≡ m
      of (inl l) = absurd (no_further n m t u r s q l)
      of (inr (inl l)) = absurd (no_further m n u t q w r l)
      of (inr (inr e)) = e

  same_tableau : (n m : ℕ) (t u : Tableau) → Reaches limit a n t → Reaches limit a m u → n ≡ m → t ≡ u
  same_tableau n m t u r q e = same_Some t u (sym r.path ∙ ap (after a) e ∙ q.path)

  overflow_stop : (t : Tableau) (x : ℤ) → (pivot_large limit a t ≡ Some x) ⊎ ((entering t ≡ None) × (closing_large limit a t ≡ Some x)) → IsStop t
  overflow_stop t x (inl f) = inr (x, f)
  overflow_stop t x (inr (e, f)) = inl e

  same_number : (t : Tableau) (x y : ℤ) → (pivot_large limit a t ≡ Some x) ⊎ ((entering t ≡ None) × (closing_large limit a t ≡ Some x)) → (pivot_large limit a t ≡ Some y) ⊎ ((entering t ≡ None) × (closing_large limit a t ≡ Some y)) → x ≡ y
  same_number t x y (inl f) (inl g) = same_Some x y (sym f ∙ g)
  same_number t x y (inl f) (inr (e, g)) = absurd (none-some x (sym (sym f ∙ ap (large_at limit a t) e)))
  same_number t x y (inr (e, f)) (inl g) = absurd (none-some y (sym (sym g ∙ ap (large_at limit a t) e)))
  same_number t x y (inr (e, f)) (inr (h, g)) = same_Some x y (sym f ∙ g)

  pub ends_once : EndsOnce limit a
  ends_once = record {
    closing = λ n m t u c d.
        let e : n ≡ m = same_place n m t u c.0 (inl c.1) d.0 (inl d.1) in
        (e, same_tableau n m t u c.0 d.0 e);
    overflow = λ n m x y c d.
        let e : n ≡ m = same_place n m c.0 d.0 c.1 (overflow_stop c.0 x c.2) d.1 (overflow_stop d.0 y d.2) in
        (e, same_number d.0 x y (subst (λ t. (pivot_large limit a t ≡ Some x) ⊎ ((entering t ≡ None) × (closing_large limit a t ≡ Some x))) (same_tableau n m c.0 d.0 c.1 d.1 e) c.2) d.2);
    apart = λ n m t x c d.
        let e : n ≡ m = same_place n m t d.0 c.0 (inl c.1) d.1 (overflow_stop d.0 x d.2) in
        of_overflow t x c.1 c.2 (subst (λ u. (pivot_large limit a u ≡ Some x) ⊎ ((entering u ≡ None) × (closing_large limit a u ≡ Some x))) (sym (same_tableau n m t d.0 c.0 d.1 e)) d.2);
  }
    where
      of_overflow : (t : Tableau) (x : ℤ) → entering t ≡ None → closing_large limit a t ≡ None → (pivot_large limit a t ≡ Some x) ⊎ ((entering t ≡ None) × (closing_large limit a t ≡ Some x)) → ⊥
      of_overflow t x e f (inl g) = none-some x (sym (sym g ∙ ap (large_at limit a t) e))
      of_overflow t x e f (inr (h, g)) = none-some x (sym f ∙ g)
