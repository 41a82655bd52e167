-- The certificate of a path that ends and isn't Large has numbers below the limit, and shows what it should.
use Rattle.std.proofs.Common.{◌≡◌, ℕ, zero, suc, ◌<◌, ◌≤◌, ◌⊎◌, inl, inr, pos, ◌*ℤ◌, ◌/◌, nat_abs, neg_ℤ, arith, refl, sym, ap, ◌∙◌, subst, List, [], ◌∷◌, map, length, get_or, cond, le-ltb, Option, Some, None}
use Prim.Native.Nat.{◌∣◌}
use native.Mathlib.Nat.{one-dvd}
use Rattle.std.proofs.lemmas.Nat.Gcd.{le_of_dvd}
use Rattle.std.specs.List.{range_with_len}
use Rattle.std.proofs.lemmas.List.{get_or-map, length-map}
use Rattle.std.proofs.lemmas.List.FromFn.{length-range_with_len}
use Rattle.std.proofs.lemmas.Option.{none-some, same_Some}
use Rattle.nrm_number.proofs.Ring.{solve, v0, v1}
use Rattle.nrm_number.proofs.Ring.Expr.{◌⊗◌, e0, e1}
use Rattle.nrm_fraction.specs.Fraction.{◌*ᶠ◌, whole}
use Rattle.nrm_lp.specs.Program.{ProgramValue, IsProgram, IsOptimalAllocation, IsOptimalPrices, cost}
use Rattle.nrm_fraction.specs.Large.{common, running, numerators, first_reaching, large_number, over_common}
use Rattle.nrm_lp.specs.Tableau.{Tableau, product_count, slack, right_side, first_tableau, entering, leaving, pivot}
use Rattle.nrm_fraction.specs.Rows.{at}
use Rattle.nrm_lp.specs.Closing.{product_values, leg_prices, value_over, certificate}
use Rattle.nrm_lp.specs.Path.{row_number, next_at, next_of, after, IsLast}
use Rattle.nrm_lp.specs.Overflow.{rows_but, large_at, Reaches, Closes}
use Rattle.nrm_lp.specs.Certified.{Meet, Certifies, sizes}
use Rattle.nrm_fraction.proofs.Field.{ring_F, IsNonNegative}
use Rattle.nrm_fraction.proofs.Embed.{W, W-den, den-dvd-common, over_common_at}
use Rattle.nrm_fraction.proofs.Lowest.{common_pos}
use Rattle.nrm_lp.proofs.Tables.{first_value_at, made_at}
use Rattle.nrm_lp.proofs.Rule.{IsSound}
use Rattle.nrm_lp.proofs.Optimal.{p_at, cost_value}
use Rattle.nrm_lp.proofs.Path.{path_kept, last_signs, path_ends_optimal}
use Rattle.nrm_lp.proofs.Meeting.{ends_meet}
use Rattle.nrm_lp.proofs.Small.{reach_first, reach_each, reach_parts, sizes_small, each_small, common_below, common_of, value_row_small, scaled_le, not_negative}

sizes_back : (ns : List ℕ) → sizes (map (λ n. pos n) ns) ≡ ns
sizes_back [] = refl
sizes_back (n ∷ ns) = ap (λ ms. n ∷ ms) (sizes_back ns)

-- a denominator below the limit for the value row from the slack columns on, over which its numbers are below the limit
record Bounds (limit : ℕ) (a : ProgramValue) (t : Tableau) : Type 0 where
  den : ℕ
  some : 0 < den
  below : den < limit
  divides : (c : ℕ) → product_count a ≤ c → c < suc (right_side a) → (at t.value c).den ∣ den
  number : (c : ℕ) → product_count a ≤ c → c < suc (right_side a) → IsNonNegative (at t.value c) → (k : ℕ) × (W k ≡ W den *ᶠ at t.value c) × (k < limit)

module _ (limit : ℕ) (room : 1 < limit) (a : ProgramValue) where
  -- the first tableau has 0 there
  pub first_nought : (c : ℕ) → product_count a ≤ c → c < suc (right_side a) → at (first_tableau a).value c ≡ W 0
  first_nought c l u = first_value_at a c u ∙ ap (λ b. cond b (whole (neg_ℤ (pos (get_or a.fares c 0)))) (whole (pos 0))) (le-ltb c (product_count a) l)

  first_bounds : Bounds limit a (first_tableau a)
  first_bounds = record {
    den = 1;
    some = omega arith;
    below = room;
    divides = λ c l u. subst (λ y. y.den ∣ 1) (sym (first_nought c l u)) (subst (λ k. k ∣ 1) (sym (W-den 0)) (one-dvd 1));
    number = λ c l u s. (0, solve ring_F [] e0 (e1 ⊗ e0) refl ∙ ap (λ y. W 1 *ᶠ y) (sym (first_nought c l u)), omega (arith, room));
  }

  row_bounds : (t : Tableau) → length t.value ≡ suc (right_side a) → large_number limit t.value ≡ None → Bounds limit a t
  row_bounds t w e =
      let f : (nat_abs (pos (common t.value)) < limit) × (first_reaching limit (numerators (common t.value) t.value) ≡ None) = reach_first limit (pos (common t.value)) (numerators (common t.value) t.value) e in
      record {
        den = common t.value;
        some = common_pos t.value;
        below = f.0;
        divides = λ c l u. den-dvd-common t.value c (omega (arith, w)) (whole (pos 0));
        number = λ c l u s. (
          get_or (over_common t.value) c 0,
          over_common_at t.value c (omega (arith, w)) s,
          subst (λ k. k < limit)
              (sym (get_or-map (λ z. nat_abs z) (numerators (common t.value) t.value) c (pos 0) 0 (omega (arith, w, length-map t.value (λ x. x.num *ℤ pos (common t.value / x.den))))))
              (reach_each limit (numerators (common t.value) t.value) f.1 c (omega (arith, w, length-map t.value (λ x. x.num *ℤ pos (common t.value / x.den))))),
        );
      }

  -- the last tableau is the first one, or a pivot made it that isn't Large
  pub last_value : (n : ℕ) (t : Tableau) → Reaches limit a n t → (first_tableau a ≡ t) ⊎ (large_number limit t.value ≡ None)
  last_value zero t r = inl (same_Some (first_tableau a) t r.path)
  last_value (suc n) t r = inr (from (after a n) refl r.path)
    where
      from_column : (u : Tableau) → after a n ≡ Some u → (c : Option ℕ) → entering u ≡ c → next_at a u c ≡ Some t → large_number limit t.value ≡ None
      from_column u g None f e = absurd (none-some t e)
      from_column u g (Some s) f e =
          subst (λ v. large_number limit v.value ≡ None) (same_Some (pivot u (row_number (leaving a u s)) s) t e)
          (value_row_small limit
          (get_or (pivot u (row_number (leaving a u s)) s).rows (row_number (leaving a u s)) [])
          (pivot u (row_number (leaving a u s)) s).value
          (rows_but (row_number (leaving a u s)) (pivot u (row_number (leaving a u s)) s).rows)
          (ap (large_at limit a u) (sym f) ∙ r.small n u (omega arith) g))

      from : (o : Option Tableau) → after a n ≡ o → next_of a o ≡ Some t → large_number limit t.value ≡ None
      from None g e = absurd (none-some t e)
      from (Some u) g e = from_column u g (entering u) refl e

  last_bounds : (n : ℕ) (t : Tableau) → Reaches limit a n t → Bounds limit a t
  last_bounds n t r = go (last_value n t r)
    where
      go : (first_tableau a ≡ t) ⊎ (large_number limit t.value ≡ None) → Bounds limit a t
      go (inl e) = subst (λ u. Bounds limit a u) e first_bounds
      go (inr e) = row_bounds t (path_kept a n t r.path).value_width e

module _ (limit : ℕ) (room : 1 < limit) (a : ProgramValue) (ok : IsProgram a) (n : ℕ) (t : Tableau) (closes : Closes limit a n t) where
  last : IsLast a t
  last = (n, closes.0.path, closes.1)

  kept : IsSound a t
  kept = path_kept a n t closes.0.path

  abbrev q : ℕ
  q = common (product_values a t)

  abbrev x : List ℕ
  x = over_common (product_values a t)

  abbrev d : ℕ
  d = common (leg_prices a t)

  abbrev p : List ℕ
  p = over_common (leg_prices a t)

  meet : Meet a q x d p (value_over a t d)
  meet = ends_meet a ok t last

  bounds : Bounds limit a t
  bounds = last_bounds limit room a n t closes.0

  signs : (c : ℕ) → c < right_side a → IsNonNegative (at t.value c)
  signs = last_signs a t kept closes.1

  parts : (first_reaching limit (running 1 (product_values a t)) ≡ None) × (first_reaching limit (numerators q (product_values a t)) ≡ None)
  parts = reach_parts limit (running 1 (product_values a t)) (numerators q (product_values a t)) closes.2

  q_small : q < limit
  q_small = common_below limit (product_values a t) room parts.0

  x_small : (j : ℕ) → j < length x → get_or x j 0 < limit
  x_small = sizes_small limit (numerators q (product_values a t)) parts.1

  den_at_most : d ≤ bounds.den
  den_at_most = le_of_dvd bounds.some (common_of (leg_prices a t) bounds.den (λ i l. each i (omega (arith, l, prices_count))))
    where
      prices_count : length (leg_prices a t) ≡ length a.caps
      prices_count = length-map (range_with_len 0 (length a.caps)) (λ i. at t.value (slack a i)) ∙ length-range_with_len 0 (length a.caps)

      each : (i : ℕ) → i < length a.caps → (at (leg_prices a t) i).den ∣ bounds.den
      each i l = subst (λ y. y.den ∣ bounds.den) (sym (made_at (λ i. at t.value (slack a i)) (length a.caps) i l)) (bounds.divides (slack a i) (omega arith) (omega arith))

  d_small : d < limit
  d_small = omega (arith, den_at_most, bounds.below)

  price_small : (i : ℕ) → i < length a.caps → get_or p i 0 < limit
  price_small i l =
      let k : (k : ℕ) × (W k ≡ W bounds.den *ᶠ at t.value (slack a i)) × (k < limit) = bounds.number (slack a i) (omega arith) (omega arith) (signs (slack a i) (omega arith)) in
      omega (arith, k.2, scaled_le d bounds.den (at t.value (slack a i)) (get_or p i 0) k.0 den_at_most (signs (slack a i) (omega arith)) (p_at a ok t kept kept.basis_below signs i l) k.1)

  cost_is : W (cost a d p) ≡ at t.value (right_side a) *ᶠ W d
  cost_is = cost_value a ok t kept kept.basis_below signs

  end_sign : IsNonNegative (at t.value (right_side a))
  end_sign = not_negative (at t.value (right_side a)) d (cost a d p) meet.prices.whole cost_is

  value_small : value_over a t d < limit
  value_small =
      let k : (k : ℕ) × (W k ≡ W bounds.den *ᶠ at t.value (right_side a)) × (k < limit) = bounds.number (right_side a) (omega arith) (omega arith) end_sign in
      omega (arith, k.2, meet.value_is, scaled_le d bounds.den (at t.value (right_side a)) (cost a d p) k.0 den_at_most end_sign (cost_is ∙ solve ring_F (at t.value (right_side a) ∷ W d ∷ []) (v0 ⊗ v1) (v1 ⊗ v0) refl) k.1)

  pub certifies : Certifies limit a (certificate a t)
  certifies =
      let best : IsOptimalAllocation a q x × IsOptimalPrices a d p = path_ends_optimal a ok t last in
      record {
        shape = record {
          allocation = length-map x (λ n. pos n) ∙ meet.allocation.shape;
          prices = length-map p (λ n. pos n) ∙ meet.prices.shape;
          q_size = (q, refl, q_small);
          x_sizes = each_small limit x x_small;
          den_size = (d, refl, d_small);
          p_sizes = each_small limit p (λ i l. price_small i (omega (arith, meet.prices.shape)));
          value_size = (value_over a t d, refl, value_small);
          some_q = meet.allocation.whole;
          some_den = meet.prices.whole;
        };
        meet = subst (λ ps. Meet a q (sizes (map (λ n. pos n) x)) d ps (value_over a t d)) (sym (sizes_back p)) (subst (λ xs. Meet a q xs d p (value_over a t d)) (sym (sizes_back x)) meet);
        best_allocation = subst (IsOptimalAllocation a q) (sym (sizes_back x)) best.0;
        best_prices = subst (IsOptimalPrices a d) (sym (sizes_back p)) best.1;
      }
