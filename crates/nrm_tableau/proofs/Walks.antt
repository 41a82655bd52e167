-- Walks over the words of a set of rows.
use Rattle.std.proofs.Common.{min, length, ◌≡◌, ℕ, ◌+◌, ◌-◌, ◌*◌, ◌/◌, ◌%◌, ◌^◌, ◌<◌, ◌≤◌, suc, inl, inr, arith, refl, sym, ap, ap₂, ◌∙◌, subst, List, get_or, w64, bit_and, Option, Some, None, MatchOption}
use Rattle.std.specs.Int.{bit_at, bit_not, leading_zeros}
use Rattle.std.proofs.Math.Nat.{le-div_iff_mul-le}
use Rattle.std.proofs.lemmas.Bool.{cases_lt}
use Rattle.std.proofs.lemmas.Nat.{and_mask, leading_top, one_shl, pow_pos, shr_below, shr_split}
use Rattle.std.proofs.lemmas.Nat.Bits.{bit_at-lt, bit_at-zero, bit_at_above, bit_at_and, bit_at_cat_low, bit_at_clear_other, bit_at_clear_same, bit_at_mask_below, bit_at_mask_inside, ones_shl}
use Rattle.std.proofs.lemmas.List.{get_or_past}
use Rattle.nrm_tableau.specs.RowSets.{row_bit}
use Rattle.nrm_tableau.specs.Inner.Walks.{HasNone, IsDownwards, IsFirst, IsLast, IsUpwards}
use Rattle.nrm_tableau.proofs.RowBits.{one_nought, same_or_not}

-- ---- the highest bit of a word
odd_one : (q : ℕ) → q < 2 → 1 ≤ q → q % 2 ≡ 1
odd_one q l m = omega arith

top_bit : (n j : ℕ) → 2 ^ j ≤ n → n < 2 ^ suc j → bit_at n j ≡ 1
top_bit n j low high =
    odd_one (n / 2 ^ j) (shr_below n 1 j (subst (λ k. n < 2 ^ k) suc_is high)) ((le-div_iff_mul-le (pow_pos j)).1 (omega (arith, low)))
  where
    suc_is : suc j ≡ 1 + j
    suc_is = omega arith

pub highest_there : (n : ℕ) → 0 < n → n < 2 ^ 64 → bit_at n (63 - leading_zeros w64 n) ≡ 1
highest_there n h l =
    let top = leading_top 64 n h l in
    let same : 63 - leading_zeros w64 n ≡ top.0 = omega (arith, top.1) in
    ap (bit_at n) same ∙ top_bit n top.0 top.2 top.3

pub none_above_highest : (n : ℕ) → 0 < n → n < 2 ^ 64 → (k : ℕ) → 63 - leading_zeros w64 n < k → bit_at n k ≡ 0
none_above_highest n h l k m =
    let top = leading_top 64 n h l in
    bit_at_above n (suc top.0) k top.3 (omega (arith, top.1, m))

-- ---- bits of a part of a word
low_part : (n s k : ℕ) → k < s → bit_at n k ≡ bit_at (n % 2 ^ s) k
low_part n s k l = ap (λ m. bit_at m k) (sym (shr_split n s)) ∙ bit_at_cat_low (n / 2 ^ s) s (n % 2 ^ s) k l

pub low_mask : (n k : ℕ) → k < 64 → bit_and n (1 * 2 ^ k % 18446744073709551616 - 1) ≡ n % 2 ^ k
low_mask n k l = ap (λ m. bit_and n (m - 1)) (one_shl k 64 l) ∙ and_mask n k

-- ---- rows by their words
bit_in : (ws : List ℕ) (i k r : ℕ) → k < 64 → r ≡ i * 64 + k → row_bit ws r ≡ bit_at (get_or ws i 0) k
bit_in ws i k r l e =
    let place : r / 64 ≡ i = omega (arith, e) in
    let rest : r % 64 ≡ k = omega (arith, e) in
    ap₂ (λ a b. bit_at (get_or ws a 0) b) place rest

module _ (ws : List ℕ) where
  -- rows that follow on others
  pub none_to : (from mid end : ℕ) → HasNone ws from mid → end ≤ mid → HasNone ws from end
  none_to from mid end h e r l m = h r l (omega (arith, e, m))

  pub none_on : (from mid end : ℕ) → HasNone ws from mid → HasNone ws mid end → HasNone ws from end
  none_on from mid end h g r l m = elim (cases_lt r mid) [ inl a ↦ h r l a | inr a ↦ g r a m ]

  pub first_after : (from mid end : ℕ) (o : Option ℕ) → HasNone ws from mid → from ≤ mid → MatchOption o (HasNone ws mid end) (IsFirst ws mid end) → MatchOption o (HasNone ws from end) (IsFirst ws from end)
  first_after from mid end None h l m = none_on from mid end h m
  first_after from mid end (Some row) h l m = record {
    not_below = omega (arith, m.not_below, l);
    before = m.before;
    there = m.there;
    none = none_on from mid row h m.none;
  }

  pub last_ahead : (mid end : ℕ) (o : Option ℕ) → HasNone ws mid end → mid ≤ end → MatchOption o (HasNone ws 0 mid) (IsLast ws mid) → MatchOption o (HasNone ws 0 end) (IsLast ws end)
  last_ahead mid end None h l m = none_on 0 mid end m h
  last_ahead mid end (Some row) h l m = record {
    before = omega (arith, m.before, l);
    there = m.there;
    none = none_on (row + 1) mid end m.none h;
  }

  -- ---- a walk upwards
  high_mask : (n s k : ℕ) → s < 64 → k < 64 → s ≤ k → bit_at (bit_and n (18446744073709551615 * 2 ^ s % 18446744073709551616)) k ≡ bit_at n k
  high_mask n s k l m h =
      ap (λ x. bit_at (bit_and n x) k) (ones_shl 64 s (omega arith)) ∙ bit_at_and n (2 ^ 64 - 2 ^ s) k
      ∙ ap (min (bit_at n k)) (bit_at_mask_inside s 64 k h m) ∙ omega (arith, bit_at-lt n k)

  under_mask : (n s k : ℕ) → s < 64 → k < s → bit_at (bit_and n (18446744073709551615 * 2 ^ s % 18446744073709551616)) k ≡ 0
  under_mask n s k l h =
      ap (λ x. bit_at (bit_and n x) k) (ones_shl 64 s (omega arith)) ∙ bit_at_and n (2 ^ 64 - 2 ^ s) k
      ∙ ap (min (bit_at n k)) (bit_at_mask_below s 64 k h) ∙ omega arith

  pub up_from : (from place w : ℕ) → from < 2 ^ 16 → length ws ≤ 10 → place ≡ from / 64 → w ≡ get_or ws place 0 → IsUpwards ws place (bit_and w (18446744073709551615 * 2 ^ (from % 64) % 18446744073709551616)) from
  up_from from place w f few at is = record {
    few = few;
    place_within = omega (arith, at);
    here = omega (arith, at);
    near = omega (arith, at);
    left = λ k l h. high_mask w (from % 64) k (omega arith) l (omega (arith, at, h)) ∙ ap (λ n. bit_at n k) is ∙ sym (bit_in ws place k (64 * place + k) l (omega arith));
    done = λ k h. under_mask w (from % 64) k (omega arith) (omega (arith, at, h));
  }

  module _ (place rest from : ℕ) (walk : IsUpwards ws place rest from) where
    pub none_in_word : rest ≡ 0 → HasNone ws from (64 * (place + 1))
    none_in_word z r l m =
        let same : r ≡ 64 * place + (r - 64 * place) = omega (arith, walk.here, l) in
        ap (row_bit ws) same ∙ sym (walk.left (r - 64 * place) (omega (arith, walk.here, l, m)) (omega (arith, walk.here, l))) ∙ ap (λ n. bit_at n (r - 64 * place)) z ∙ bit_at-zero (r - 64 * place)

    pub next_word : place + 1 < length ws → IsUpwards ws (place + 1) (get_or ws (place + 1) 0) ((place + 1) * 64)
    next_word l = record {
      few = walk.few;
      place_within = omega (arith, walk.few, l);
      here = omega arith;
      near = omega arith;
      left = λ k m h. sym (bit_in ws (place + 1) k (64 * (place + 1) + k) m (omega arith));
      done = λ k h. absurd (omega (arith, h));
    }

    module _ (t : ℕ) (within : t < 64) (there : bit_at rest t ≡ 1) (below : (k : ℕ) → k < t → bit_at rest k ≡ 0) where
      come : from ≤ 64 * place + t
      come = elim (cases_lt (64 * place + t) from) [ inl a ↦ absurd (one_nought there (walk.done t a)) | inr a ↦ a ]

      in_set : row_bit ws (place * 64 + t) ≡ 1
      in_set = let same : place * 64 + t ≡ 64 * place + t = omega arith in ap (row_bit ws) same ∙ sym (walk.left t within come) ∙ there

      inside : place < length ws
      inside = elim (cases_lt place (length ws)) [
        | inl a ↦ a
        | inr a ↦ absurd (one_nought in_set (bit_in ws place t (place * 64 + t) within refl ∙ ap (λ n. bit_at n t) (get_or_past ws place 0 a) ∙ bit_at-zero t))
      ]

      pub taken_first : IsFirst ws from (64 * length ws) (place * 64 + t)
      taken_first = record {
        not_below = omega (arith, come);
        before = omega (arith, inside, within);
        there = in_set;
        none = λ r l m.
            let same : r ≡ 64 * place + (r - 64 * place) = omega (arith, walk.here, l) in
            ap (row_bit ws) same ∙ sym (walk.left (r - 64 * place) (omega (arith, within, m)) (omega (arith, walk.here, l))) ∙ below (r - 64 * place) (omega (arith, walk.here, l, m));
      }

      pub taken_on : IsUpwards ws place (bit_and rest (bit_not w64 (1 * 2 ^ t % 18446744073709551616))) (place * 64 + t + 1)
      taken_on = record {
        few = walk.few;
        place_within = walk.place_within;
        here = omega arith;
        near = omega (arith, within);
        left = λ k l h. bit_at_clear_other w64 rest t within k l (λ e. omega (arith, h, e)) ∙ walk.left k l (omega (arith, come, h));
        done = λ k h. elim (same_or_not k t) [
          | inl e ↦ ap (bit_at (bit_and rest (bit_not w64 (1 * 2 ^ t % 18446744073709551616)))) e ∙ bit_at_clear_same w64 rest t within
          | inr d ↦ bit_at_clear_other w64 rest t within k (omega (arith, h, within)) d ∙ below k (omega (arith, h, d))
        ];
      }

  -- ---- a walk downwards
  pub down_from : (end place w m : ℕ) → length ws ≤ 10 → end ≤ 64 * length ws → place ≡ end / 64 → w ≡ get_or ws place 0 → m ≡ w % 2 ^ (end % 64) → IsDownwards ws place m end
  down_from end place w m few most at is part = record {
    few = few;
    within = omega (arith, at, most);
    here = omega (arith, at);
    near = omega (arith, at);
    left = λ k h. ap (λ n. bit_at n k) part ∙ sym (low_part w (end % 64) k (omega (arith, at, h))) ∙ ap (λ n. bit_at n k) is ∙ sym (bit_in ws place k (64 * place + k) (omega (arith, at, h)) (omega arith));
    done = λ k l h. ap (λ n. bit_at n k) part ∙ bit_at_above (w % 2 ^ (end % 64)) (end % 64) k (omega (arith, pow_pos (end % 64))) (omega (arith, at, h));
  }

  module _ (place rest end : ℕ) (walk : IsDownwards ws place rest end) where
    pub none_above_word : rest ≡ 0 → HasNone ws (64 * place) end
    none_above_word z r l m =
        let same : r ≡ 64 * place + (r - 64 * place) = omega (arith, l) in
        ap (row_bit ws) same ∙ sym (walk.left (r - 64 * place) (omega (arith, l, m))) ∙ ap (λ n. bit_at n (r - 64 * place)) z ∙ bit_at-zero (r - 64 * place)

    pub previous_word : 0 < place → IsDownwards ws (place - 1) (get_or ws (place - 1) 0) (place * 64)
    previous_word l = record {
      few = walk.few;
      within = omega (arith, walk.within);
      here = omega arith;
      near = omega (arith, l);
      left = λ k h. sym (bit_in ws (place - 1) k (64 * (place - 1) + k) (omega (arith, l, h)) (omega arith));
      done = λ k m h. absurd (omega (arith, l, m, h));
    }

    module _ (t : ℕ) (within : t < 64) (there : bit_at rest t ≡ 1) (above : (k : ℕ) → t < k → bit_at rest k ≡ 0) where
      short : 64 * place + t < end
      short = elim (cases_lt (64 * place + t) end) [ inl a ↦ a | inr a ↦ absurd (one_nought there (walk.done t within a)) ]

      pub taken_last : IsLast ws end (place * 64 + t)
      taken_last = record {
        before = omega (arith, short);
        there = let same : place * 64 + t ≡ 64 * place + t = omega arith in ap (row_bit ws) same ∙ sym (walk.left t short) ∙ there;
        none = λ r l m.
            let same : r ≡ 64 * place + (r - 64 * place) = omega (arith, l) in
            ap (row_bit ws) same ∙ sym (walk.left (r - 64 * place) (omega (arith, l, m))) ∙ above (r - 64 * place) (omega (arith, l));
      }

      pub taken_back : IsDownwards ws place (bit_and rest (bit_not w64 (1 * 2 ^ t % 18446744073709551616))) (place * 64 + t)
      taken_back = record {
        few = walk.few;
        within = walk.within;
        here = omega arith;
        near = omega (arith, within);
        left = λ k h. bit_at_clear_other w64 rest t within k (omega (arith, within, h)) (λ e. omega (arith, h, e)) ∙ walk.left k (omega (arith, short, h));
        done = λ k l h. elim (same_or_not k t) [
          | inl e ↦ ap (bit_at (bit_and rest (bit_not w64 (1 * 2 ^ t % 18446744073709551616)))) e ∙ bit_at_clear_same w64 rest t within
          | inr d ↦ bit_at_clear_other w64 rest t within k l d ∙ above k (omega (arith, h, d))
        ];
      }
