-- What the conditions after the shape say where none fails, and that none fails where an allocation and bid prices meet.
use Rattle.std.proofs.Common.{◌≡◌, ℕ, zero, suc, ◌+◌, ◌*◌, ◌<◌, ◌≤◌, ◌⊎◌, inl, inr, arith, refl, sym, ap, ◌∙◌, List, [], length, get_or}
use Rattle.std.proofs.Common.{Bool, true, false, cond, ◌&&◌, eqb, Option, Some, None, le-ltb, lt-ltb, eq-eqb}
use Rattle.std.proofs.lemmas.Bool.{ltb-true, ltb-false, eqb-true, false≢true}
use Rattle.std.proofs.lemmas.Option.{none-some}
use Rattle.nrm_lp.specs.Program.{ProgramValue, load, price_sum, cost}
use Rattle.nrm_lp.specs.Certified.{Meet}
use Rattle.nrm_dual.specs.declared.verdict.Verdict.{Verdict}
use Rattle.nrm_dual.specs.declared.verdict.Verdict.TheVariants.{Optimal, WrongProduct, WrongLeg, WrongValue}
use Rattle.nrm_dual.specs.Conditions.{least, or_product, or_leg, is_above_demand, is_above_capacity, is_priced_with_seats_left}
use Rattle.nrm_dual.specs.Conditions.{is_rejected_above_bid_price, is_accepted_below_bid_price, first_wrong}

pub both_true : (b c : Bool) → b ≡ true → c ≡ true → (b && c) ≡ true
both_true true c e f = f
both_true false c e f = absurd (false≢true e)

not_second : (b c : Bool) → (b && c) ≡ false → b ≡ true → c ≡ false
not_second true c e f = e
not_second false c e f = absurd (false≢true f)

not_both : (b c : Bool) → (b ≡ true → c ≡ false) → (b && c) ≡ false
not_both true c h = h refl
not_both false c h = refl

wrong_product : (j : ℕ) → WrongProduct j ≡ Optimal → ⊥
wrong_product j e = cc

wrong_leg : (i : ℕ) → WrongLeg i ≡ Optimal → ⊥
wrong_leg i e = cc

wrong_value : WrongValue ≡ Optimal → ⊥
wrong_value e = cc

-- ---- the least number at which a test holds
least_none : (test : ℕ → Bool) (k n : ℕ) → least test k n ≡ None → (i : ℕ) → k ≤ i → i < k + n → test i ≡ false
least_none test k zero e i l m = absurd (omega arith)
least_none test k (suc n) e i l m = go (test k) refl (least_none test (suc k) n) e
  where
    first_or_later : (k i : ℕ) → k ≤ i → (k ≡ i) ⊎ (suc k ≤ i)
    first_or_later k i l = grind arith

    pick : test k ≡ false → ((i : ℕ) → suc k ≤ i → i < suc k + n → test i ≡ false) → (k ≡ i) ⊎ (suc k ≤ i) → test i ≡ false
    pick f rest (inl q) = ap test (sym q) ∙ f
    pick f rest (inr h) = rest i h (omega arith)

    go : (b : Bool) → test k ≡ b → (least test (suc k) n ≡ None → (i : ℕ) → suc k ≤ i → i < suc k + n → test i ≡ false) → cond b (Some k) (least test (suc k) n) ≡ None → test i ≡ false
    go true f rest e = absurd (none-some k (sym e))
    go false f rest e = pick f (rest e) (first_or_later k i l)

none_least : (test : ℕ → Bool) (k n : ℕ) → ((i : ℕ) → k ≤ i → i < k + n → test i ≡ false) → least test k n ≡ None
none_least test k zero h = refl
none_least test k (suc n) h =
    ap (λ b. cond b (Some k) (least test (suc k) n)) (h k (omega arith) (omega arith))
    ∙ none_least test (suc k) n (λ i l m. h i (omega arith) (omega arith))

never : (test : ℕ → Bool) (n : ℕ) → least test 0 n ≡ None → (i : ℕ) → i < n → test i ≡ false
never test n e i l = least_none test 0 n e i (omega arith) (omega arith)

none_found : (test : ℕ → Bool) (n : ℕ) → ((i : ℕ) → i < n → test i ≡ false) → least test 0 n ≡ None
none_found test n h = none_least test 0 n (λ i k l. h i (omega arith))

product_out : (o : Option ℕ) (v : Verdict) → or_product o v ≡ Optimal → (o ≡ None) × (v ≡ Optimal)
product_out None v e = (refl, e)
product_out (Some j) v e = absurd (wrong_product j e)

leg_out : (o : Option ℕ) (v : Verdict) → or_leg o v ≡ Optimal → (o ≡ None) × (v ≡ Optimal)
leg_out None v e = (refl, e)
leg_out (Some i) v e = absurd (wrong_leg i e)

product_in : (o : Option ℕ) (v : Verdict) → o ≡ None → v ≡ Optimal → or_product o v ≡ Optimal
product_in o v e f = ap (λ o. or_product o v) e ∙ f

leg_in : (o : Option ℕ) (v : Verdict) → o ≡ None → v ≡ Optimal → or_leg o v ≡ Optimal
leg_in o v e f = ap (λ o. or_leg o v) e ∙ f

same_out : (b : Bool) → cond b Optimal WrongValue ≡ Optimal → b ≡ true
same_out true e = refl
same_out false e = absurd (wrong_value e)

-- ---- what the conditions after the shape say
pub record Holds (a : ProgramValue) (q : ℕ) (x : List ℕ) (d : ℕ) (p : List ℕ) (value : ℕ) : Type 0 where
  pub within : (j : ℕ) → j < length a.bounds → get_or x j 0 ≤ q * get_or a.bounds j 0
  pub seats : (i : ℕ) → i < length a.caps → load i a.legs x ≤ q * get_or a.caps i 0
  pub full : (i : ℕ) → i < length a.caps → 0 < get_or p i 0 → q * get_or a.caps i 0 ≤ load i a.legs x
  pub unmet : (j : ℕ) → j < length a.bounds → get_or x j 0 < q * get_or a.bounds j 0
      → d * get_or a.fares j 0 ≤ price_sum p (get_or a.legs j [])
  pub used : (j : ℕ) → j < length a.bounds → 0 < get_or x j 0 → price_sum p (get_or a.legs j []) ≤ d * get_or a.fares j 0
  pub value_is : value ≡ cost a d p

module _ (a : ProgramValue) (q : ℕ) (x : List ℕ) (d : ℕ) (p : List ℕ) (value : ℕ) where
  abbrev last : Verdict
  last = cond (eqb value (cost a d p)) Optimal WrongValue

  abbrev from_used : Verdict
  from_used = or_product (least (is_accepted_below_bid_price a x d p) 0 (length a.bounds)) last

  abbrev from_unmet : Verdict
  from_unmet = or_product (least (is_rejected_above_bid_price a q x d p) 0 (length a.bounds)) from_used

  abbrev from_full : Verdict
  from_full = or_leg (least (is_priced_with_seats_left a q x p) 0 (length a.caps)) from_unmet

  abbrev from_seats : Verdict
  from_seats = or_leg (least (is_above_capacity a q x) 0 (length a.caps)) from_full

  pub conditions_hold : first_wrong a q x d p value ≡ Optimal → Holds a q x d p value
  conditions_hold e =
      let e1 : (least (is_above_demand a q x) 0 (length a.bounds) ≡ None) × (from_seats ≡ Optimal) = product_out _ _ e in
      let e2 : (least (is_above_capacity a q x) 0 (length a.caps) ≡ None) × (from_full ≡ Optimal) = leg_out _ _ e1.1 in
      let e3 : (least (is_priced_with_seats_left a q x p) 0 (length a.caps) ≡ None) × (from_unmet ≡ Optimal) = leg_out _ _ e2.1 in
      let e4 : (least (is_rejected_above_bid_price a q x d p) 0 (length a.bounds) ≡ None) × (from_used ≡ Optimal) = product_out _ _ e3.1 in
      let e5 : (least (is_accepted_below_bid_price a x d p) 0 (length a.bounds) ≡ None) × (last ≡ Optimal) = product_out _ _ e4.1 in
      record {
        within = λ j l. ltb-false (q * get_or a.bounds j 0) (get_or x j 0) (never (is_above_demand a q x) (length a.bounds) e1.0 j l);
        seats = λ i l. ltb-false (q * get_or a.caps i 0) (load i a.legs x) (never (is_above_capacity a q x) (length a.caps) e2.0 i l);
        full = λ i l h. ltb-false (load i a.legs x) (q * get_or a.caps i 0) (not_second _ _ (never (is_priced_with_seats_left a q x p) (length a.caps) e3.0 i l) (lt-ltb 0 (get_or p i 0) h));
        unmet = λ j l h. ltb-false (price_sum p (get_or a.legs j [])) (d * get_or a.fares j 0) (not_second _ _ (never (is_rejected_above_bid_price a q x d p) (length a.bounds) e4.0 j l) (lt-ltb (get_or x j 0) (q * get_or a.bounds j 0) h));
        used = λ j l h. ltb-false (d * get_or a.fares j 0) (price_sum p (get_or a.legs j [])) (not_second _ _ (never (is_accepted_below_bid_price a x d p) (length a.bounds) e5.0 j l) (lt-ltb 0 (get_or x j 0) h));
        value_is = eqb-true value (cost a d p) (same_out (eqb value (cost a d p)) e5.1);
      }

  no_condition_fails : Holds a q x d p value → first_wrong a q x d p value ≡ Optimal
  no_condition_fails h =
      product_in _ _ (none_found (is_above_demand a q x) (length a.bounds) (λ j l. le-ltb (q * get_or a.bounds j 0) (get_or x j 0) (h.within j l)))
      (leg_in _ _ (none_found (is_above_capacity a q x) (length a.caps) (λ i l. le-ltb (q * get_or a.caps i 0) (load i a.legs x) (h.seats i l)))
      (leg_in _ _ (none_found (is_priced_with_seats_left a q x p) (length a.caps) (λ i l. not_both _ _ (λ e. le-ltb (load i a.legs x) (q * get_or a.caps i 0) (h.full i l (ltb-true 0 (get_or p i 0) e)))))
      (product_in _ _ (none_found (is_rejected_above_bid_price a q x d p) (length a.bounds) (λ j l. not_both _ _ (λ e. le-ltb (price_sum p (get_or a.legs j [])) (d * get_or a.fares j 0) (h.unmet j l (ltb-true (get_or x j 0) (q * get_or a.bounds j 0) e)))))
      (product_in _ _ (none_found (is_accepted_below_bid_price a x d p) (length a.bounds) (λ j l. not_both _ _ (λ e. le-ltb (d * get_or a.fares j 0) (price_sum p (get_or a.legs j [])) (h.used j l (ltb-true 0 (get_or x j 0) e)))))
      (ap (λ b. cond b Optimal WrongValue) (eq-eqb value (cost a d p) h.value_is))))))

  -- an allocation and prices that meet fail none of them
  pub meet_passes : Meet a q x d p value → first_wrong a q x d p value ≡ Optimal
  meet_passes m =
      no_condition_fails (record {
        within = λ j l. m.allocation.within j (omega (arith, m.allocation.shape));
        seats = m.allocation.seats;
        full = λ i l h. omega (arith, m.full i l h);
        unmet = m.unmet;
        used = m.used;
        value_is = m.value_is;
      })
