-- A certificate at which no condition fails shows what it should, and one that shows it fails none.
use Rattle.std.proofs.Common.{Option, Some, None, ◌≢◌, ◌≡◌, ℕ, ◌*◌, ◌<◌, ℤ, pos, negsuc, nat_abs, arith, refl, ap, ◌∙◌, List, [], ◌∷◌}
use Rattle.std.proofs.Common.{length, All, Bool, true, false, cond, ◌&&◌, eqb, ltb, lt-ltb, eq-eqb}
use Rattle.std.proofs.lemmas.Bool.{ltb-true, eqb-true, false≢true, and_parts}
use Rattle.std.proofs.lemmas.List.{length-map}
use Rattle.std.proofs.lemmas.List.Elements.{All-nil, All-cons, All-head, All-tail}
use Rattle.nrm_lp.specs.declared.certificate.Certificate.{Certificate}
use Rattle.nrm_lp.specs.Program.{ProgramValue, IsProgram, IsAllocation, IsPrices, gain, cost}
use Rattle.nrm_lp.specs.Shape.{HasShape, IsNumber}
use Rattle.nrm_lp.specs.Certified.{Meet, Certifies, sizes}
use Rattle.nrm_lp.proofs.Duality.{optimal_allocation, optimal_prices}
use Rattle.nrm_lp.proofs.Audited.{optimal_certify}
use Rattle.nrm_lp.proofs.Slackness.{meets_if, product_tight, leg_tight}
use Rattle.nrm_dual.specs.declared.verdict.Verdict.{Verdict}
use Rattle.nrm_dual.specs.declared.verdict.Verdict.TheVariants.{Optimal, WrongShape, WrongValue}
use Rattle.nrm_dual.specs.Conditions.{is_above_demand, is_above_capacity, is_priced_with_seats_left, is_rejected_above_bid_price}
use Rattle.nrm_dual.specs.Conditions.{is_accepted_below_bid_price, least, is_small, are_small, has_shape, or_product, or_leg, first_wrong}
use Rattle.nrm_dual.specs.Conditions.{first_failing}
use Rattle.nrm_dual.specs.Laws.{OptimalPasses}
use Rattle.nrm_dual.proofs.NoneFails.{Holds, conditions_hold, meet_passes, both_true}

wrong_shape : WrongShape ≡ Optimal → ⊥
wrong_shape e = cc

-- ---- numbers below the limit
pub number_small : (limit : ℕ) (n : ℤ) → IsNumber limit n → is_small limit n ≡ true
number_small limit n h = ap (is_small limit) h.1 ∙ lt-ltb h.0 limit h.2

pub small_number : (limit : ℕ) (n : ℤ) → is_small limit n ≡ true → IsNumber limit n
small_number limit (pos k) e = (k, refl, ltb-true k limit e)
small_number limit (negsuc k) e = absurd (false≢true e)

pub numbers_small : (limit : ℕ) (ns : List ℤ) → All (IsNumber limit) ns → are_small limit ns ≡ true
numbers_small limit [] h = refl
numbers_small limit (n ∷ ns) h =
    both_true (is_small limit n) (are_small limit ns) (number_small limit n (All-head (IsNumber limit) n ns h)) (numbers_small limit ns (All-tail (IsNumber limit) n ns h))

pub small_numbers : (limit : ℕ) (ns : List ℤ) → are_small limit ns ≡ true → All (IsNumber limit) ns
small_numbers limit [] e = All-nil (IsNumber limit)
small_numbers limit (n ∷ ns) e =
    let both : (is_small limit n ≡ true) × (are_small limit ns ≡ true) = and_parts (is_small limit n) (are_small limit ns) e in
    All-cons (IsNumber limit) n ns (small_number limit n both.0) (small_numbers limit ns both.1)

-- ---- the test of the shape
module _ (limit : ℕ) (a : ProgramValue) (c : Certificate) where
  abbrev from_sizes : Bool
  from_sizes = is_small limit c.q && (are_small limit c.x && (is_small limit c.den && (are_small limit c.p && is_small limit c.value)))

  pub shape_out : has_shape limit a c ≡ true → HasShape limit (length a.bounds) (length a.caps) c
  shape_out e =
      let e1 : (eqb (length c.x) (length a.bounds) ≡ true) × ((eqb (length c.p) (length a.caps) && (ltb 0 (nat_abs c.q) && (ltb 0 (nat_abs c.den) && from_sizes))) ≡ true) = and_parts _ _ e in
      let e2 : (eqb (length c.p) (length a.caps) ≡ true) × ((ltb 0 (nat_abs c.q) && (ltb 0 (nat_abs c.den) && from_sizes)) ≡ true) = and_parts _ _ e1.1 in
      let e3 : (ltb 0 (nat_abs c.q) ≡ true) × ((ltb 0 (nat_abs c.den) && from_sizes) ≡ true) = and_parts _ _ e2.1 in
      let e4 : (ltb 0 (nat_abs c.den) ≡ true) × (from_sizes ≡ true) = and_parts _ _ e3.1 in
      let e5 : (is_small limit c.q ≡ true) × ((are_small limit c.x && (is_small limit c.den && (are_small limit c.p && is_small limit c.value))) ≡ true) = and_parts _ _ e4.1 in
      let e6 : (are_small limit c.x ≡ true) × ((is_small limit c.den && (are_small limit c.p && is_small limit c.value)) ≡ true) = and_parts _ _ e5.1 in
      let e7 : (is_small limit c.den ≡ true) × ((are_small limit c.p && is_small limit c.value) ≡ true) = and_parts _ _ e6.1 in
      let e8 : (are_small limit c.p ≡ true) × (is_small limit c.value ≡ true) = and_parts _ _ e7.1 in
      record {
        allocation = eqb-true (length c.x) (length a.bounds) e1.0;
        prices = eqb-true (length c.p) (length a.caps) e2.0;
        some_q = ltb-true 0 (nat_abs c.q) e3.0;
        some_den = ltb-true 0 (nat_abs c.den) e4.0;
        q_size = small_number limit c.q e5.0;
        x_sizes = small_numbers limit c.x e6.0;
        den_size = small_number limit c.den e7.0;
        p_sizes = small_numbers limit c.p e8.0;
        value_size = small_number limit c.value e8.1;
      }

  pub shape_in : HasShape limit (length a.bounds) (length a.caps) c → has_shape limit a c ≡ true
  shape_in s =
      both_true _ _ (eq-eqb _ _ s.allocation)
      (both_true _ _ (eq-eqb _ _ s.prices)
      (both_true _ _ (lt-ltb 0 (nat_abs c.q) s.some_q)
      (both_true _ _ (lt-ltb 0 (nat_abs c.den) s.some_den)
      (both_true _ _ (number_small limit c.q s.q_size)
      (both_true _ _ (numbers_small limit c.x s.x_sizes)
      (both_true _ _ (number_small limit c.den s.den_size)
      (both_true _ _ (numbers_small limit c.p s.p_sizes) (number_small limit c.value s.value_size))))))))

-- ---- no other condition answers as the shape does
other_product : (o : Option ℕ) (v : Verdict) → v ≢ WrongShape → or_product o v ≢ WrongShape
other_product None v other = other
other_product (Some j) v other = λ e. cc

other_leg : (o : Option ℕ) (v : Verdict) → v ≢ WrongShape → or_leg o v ≢ WrongShape
other_leg None v other = other
other_leg (Some i) v other = λ e. cc

other_last : (b : Bool) → cond b Optimal WrongValue ≢ WrongShape
other_last true = λ e. cc
other_last false = λ e. cc

pub wrong_elsewhere : (a : ProgramValue) (q : ℕ) (x : List ℕ) (d : ℕ) (p : List ℕ) (value : ℕ) → first_wrong a q x d p value ≢ WrongShape
wrong_elsewhere a q x d p value =
    other_product (least (is_above_demand a q x) 0 (length a.bounds)) _
    (other_leg (least (is_above_capacity a q x) 0 (length a.caps)) _
    (other_leg (least (is_priced_with_seats_left a q x p) 0 (length a.caps)) _
    (other_product (least (is_rejected_above_bid_price a q x d p) 0 (length a.bounds)) _
    (other_product (least (is_accepted_below_bid_price a x d p) 0 (length a.bounds)) _ (other_last (eqb value (cost a d p)))))))

module _ (a : ProgramValue) (ok : IsProgram a) (q : ℕ) (x : List ℕ) (d : ℕ) (p : List ℕ) (value : ℕ) (h : Holds a q x d p value) (some_q : 0 < q) (some_d : 0 < d) (products : length x ≡ length a.bounds) (legs : length p ≡ length a.caps) where
  pub allocation : IsAllocation a q x
  allocation = record { whole = omega (arith, some_q); shape = products; within = λ j l. h.within j (omega (arith, products)); seats = h.seats }

  pub prices : IsPrices a d p
  prices = record { whole = omega (arith, some_d); shape = legs }

  pub meeting : gain a x * d ≡ cost a d p * q
  meeting =
      meets_if a q d x p ok allocation prices
      (λ j l. product_tight a q d x p ok allocation prices j l (h.unmet j (omega (arith, products))) (h.used j (omega (arith, products))))
      (λ k l. leg_tight a q d x p ok allocation prices k (λ m. omega (arith, h.seats k l, h.full k l m)))

  pub they_meet : Meet a q x d p value
  they_meet = record {
    allocation = allocation;
    prices = prices;
    full = λ i l m. omega (arith, h.seats i l, h.full i l m);
    unmet = h.unmet;
    used = h.used;
    value_is = h.value_is;
    worth = ap (λ v. v * q) h.value_is ∙ omega (arith, meeting);
  }

pub passing_certifies : (limit : ℕ) (a : ProgramValue) → IsProgram a → (c : Certificate) → first_failing limit a c ≡ Optimal
    → Certifies limit a c
passing_certifies limit a ok c e = go (has_shape limit a c) refl e
  where
    go : (b : Bool) → has_shape limit a c ≡ b → cond b (first_wrong a (nat_abs c.q) (sizes c.x) (nat_abs c.den) (sizes c.p) (nat_abs c.value)) WrongShape ≡ Optimal → Certifies limit a c
    go false f e = absurd (wrong_shape e)
    go true f e =
        let s : HasShape limit (length a.bounds) (length a.caps) c = shape_out limit a c f in
        let h : Holds a (nat_abs c.q) (sizes c.x) (nat_abs c.den) (sizes c.p) (nat_abs c.value) = conditions_hold a (nat_abs c.q) (sizes c.x) (nat_abs c.den) (sizes c.p) (nat_abs c.value) e in
        let m : Meet a (nat_abs c.q) (sizes c.x) (nat_abs c.den) (sizes c.p) (nat_abs c.value) = they_meet a ok _ _ _ _ _ h s.some_q s.some_den (length-map c.x (λ n. nat_abs n) ∙ s.allocation) (length-map c.p (λ n. nat_abs n) ∙ s.prices) in
        let tied : gain a (sizes c.x) * nat_abs c.den ≡ cost a (nat_abs c.den) (sizes c.p) * nat_abs c.q = meeting a ok _ _ _ _ _ h s.some_q s.some_den m.allocation.shape m.prices.shape in
        record {
          shape = s;
          meet = m;
          best_allocation = optimal_allocation a (nat_abs c.q) (nat_abs c.den) (sizes c.x) (sizes c.p) ok m.allocation m.prices tied;
          best_prices = optimal_prices a (nat_abs c.q) (nat_abs c.den) (sizes c.x) (sizes c.p) ok m.allocation m.prices tied;
        }

pub certified_passes : (limit : ℕ) (a : ProgramValue) (c : Certificate) → Certifies limit a c → first_failing limit a c ≡ Optimal
certified_passes limit a c h =
    ap (λ b. cond b (first_wrong a (nat_abs c.q) (sizes c.x) (nat_abs c.den) (sizes c.p) (nat_abs c.value)) WrongShape) (shape_in limit a c h.shape)
    ∙ meet_passes a (nat_abs c.q) (sizes c.x) (nat_abs c.den) (sizes c.p) (nat_abs c.value) h.meet

pub optimal_passes : OptimalPasses
optimal_passes limit a ok n t closes c shape best least value = certified_passes limit a c (optimal_certify limit a ok n t closes c shape best least value)
