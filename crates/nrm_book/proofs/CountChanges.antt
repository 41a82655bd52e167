-- The counts of seats sold: a change of one and of several, and what it makes of those of a list of bookings.
use Rattle.std.proofs.Common.{ℕ, ◌≡◌, ◌≢◌, ◌∙◌, ◌+◌, ◌-◌, ◌<◌, ◌≤◌, ◌||◌, All, AllPairs, Bool, true, false, cond, eqb, List, [], ◌∷◌, length, get_or, map, replicate, take, set, suc, zero, zero-add, inl, inr, refl, sym, ap, subst, arith}
use Rattle.std.specs.List.{list_any, range_with_len, slice_index}
use Rattle.std.proofs.lemmas.Bool.{cases_Bool, ne_eqb}
use Rattle.std.proofs.lemmas.Bool.Decides.{nat_tests}
use Rattle.std.proofs.lemmas.List.{get_or-set_other, length-set, take_all}
use Rattle.std.proofs.lemmas.List.Elements.{All-head, All-tail}
use Rattle.std.proofs.lemmas.List.FromFn.{get_or-map-range_with_len}
use Rattle.std.proofs.lemmas.List.Sums.{fold_more}
use Rattle.nrm_model.specs.Inventory.{Inventory, legs_of, uses_leg}
use Rattle.nrm_book.specs.declared.booking.Booking.{Booking}
use Rattle.nrm_book.specs.Bookings.{sold_of, sold_on}
use Rattle.nrm_book.specs.Seats.{CanFall, CanRise, changed_all, changed_at}

-- ---- count by count
pub rise-apart : (party : ℕ) (counts : List ℕ) (i other : ℕ) → other ≢ i → CanRise counts other party → CanRise (changed_at (λ sold. sold + party) counts i) other party
rise-apart party counts i other apart can =
    let same = get_or-set_other counts i other (slice_index counts i + party) 0 apart in
    record {
      there = omega (arith, can.there, length-set counts i (slice_index counts i + party));
      fits = omega (arith, can.fits, same);
    }

pub fall-apart : (party : ℕ) (counts : List ℕ) (i other : ℕ) → other ≢ i → CanFall counts other party → CanFall (changed_at (λ sold. sold - party) counts i) other party
fall-apart party counts i other apart can =
    let same = get_or-set_other counts i other (slice_index counts i - party) 0 apart in
    record {
      there = omega (arith, can.there, length-set counts i (slice_index counts i - party));
      sold = omega (arith, can.sold, same);
    }

module _ (change : ℕ → ℕ) (Can : List ℕ → ℕ → Type 0) (apart : (counts : List ℕ) (i other : ℕ) → other ≢ i → Can counts other → Can (changed_at change counts i) other) where
  -- the counts so far are changed, and those to come can be
  pub record Changes (counts now : List ℕ) (legs : List ℕ) (k : ℕ) : Type 0 where
    pub done : now ≡ changed_all change counts (take k legs)
    pub to_come : (m : ℕ) → k ≤ m → m < length legs → Can now (get_or legs m 0)

  pub none-yet : (counts : List ℕ) (legs : List ℕ) → All (Can counts) legs → Changes counts counts legs 0
  none-yet counts legs can = record {
    done = refl;
    to_come = λ m low high. can m 0 high;
  }

  pub one_more : (counts now next : List ℕ) (legs : List ℕ) (k : ℕ) → AllPairs (λ a b. a ≢ b) legs → k < length legs → Changes counts now legs k → next ≡ changed_at change now (get_or legs k 0) → Changes counts next legs (k + 1)
  one_more counts now next legs k distinct short so_far is = record {
    done = is ∙ ap (λ (s : List ℕ). changed_at change s (get_or legs k 0)) so_far.done ∙ sym (fold_more (changed_at change) counts legs k 0 short);
    to_come = λ m low high.
        let other : get_or legs m 0 ≢ get_or legs k 0 = λ same. distinct k m 0 (omega arith) high (sym same) in
        subst (λ (s : List ℕ). Can s (get_or legs m 0)) (sym is) (apart now (get_or legs k 0) (get_or legs m 0) other (so_far.to_come m (omega arith) high));
  }

  pub all-done : (counts now : List ℕ) (legs : List ℕ) (k : ℕ) → Changes counts now legs k → length legs ≤ k → now ≡ changed_all change counts legs
  all-done counts now legs k so_far all = so_far.done ∙ ap (changed_all change counts) (take_all k legs all)

-- ---- all counts of a list of bookings
map-past : (f g : ℕ → ℕ) (i start n : ℕ) → ((j : ℕ) → j ≢ i → f j ≡ g j) → i < start → map f (range_with_len start n) ≡ map g (range_with_len start n)
map-past f g i start zero same low = refl
map-past f g i start (suc n) same low =
    let rest = map-past f g i (start + 1) n same (omega arith) in
    let first = same start (λ e. omega arith) in
    λ k. first k ∷ rest k

set-range : (f g : ℕ → ℕ) (i k start n : ℕ) → ((j : ℕ) → j ≢ i → f j ≡ g j) → start + k ≡ i → k < n → set (map f (range_with_len start n)) k (g i) ≡ map g (range_with_len start n)
set-range f g i k start zero same at short = absurd (omega arith)
set-range f g i zero start (suc n) same at short =
    let here : i ≡ start = omega arith in
    let rest = map-past f g i (start + 1) n same (omega arith) in
    λ k. g (here k) ∷ rest k
set-range f g i (suc k) start (suc n) same at short =
    let rest = set-range f g i k (start + 1) n same (omega arith) (omega arith) in
    let first = same start (λ e. omega arith) in
    λ m. first m ∷ rest m

or-swap : (a b c : Bool) → ((a || b) || c) ≡ (b || (a || c))
or-swap true true c = refl
or-swap true false c = refl
or-swap false b c = refl

or-none : (b : Bool) → (b || false) ≡ b
or-none true = refl
or-none false = refl

-- that of a product
pub one-product : (before after : List Booking) (change : ℕ → ℕ) (j n : ℕ) → j < n → ((x : ℕ) → x ≢ j → sold_of before x ≡ sold_of after x) → change (sold_of before j) ≡ sold_of after j
    → changed_at change (map (sold_of before) (range_with_len 0 n)) j ≡ map (sold_of after) (range_with_len 0 n)
one-product before after change j n short only turned =
    let held : slice_index (map (sold_of before) (range_with_len 0 n)) j ≡ sold_of before j = get_or-map-range_with_len (sold_of before) 0 n j j 0 short (zero-add j) in
    ap (set (map (sold_of before) (range_with_len 0 n)) j) (ap change held ∙ turned) ∙ set-range (sold_of before) (sold_of after) j j 0 n only (zero-add j) short

module _ (inventory : Inventory) (before after : List Booking) (change : ℕ → ℕ) (j : ℕ) where
  -- those legs that have it done have the count after it, the others that before
  abbrev sum_mixed : (ℕ → Bool) → ℕ → ℕ
  sum_mixed done i = cond (done i) (sold_on inventory after i) (sold_on inventory before i)

  abbrev mixed : (ℕ → Bool) → List ℕ
  mixed done = map (sum_mixed done) (range_with_len 0 (length inventory.authorised))

  abbrev Turns : ℕ → Type 0
  Turns i = (i < length inventory.authorised) × (change (sold_on inventory before i) ≡ sold_on inventory after i)

  abbrev with_leg : (ℕ → Bool) → ℕ → ℕ → Bool
  with_leg done i x = eqb i x || done x

  with-own : (done : ℕ → Bool) (i : ℕ) → with_leg done i i ≡ true
  with-own done i =
      let same : eqb i i ≡ true = grind (arith, nat_tests) in
      ap (λ (b : Bool). b || done i) same

  with-other : (done : ℕ → Bool) (i x : ℕ) → x ≢ i → with_leg done i x ≡ done x
  with-other done i x other = ap (λ (b : Bool). b || done x) (ne_eqb i x (λ e. other (sym e)))

  one-leg : (done : ℕ → Bool) (i : ℕ) → done i ≡ false → Turns i → changed_at change (mixed done) i ≡ mixed (with_leg done i)
  one-leg done i new turns =
      let held : slice_index (mixed done) i ≡ sold_on inventory before i = get_or-map-range_with_len (sum_mixed done) 0 (length inventory.authorised) i i 0 turns.0 (zero-add i) ∙ ap (λ (b : Bool). cond b (sold_on inventory after i) (sold_on inventory before i)) new in
      let is : change (slice_index (mixed done) i) ≡ sum_mixed (with_leg done i) i = ap change held ∙ turns.1 ∙ sym (ap (λ (b : Bool). cond b (sold_on inventory after i) (sold_on inventory before i)) (with-own done i)) in
      let others : (x : ℕ) → x ≢ i → sum_mixed done x ≡ sum_mixed (with_leg done i) x = λ x other. sym (ap (λ (b : Bool). cond b (sold_on inventory after x) (sold_on inventory before x)) (with-other done i x other)) in
      ap (set (mixed done) i) is ∙ set-range (sum_mixed done) (sum_mixed (with_leg done i)) i i 0 (length inventory.authorised) others (zero-add i) turns.0

  each-leg : (is : List ℕ) (done ends : ℕ → Bool) → AllPairs (λ a b. a ≢ b) is → All (λ i. done i ≡ false) is → All Turns is → ((x : ℕ) → ends x ≡ (list_any (λ leg. eqb leg x) is || done x)) → changed_all change (mixed done) is ≡ mixed ends
  each-leg [] done ends distinct new turns are = λ k. mixed (λ x. sym (are x) k)
  each-leg (i ∷ is) done ends distinct new turns are =
      let first = one-leg done i (All-head (λ i. done i ≡ false) i is new) (All-head Turns i is turns) in
      let later : All (λ x. with_leg done i x ≡ false) is = λ k d short.
      let other : get_or is k d ≢ i = λ e. distinct 0 (suc k) d (omega arith) (omega arith) (sym e) in
      with-other done i (get_or is k d) other ∙ All-tail (λ i. done i ≡ false) i is new k d short in
      let rest = each-leg is (with_leg done i) ends (λ a b d low high. distinct (suc a) (suc b) d (omega arith) (omega arith)) later (All-tail Turns i is turns)
      (λ x. are x ∙ or-swap (eqb i x) (list_any (λ leg. eqb leg x) is) (done x)) in
      ap (λ (s : List ℕ). changed_all change s is) first ∙ rest

  -- a change on each leg of the product makes the counts of one list those of the other
  pub all-legs : AllPairs (λ a b. a ≢ b) (legs_of inventory j) → All Turns (legs_of inventory j) → ((i : ℕ) → uses_leg inventory i j ≡ false → sold_on inventory before i ≡ sold_on inventory after i)
      → changed_all change (map (sold_on inventory before) (range_with_len 0 (length inventory.authorised))) (legs_of inventory j) ≡ map (sold_on inventory after) (range_with_len 0 (length inventory.authorised))
  all-legs distinct turns stays =
      let all = each-leg (legs_of inventory j) (λ x. false) (λ x. uses_leg inventory x j) distinct (λ k d short. refl) turns (λ x. sym (or-none (uses_leg inventory x j))) in
      let sums : (i : ℕ) → sum_mixed (λ x. uses_leg inventory x j) i ≡ sold_on inventory after i = λ i. elim (cases_Bool (uses_leg inventory i j)) [
        | inl e ↦ ap (λ (b : Bool). cond b (sold_on inventory after i) (sold_on inventory before i)) e
        | inr e ↦ ap (λ (b : Bool). cond b (sold_on inventory after i) (sold_on inventory before i)) e ∙ stays i e
      ] in
      all ∙ (λ k. map (λ i. sums i k) (range_with_len 0 (length inventory.authorised)))

-- ---- none sold
pub all-zero : (f : ℕ → ℕ) (start n : ℕ) → ((j : ℕ) → f j ≡ 0) → replicate n 0 ≡ map f (range_with_len start n)
all-zero f start zero none = refl
all-zero f start (suc n) none = λ k. sym (none start) k ∷ all-zero f (start + 1) n none k
