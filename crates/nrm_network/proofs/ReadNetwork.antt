-- Rows that were all taken give a network within the limits.
use Rattle.std.proofs.Common.{ℕ, zero, suc, ◌≡◌, ◌≢◌, ◌∙◌, ◌+◌, ◌*◌, ◌<◌, ◌≤◌, Bool, true, false, not, ◌==◌, List, [], ◌∷◌, ◌++◌, length}
use Rattle.std.proofs.Common.{get_or, map, sum, flat_map, replicate, bytes_eq, refl, sym, ap, subst, arith, inl, inr, Option, Some, None}
use Rattle.std.proofs.Common.{Ok, Err, All, AllPairs, nat_lt, append_assoc}
use Rattle.std.specs.Prelude.{find, unwrap_or}
use Rattle.std.specs.Option.{option_or, option_map_or}
use Rattle.std.specs.List.{list_any, list_all, position_from, range_with_len}
use Rattle.std.proofs.Math.Nat.{mul-le-mul_right}
use Rattle.std.proofs.lemmas.Bool.{cases_Bool, and_parts, or_parts, not-true}
use Rattle.std.proofs.lemmas.List.{append-nil, length-map, length-replicate}
use Rattle.std.proofs.lemmas.List.Elements.{All-nil, All-cons, All-head, All-tail, All-map}
use Rattle.std.proofs.lemmas.List.Folds.{sum_by-replicate}
use Rattle.std.proofs.lemmas.List.FromFn.{length-range_with_len}
use Rattle.std.proofs.lemmas.List.Kept.{AllPairs-cons}
use Rattle.std.proofs.lemmas.List.Sums.{AllPass-from_list_all}
use Rattle.std.proofs.lemmas.Slice.Eq.{bytes_eq-Decides}
use Rattle.nrm_text.specs.Numbers.{value_of}
use Rattle.nrm_model.specs.declared.leg.Leg.{Leg}
use Rattle.nrm_model.specs.declared.product.Product.{Product}
use Rattle.nrm_model.specs.Network.{NetworkValue}
use Rattle.nrm_model.specs.Limits.{IsNetwork, IsLeg, IsProduct, differ}
use Rattle.nrm_model.proofs.Fits.{IsLeg-from_test}
use Rattle.nrm_network.specs.Rows.{Row, field, rows_of, leg_rows, product_rows, demand_rows, refund_rows, version_in, histories_in, periods_in}
use Rattle.nrm_network.specs.Rows.{is_named, further, further_numbers, gives_demand}
use Rattle.nrm_network.specs.Checks.{why_refused}
use Rattle.nrm_network.specs.Inner.Draft.{Accepts, names_of}
use Rattle.nrm_network.specs.File.{Refusal, network_of, refusal_after, lacks_a_kind, leg_in, product_in, number_of_leg, refund_given, demand_given}
use Rattle.nrm_network.specs.Valid.{FirstVersionAuthorisesSeats, ReadIsNetwork}
use Rattle.nrm_network.specs.declared.fault.Why.{Why}
use Rattle.nrm_network.specs.declared.fault.Why.TheVariants as why
use Rattle.nrm_network.proofs.NumberFields.{bytes-same}
use Rattle.nrm_network.proofs.CheckedRows.{FirstChecked, ProductFits, first-checked}
use Rattle.nrm_network.proofs.GoodRows.{GoodRows, DemandFits, LegsThere, RefundFits, good-first, good-more}
use Rattle.nrm_network.proofs.Blocks.{IsBlocks, blocks-one, blocks-flat}
use Rattle.std.proofs.lemmas.Option.{none-some}

-- a test that no element passes
any-none : {X : Type 0} (p : X → Bool) (xs : List X) → list_any p xs ≡ false → All (λ x. p x ≡ false) xs
any-none p [] none = All-nil (λ x. p x ≡ false)
any-none p (x ∷ xs) none = let (first, rest) = or_parts (p x) (list_any p xs) none in
    All-cons (λ y. p y ≡ false) x xs first (any-none p xs rest)

-- the row with a name among the leg rows: its place is the number of the leg
named-place : (legs : List Row) (name : List ℕ) (k : ℕ) → is_named legs name ≡ true
    → (i : ℕ) × (i < length legs) × (position_from (λ row. bytes_eq (field row 1) name) k legs ≡ Some (k + i))
    × (field (get_or legs i []) 1 ≡ name)
named-place [] name k named = cc
named-place (row ∷ legs) name k named = elim (cases_Bool (bytes_eq (field row 1) name)) [
  | inl e ↦ (0, omega arith, rw e (ap Some (omega arith)), (bytes_eq-Decides (field row 1) name).0 e)
  | inr e ↦
      let (i, short, place, is) = named-place legs name (k + 1) (rw e at named) in
      (suc i, omega arith, rw e (place ∙ ap Some (omega arith)), is)
]

number-of : (legs : List Row) (name : List ℕ) → is_named legs name ≡ true
    → (number_of_leg legs name < length legs) × (field (get_or legs (number_of_leg legs name) []) 1 ≡ name)
number-of legs name named =
    let (i, short, place, is) = named-place legs name 0 named in
    let number : number_of_leg legs name ≡ i = ap (λ (o : Option ℕ). unwrap_or o 0) place ∙ omega arith in
    (omega (arith, number, short), ap (λ (n : ℕ). field (get_or legs n []) 1) number ∙ is)

-- names that differ have numbers that differ
numbers-apart : (legs : List Row) (names : List (List ℕ)) → list_all (is_named legs) names ≡ true → differ bytes_eq names ≡ true
    → AllPairs (λ a b. a ≢ b) (map (number_of_leg legs) names)
numbers-apart legs [] named apart = λ i j d low short. absurd (omega arith)
numbers-apart legs (name ∷ names) named apart =
    let (here, rest) = and_parts (is_named legs name) (list_all (is_named legs) names) named in
    let (first, others) = and_parts (not (list_any (bytes_eq name) names)) (differ bytes_eq names) apart in
    let none = any-none (bytes_eq name) names (not-true (list_any (bytes_eq name) names) first) in
    AllPairs-cons (λ a b. a ≢ b) (number_of_leg legs name) (map (number_of_leg legs) names)
    (All-map (λ n. number_of_leg legs name ≢ n) (number_of_leg legs) names (λ k d short same.
    let other : List ℕ = get_or names k d in
    let there : is_named legs other ≡ true = AllPass-from_list_all (is_named legs) names rest k d short in
    let equal : name ≡ other = sym (number-of legs name here).1 ∙ ap (λ (n : ℕ). field (get_or legs n []) 1) same
    ∙ (number-of legs other there).1 in
    let no : bytes_eq name other ≡ false = none k d short in
    let yes : bytes_eq name other ≡ true = subst (λ (n : List ℕ). bytes_eq name n ≡ true) equal (bytes-same name) in
    cc))
    (numbers-apart legs names rest others)

pub names-apart : (names : List (List ℕ)) → differ bytes_eq names ≡ true → AllPairs (λ a b. a ≢ b) names
names-apart [] apart = λ i j d low short. absurd (omega arith)
names-apart (name ∷ names) apart =
    let (first, others) = and_parts (not (list_any (bytes_eq name) names)) (differ bytes_eq names) apart in
    let none = any-none (bytes_eq name) names (not-true (list_any (bytes_eq name) names) first) in
    AllPairs-cons (λ a b. a ≢ b) name names (λ k d short same.
    let no : bytes_eq name (get_or names k d) ≡ false = none k d short in
    let yes : bytes_eq name (get_or names k d) ≡ true = subst (λ (n : List ℕ). bytes_eq name n ≡ true) same (bytes-same name) in
    cc)
    (names-apart names others)

-- the names of the legs and of the products are those of their rows
pub leg-names : (version : ℕ) (rows : List Row) → map (λ (leg : Leg). leg.name) (map (leg_in version) rows) ≡ names_of rows
leg-names version [] = refl
leg-names version (row ∷ rows) = ap (λ (n : List (List ℕ)). field row 1 ∷ n) (leg-names version rows)

pub product-names : (legs refunds rows : List Row)
    → map (λ (product : Product). product.name) (map (product_in legs refunds) rows) ≡ names_of rows
product-names legs refunds [] = refl
product-names legs refunds (row ∷ rows) = ap (λ (n : List (List ℕ)). field row 1 ∷ n) (product-names legs refunds rows)

-- no refund row gives more than all of the fare
refund-small : (refunds : List Row) (name : List ℕ) → All RefundFits refunds → refund_given refunds name ≤ 100
refund-small [] name fits = omega arith
refund-small (row ∷ refunds) name fits = elim (cases_Bool (bytes_eq (field row 1) name)) [
  | inl e ↦ rw e (All-head RefundFits row refunds fits)
  | inr e ↦ rw e (refund-small refunds name (All-tail RefundFits row refunds fits))
]

product-is : (version : ℕ) (legs refunds : List Row) (row : Row) → ProductFits row → LegsThere legs row → All RefundFits refunds
    → IsProduct (length (map (leg_in version) legs)) (product_in legs refunds row)
product-is version legs refunds row fits there small =
    let (low, high) = fits.count in
    record {
      name = fits.name;
      fare = fits.fare;
      refund = refund-small refunds (field row 1) small;
      leg_count = (
        omega (arith, low, length-map (further row) (number_of_leg legs)),
        omega (arith, high, length-map (further row) (number_of_leg legs)),
      );
      legs = All-map (λ i. i < length (map (leg_in version) legs)) (number_of_leg legs) (further row) (λ k d short.
          let below = (number-of legs (get_or (further row) k d) (AllPass-from_list_all (is_named legs) (further row) there k d short)).0 in
          omega (arith, below, length-map legs (leg_in version)));
      distinct = numbers-apart legs (further row) there fits.apart;
    }

-- what the demand rows give has a number for each period, and adds up to 999 at most
pub found-fits : (periods : ℕ) (p : Row → Bool) (rows : List Row) → All (DemandFits periods) rows
    → (length (option_map_or further_numbers (find p rows) (replicate periods 0)) ≡ periods)
    × (sum (option_map_or further_numbers (find p rows) (replicate periods 0)) ≤ 999)
found-fits periods p [] fits =
    let none : sum (replicate periods 0) ≡ periods * 0 = sum_by-replicate (λ (x : ℕ). x) periods 0 in
    (length-replicate {A = ℕ} periods 0, omega (arith, none))
found-fits periods p (row ∷ rows) fits = elim (cases_Bool (p row)) [
  | inl e ↦ let (long, small) = All-head (DemandFits periods) row rows fits in rw e (length-map (further row) value_of ∙ long, small)
  | inr e ↦ rw e (found-fits periods p rows (All-tail (DemandFits periods) row rows fits))
]

demand-blocks : (rows : List Row) → GoodRows (version_in rows) (periods_in rows) rows
    → IsBlocks (periods_in rows) (length (product_rows rows) * histories_in rows) (network_of rows).demand
demand-blocks rows good =
    let periods : ℕ = periods_in rows in
    let histories : ℕ = histories_in rows in
    let given = λ (name : List ℕ) (t : ℕ). let (long, small) = found-fits periods (gives_demand name t) (demand_rows rows) good.demands in
    blocks-one periods (demand_given rows name t) long small in
    let count : length (range_with_len 1 histories) * 1 ≡ histories = omega (arith, length-range_with_len 1 histories) in
    blocks-flat periods histories (λ row. flat_map (demand_given rows (field row 1)) (range_with_len 1 histories)) (product_rows rows)
    (λ row. subst (λ (n : ℕ). IsBlocks periods n (flat_map (demand_given rows (field row 1)) (range_with_len 1 histories))) count
    (blocks-flat periods 1 (demand_given rows (field row 1)) (range_with_len 1 histories) (given (field row 1))))

some-from : (n : ℕ) → (n == 0) ≡ false → 1 ≤ n
some-from zero e = cc
some-from (suc n) e = omega arith

is-network : (first : Row) (more : List Row) → FirstChecked first
    → GoodRows (version_in (first ∷ more)) (periods_in (first ∷ more)) (first ∷ more)
    → lacks_a_kind (first ∷ more) ≡ false → IsNetwork (network_of (first ∷ more))
is-network first more begun good whole =
    let rows : List Row = first ∷ more in
    let version : ℕ = version_in rows in
    let legs : List Row = leg_rows rows in
    let products : List Row = product_rows rows in
    let refunds : List Row = refund_rows rows in
    let (no_leg, no_product) = or_parts (length legs == 0) (length products == 0) whole in
    let some_legs = some-from (length legs) no_leg in
    let some_products = some-from (length products) no_product in
    let few_legs = good.few_legs in
    let few_products = good.few_products in
    let blocks = demand-blocks rows good in
    let count = length-map products (product_in legs refunds) in
    let leg_total = length-map legs (leg_in version) in
    record {
      histories = begun.histories;
      periods = begun.periods;
      leg_count = (omega (arith, some_legs, leg_total), omega (arith, few_legs, leg_total));
      product_count = (omega (arith, some_products, count), omega (arith, few_products, count));
      legs = All-map IsLeg (leg_in version) legs
          (λ k d short. IsLeg-from_test (leg_in version (get_or legs k d)) (good.legs k d short));
      products = All-map (IsProduct (length (map (leg_in version) legs))) (product_in legs refunds) products
          (λ k d short. product-is version legs refunds (get_or products k d) (good.products k d short) (good.there k d short) good.refunds);
      leg_names = subst (λ (n : List (List ℕ)). AllPairs (λ a b. a ≢ b) n) (sym (leg-names version legs))
          (names-apart (names_of legs) good.leg_names);
      product_names = subst (λ (n : List (List ℕ)). AllPairs (λ a b. a ≢ b) n) (sym (product-names legs refunds products))
          (names-apart (names_of products) good.product_names);
      demand_count = blocks.long ∙ ap (λ (n : ℕ). n * histories_in rows * periods_in rows) (sym count);
      demand = λ j h few few_histories.
          let room : (j + 1) * histories_in rows ≤ length products * histories_in rows =
          mul-le-mul_right (histories_in rows) (omega (arith, count, few)) in
          blocks.small (j * histories_in rows + h) (omega (arith, room, few_histories));
    }

-- the other way round from `refusal_after-none`: where no row is refused, each was taken, and no kind is lacking
no-either : (n : ℕ) (o : Option Why) (rest : Option Refusal) → option_or (option_map_or (λ w. Some (n, w)) o None) rest ≡ None
    → (o ≡ None) × (rest ≡ None)
no-either n None rest none = (refl, none)
no-either n (Some w) rest none = absurd (none-some (n, w) (sym none))

taken-from : (cause : List Row → Row → Option Why) (lacking : Why) (before rows : List Row) → refusal_after cause lacking before rows ≡ None
    → Accepts cause before rows × (lacks_a_kind (before ++ rows) ≡ false)
taken-from cause lacking before [] none = elim (cases_Bool (lacks_a_kind before)) [
  | inl e ↦ absurd (none-some (length before + 1, lacking) (sym (rw e at none)))
  | inr e ↦ (tt, rw append-nil e)
]
taken-from cause lacking before (row ∷ rest) none =
    let (first, more) = no-either (length before + 1) (cause before row) (refusal_after cause lacking (before ++ row ∷ []) rest) none in
    let (taken, whole) = taken-from cause lacking (before ++ row ∷ []) rest more in
    ((first, taken), subst (λ (r : List Row). lacks_a_kind r ≡ false) (append_assoc before (row ∷ []) rest) whole)

pub rows-network : (rows : List Row) → Accepts why_refused [] rows → lacks_a_kind rows ≡ false → IsNetwork (network_of rows)
rows-network [] taken whole = cc
rows-network (first ∷ more) taken whole =
    let begun = first-checked first taken.0 in
    is-network first more begun (good-more first [] more (good-first first begun) taken.1) whole

-- a refusal is no network
no-network : (refusal : Refusal) (net : NetworkValue) → Err refusal ≡ Ok net → ⊥
no-network refusal net answer = cc

-- an answer that is a network
no-refusal : (o : Option Refusal) (given net : NetworkValue) → option_map_or (λ (refusal : ℕ × Why). Err refusal) o (Ok given) ≡ Ok net
    → (o ≡ None) × (given ≡ net)
no-refusal None given net answer = let same : given ≡ net = cc in (refl, same)
no-refusal (Some refusal) given net answer = absurd (no-network refusal net answer)

pub read-is-network : ReadIsNetwork
read-is-network bytes net answer = elim (cases_Bool (nat_lt 4194304 (length bytes))) [
  | inl e ↦ absurd (no-network (0, why.Size) net (rw e at answer))
  | inr e ↦
      let (none, same) = no-refusal (refusal_after why_refused why.Empty [] (rows_of bytes)) (network_of (rows_of bytes)) net
      (rw e at answer) in
      let (taken, whole) = taken-from why_refused why.Empty [] (rows_of bytes) none in
      subst IsNetwork same (rows-network (rows_of bytes) taken whole)
]

-- in version 1 the seats and the authorised seats of a leg are one field
pub first-version : FirstVersionAuthorisesSeats
first-version bytes net one answer = elim (cases_Bool (nat_lt 4194304 (length bytes))) [
  | inl e ↦ absurd (no-network (0, why.Size) net (rw e at answer))
  | inr e ↦
      let rows : List Row = rows_of bytes in
      let (none, same) = no-refusal (refusal_after why_refused why.Empty [] rows) (network_of rows) net (rw e at answer) in
      let alike : Leg → Type 0 = λ leg. leg.authorised ≡ leg.seats in
      subst (λ (n : NetworkValue). All alike n.legs) same
      (subst (λ (version : ℕ). All alike (map (leg_in version) (leg_rows rows))) (sym one)
      (All-map alike (leg_in 1) (leg_rows rows) (λ k d short. refl)))
]
