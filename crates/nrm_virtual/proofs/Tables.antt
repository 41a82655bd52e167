-- Tables of buckets: what one has for a leg and a product, and what the list has that stores it.
use Rattle.std.proofs.Common.{ℕ, ◌≡◌, ◌∙◌, ◌+◌, ◌*◌, ◌/◌, ◌<◌, ◌≤◌, ◌==◌, not, All, Bool, true, false, cond, nat_eq, List, [], ◌∷◌, length, get_or, filter, Option, Some, None, IsSome, inl, inr, is_some, refl, sym, ap, subst, arith, ne_eqb}
use Rattle.std.specs.List.{range_with_len}
use Rattle.std.specs.Map.{lookup}
use Rattle.std.proofs.lemmas.Bool.{cases_Bool, eqb-true}
use Rattle.std.proofs.lemmas.List.Elements.{All-filter, All-head, All-tail, All-weaker}
use Rattle.std.proofs.Math.Nat.{div-mul-le_self, mul-div_cancel}
use native.Mathlib.Nat.{mul-le-mul_right}
use Rattle.nrm_model.specs.Inventory.{inventory_of, products_on, uses_leg}
use Rattle.nrm_model.specs.Network.{NetworkValue}
use Rattle.nrm_model.proofs.Inventories.{legs-count, on-leg-uses, on-leg-within}
use Rattle.nrm_lp.specs.declared.certificate.Certificate.{Certificate}
use Rattle.nrm_virtual.specs.Buckets.{bucket_of}
use Rattle.nrm_virtual.specs.Table.{TableValue, HasPair, IsTableOf, bucket_in, bucket_in_nest, nest_in, nest_of, table_in}
use Rattle.nrm_virtual.specs.Inner.Written.{AreWritten}
use Rattle.nrm_number.proofs.Ranges.{below-range, lookup-is, lookup-kept, lookup-range, pairs}

-- a key that is found is one of the keys
lookup-among : {X : Type 0} (f : ℕ → X) (P : ℕ → Type 0) (ks : List ℕ) → All P ks → (k : ℕ) (x : X) → lookup (nat_eq k) (pairs f ks) ≡ Some x → P k
lookup-among f P [] all k x found = cc
lookup-among {X} f P (j ∷ ks) all k x found = elim (cases_Bool (nat_eq k j)) [
  | inl here ↦ subst P (sym (eqb-true k j here)) (All-head P j ks all)
  | inr other ↦
      let rest = ap (λ (b : Bool). cond b (Some (f j)) (lookup (nat_eq k) (pairs f ks))) other in
      lookup-among f P ks (All-tail P j ks all) k x (sym rest ∙ found)
]

-- ---- tables of so many legs, of each these numbers with what f gives for them
module _ (legs : ℕ) (numbers : ℕ → List ℕ) (f : ℕ → ℕ → ℕ) where
  abbrev tabled : TableValue
  tabled = pairs (λ i. pairs (f i) (numbers i)) (range_with_len 0 legs)

  -- what stands for a pair is what f gives, and the pair is one of them
  in-nest : (P : ℕ → Type 0) (found : Option (List (ℕ × ℕ))) (i j b : ℕ) → All P (numbers i) → lookup (nat_eq i) tabled ≡ found → bucket_in_nest found j ≡ Some b
      → (i < legs) × P j × (b ≡ f i j)
  in-nest P None i j b all leg bucket = cc
  in-nest P (Some nest) i j b all leg bucket =
      let rows : ℕ → List (ℕ × ℕ) = λ i. pairs (f i) (numbers i) in
      let is = lookup-is rows (range_with_len 0 legs) i nest leg in
      let there = ap (λ n. lookup (nat_eq j) n) (sym is) ∙ bucket in
      (lookup-among rows (λ i. i < legs) (range_with_len 0 legs) (below-range legs) i nest leg, lookup-among (f i) P (numbers i) all j b there, lookup-is (f i) (numbers i) j b there)

  in-table : (P : ℕ → Type 0) (i j b : ℕ) → All P (numbers i) → bucket_in tabled i j ≡ Some b → (i < legs) × P j × (b ≡ f i j)
  in-table P i j b all found = in-nest P (lookup (nat_eq i) tabled) i j b all refl found

-- ---- the table of a network and a certificate
module _ (net : NetworkValue) (cert : Certificate) where
  -- what it has for a pair is the pair's bucket
  pub bucket-is : (now : TableValue) (i j b : ℕ) → IsTableOf net cert now → Some b ≡ bucket_in now i j → b ≡ bucket_of net cert i j
  bucket-is now i j b of found =
      (in-table (length net.legs) (products_on (inventory_of net)) (bucket_of net cert) (λ j. j < length net.products) i j b (on-leg-within net i) (sym (found ∙ ap (λ t. bucket_in t i j) of))).2

  -- it has each leg with each of its products
  pub pair-found : (now : TableValue) (i j : ℕ) → IsTableOf net cert now → i < length net.legs → j < length net.products → uses_leg (inventory_of net) i j ≡ true → bucket_in now i j ≡ Some (bucket_of net cert i j)
  pair-found now i j of leg product used =
      let count : length (inventory_of net).legs ≡ length net.products = legs-count net in
      ap (λ t. bucket_in t i j) of
      ∙ ap (λ o. bucket_in_nest o j) (lookup-range (nest_of net cert) 0 (length net.legs) i (omega arith) (omega arith))
      ∙ lookup-kept (bucket_of net cert i) (uses_leg (inventory_of net) i) 0 (length (inventory_of net).legs) j (omega arith) (omega arith) used

  pub pair-in_table : (now : TableValue) (i j : ℕ) → IsTableOf net cert now → i < length net.legs → j < length net.products → uses_leg (inventory_of net) i j ≡ true → HasPair now i j
  pair-in_table now i j of leg product used = ap is_some (pair-found now i j of leg product used)

  -- and no others
  abbrev Used : ℕ → ℕ → Type 0
  Used i j = (j < length net.products) × (uses_leg (inventory_of net) i j ≡ true)

  pub pair-within : (now : TableValue) (i j b : ℕ) → IsTableOf net cert now → bucket_in now i j ≡ Some b
      → (i < length net.legs) × (j < length net.products) × (uses_leg (inventory_of net) i j ≡ true)
  pair-within now i j b of found =
      let all : All (Used i) (products_on (inventory_of net) i) = λ k d short. (on-leg-within net i k d short, on-leg-uses net i k d short) in
      let (leg, used, is) = in-table (length net.legs) (products_on (inventory_of net)) (bucket_of net cert) (Used i) i j b all (sym (ap (λ t. bucket_in t i j) of) ∙ found) in
      (leg, used.0, used.1)

-- ---- the list that stores a table
module _ (products : ℕ) (buckets : List ℕ) where
  abbrev at : ℕ → ℕ → ℕ
  at i j = get_or buckets (i * products + j) 0

  -- what is found for a pair stands at the pair's place
  stored : (i j b : ℕ) → bucket_in (table_in products buckets) i j ≡ Some b → (i * products + j < length buckets) × (b ≡ at i j)
  stored i j b found =
      let test : ℕ → ℕ → Bool = λ i j. not (at i j == 0) in
      let (leg, product, is) = in-table (length buckets / products) (λ i. filter (test i) (range_with_len 0 products)) at (λ j. j < products) i j b (All-filter (test i) (λ j. j < products) (range_with_len 0 products) (below-range products)) found in
      let whole : (i + 1) * products ≤ length buckets / products * products = mul-le-mul_right products (omega (arith, leg)) in
      (omega (arith, whole, product, div-mul-le_self (length buckets) products), is)

  pub pair-stored : (i j : ℕ) → HasPair (table_in products buckets) i j → (i * products + j < length buckets) × (bucket_in (table_in products buckets) i j ≡ Some (at i j))
  pair-stored i j pair = by (bucket_in (table_in products buckets) i j) refl pair
    where
      by : (o : Option ℕ) → bucket_in (table_in products buckets) i j ≡ o → IsSome o → (i * products + j < length buckets) × (bucket_in (table_in products buckets) i j ≡ Some (at i j))
      by None is some = absurd (cc some)
      by (Some b) is some = let (within, here) = stored i j b is in (within, is ∙ ap Some here)

-- ---- a list with all buckets of a network in it
-- a number that is at least 1 where a test passes, and 0 elsewhere, tells the test
told : (b : Bool) (n : ℕ) → 1 ≤ n → not (cond b n 0 == 0) ≡ b
told true n some = ap not (ne_eqb n 0 (λ same. omega arith))
told false n some = refl

same-nest : (at f : ℕ → ℕ) (uses : ℕ → Bool) (js : List ℕ) → All (λ j. at j ≡ cond (uses j) (f j) 0) js → ((j : ℕ) → 1 ≤ f j) → pairs at (filter (λ j. not (at j == 0)) js) ≡ pairs f (filter uses js)
same-nest at f uses [] all some = refl
same-nest at f uses (j ∷ js) all some =
    let here = All-head (λ j. at j ≡ cond (uses j) (f j) 0) j js all in
    let rest = same-nest at f uses js (All-tail (λ j. at j ≡ cond (uses j) (f j) 0) j js all) some in
    let test : not (at j == 0) ≡ uses j = ap (λ (n : ℕ). not (n == 0)) here ∙ told (uses j) (f j) (some j) in
    let shown : Bool → List (ℕ × ℕ) = λ b. pairs at (cond b (j ∷ filter (λ j. not (at j == 0)) js) (filter (λ j. not (at j == 0)) js)) in
    elim (cases_Bool (uses j)) [
      | inl e ↦
          let value : at j ≡ f j = here ∙ ap (λ (b : Bool). cond b (f j) 0) e in
          ap shown (test ∙ e) ∙ (λ n. (j, value n) ∷ rest n) ∙ ap (λ (b : Bool). pairs f (cond b (j ∷ filter uses js) (filter uses js))) (sym e)
      | inr e ↦ ap shown (test ∙ e) ∙ rest ∙ ap (λ (b : Bool). pairs f (cond b (j ∷ filter uses js) (filter uses js))) (sym e)
    ]

same-rows : (f g : ℕ → List (ℕ × ℕ)) (is : List ℕ) → All (λ i. f i ≡ g i) is → pairs f is ≡ pairs g is
same-rows f g [] all = refl
same-rows f g (i ∷ is) all = λ n. (i, All-head (λ i. f i ≡ g i) i is all n) ∷ same-rows f g is (All-tail (λ i. f i ≡ g i) i is all) n

pub whole-table : (net : NetworkValue) (cert : Certificate) (buckets : List ℕ) → 0 < length net.products
    → AreWritten (uses_leg (inventory_of net)) (bucket_of net cert) (length net.legs) (length net.products) (length net.legs) buckets
    → IsTableOf net cert (table_in (length net.products) buckets)
whole-table net cert buckets some are =
    let products : ℕ = length net.products in
    let legs : ℕ = length net.legs in
    let uses : ℕ → ℕ → Bool = uses_leg (inventory_of net) in
    let count : length buckets / products ≡ legs = ap (λ (n : ℕ). n / products) are.long ∙ mul-div_cancel legs some in
    let nest : (i : ℕ) → i < legs → nest_in products buckets i ≡ nest_of net cert i = λ i leg.
    same-nest (at products buckets i) (bucket_of net cert i) (uses i) (range_with_len 0 products)
    (All-weaker (λ j. j < products) (λ j. at products buckets i j ≡ cond (uses i j) (bucket_of net cert i j) 0) (λ j product. are.done i j leg product) (range_with_len 0 products) (below-range products))
    (λ j. omega arith)
    ∙ ap (λ (n : ℕ). pairs (bucket_of net cert i) (filter (uses i) (range_with_len 0 n))) (sym (legs-count net)) in
    ap (λ (n : ℕ). pairs (nest_in products buckets) (range_with_len 0 n)) count
    ∙ same-rows (nest_in products buckets) (nest_of net cert) (range_with_len 0 legs)
    (All-weaker (λ i. i < legs) (λ i. nest_in products buckets i ≡ nest_of net cert i) nest (range_with_len 0 legs) (below-range legs))
