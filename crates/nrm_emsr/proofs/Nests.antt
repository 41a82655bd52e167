-- A leg's products in some of its buckets: one product more, one bucket more, and the definitions' lists of products.
use Rattle.std.proofs.Common.{ℕ, ◌≡◌, ◌∙◌, ◌+◌, ◌*◌, ◌<◌, ◌≤◌, Bool, true, false, cond, List, [], ◌∷◌, ◌++◌, ◌⊎◌, inl, inr, length, get_or, filter, map, take, sum_by, nat_le, refl, ap, arith, ℤ, pos, ◌+ℤ◌, ◌*ℤ◌, All}
use Rattle.std.specs.Int.{is_in_range}
use Rattle.std.proofs.lemmas.Bool.{and_from, and_left, and_right, cases_lt, le-leb, lt-leb}
use Rattle.std.proofs.lemmas.Int.{ints}
use Rattle.std.proofs.lemmas.List.{append-nil, map-append}
use Rattle.std.proofs.lemmas.List.Elements.{All-head, All-tail, filter_more}
use Rattle.std.proofs.lemmas.List.Sums.{count_by-le-length, length-filter, sum_by-append, sum_by-cons}
use Rattle.nrm_emsr.specs.declared.nest.Nested.{Nested}
use Rattle.nrm_model.specs.Network.{NetworkValue}
use Rattle.nrm_model.specs.Demand.{demand_to_come, total_to_come}
use Rattle.nrm_model.specs.Inventory.{inventory_of, products_on}
use Rattle.nrm_lp.specs.declared.certificate.Certificate.{Certificate}
use Rattle.nrm_emsr.specs.Fares.{products_between, sum_of, weight_of, weighted_fares}
use Rattle.nrm_emsr.specs.Protections.{demand_above}
use Rattle.nrm_emsr.specs.Inner.Nest.{in_buckets, nest_on, nested_of}
use Rattle.nrm_emsr.specs.Inner.Sums.{nest_demand, nest_fares, nest_weight}

module _ (nest : List Nested) (k : ℕ) (d : Nested) (first last : ℕ) (short : k < length nest) where
  abbrev x : Nested
  x = get_or nest k d

  abbrev test : Nested → Bool
  test nested = is_in_range first last nested.bucket

  stands : (b : Bool) → is_in_range first last x.bucket ≡ b → in_buckets (take (k + 1) nest) first last ≡ in_buckets (take k nest) first last ++ cond b (x ∷ []) []
  stands b e =
      filter_more test nest k d short
      ∙ ap (λ (c : Bool). in_buckets (take k nest) first last ++ cond c (x ∷ []) []) e

  -- a product in one of the buckets
  pub in-yes : is_in_range first last x.bucket ≡ true → in_buckets (take (k + 1) nest) first last ≡ in_buckets (take k nest) first last ++ x ∷ []
  in-yes e = stands true e

  pub sum-yes : (f : Nested → ℕ) → is_in_range first last x.bucket ≡ true → sum_by f (in_buckets (take (k + 1) nest) first last) ≡ sum_by f (in_buckets (take k nest) first last) + f x
  sum-yes f e =
      ap (sum_by f) (stands true e) ∙ sum_by-append f (in_buckets (take k nest) first last) (x ∷ [])
      ∙ omega (arith, sum_by-cons f x [])

  sum_of-more : (zs : List ℤ) (z : ℤ) → sum_of (zs ++ z ∷ []) ≡ sum_of zs +ℤ z
  sum_of-more [] z = omega (arith, ints)
  sum_of-more (y ∷ zs) z = let rest = sum_of-more zs z in omega (arith, ints)

  pub fares-yes : (g : Nested → ℤ) → is_in_range first last x.bucket ≡ true → sum_of (map g (in_buckets (take (k + 1) nest) first last)) ≡ sum_of (map g (in_buckets (take k nest) first last)) +ℤ g x
  fares-yes g e =
      ap (λ (ns : List Nested). sum_of (map g ns)) (stands true e)
      ∙ ap sum_of (map-append g (in_buckets (take k nest) first last) (x ∷ []))
      ∙ sum_of-more (map g (in_buckets (take k nest) first last)) (g x)

  -- and one in none of them
  pub in-no : is_in_range first last x.bucket ≡ false → in_buckets (take (k + 1) nest) first last ≡ in_buckets (take k nest) first last
  in-no e = stands false e ∙ append-nil (in_buckets (take k nest) first last)

-- there are no more in some buckets than in all, and a sum over them is no more than so many times the greatest number in it
pub few-in : (nest : List Nested) (first last : ℕ) → length (in_buckets nest first last) ≤ length nest
few-in nest first last =
    let test : Nested → Bool = λ nested. is_in_range first last nested.bucket in
    omega (arith, length-filter test nest, count_by-le-length test nest)

-- a sum, and other measures of a list that add up
record AddsUp (measure : List Nested → ℕ) (f : Nested → ℕ) : Type 0 where
  none : measure [] ≡ 0
  one : (x : Nested) (xs : List Nested) → measure (x ∷ xs) ≡ f x + measure xs

sums : (f : Nested → ℕ) → AddsUp (sum_by f) f
sums f = record { none = refl; one = λ x xs. sum_by-cons f x xs }

lengths : AddsUp length (λ nested. 1)
lengths = record { none = refl; one = λ x xs. omega arith }

led : (measure : List Nested → ℕ) (f : Nested → ℕ) → AddsUp measure f → (x : Nested) (xs : List Nested) (b : Bool) → measure (cond b (x ∷ xs) xs) ≡ cond b (f x) 0 + measure xs
led measure f adds x xs true = adds.one x xs
led measure f adds x xs false = omega arith

at-most : (b : Bool) (n most : ℕ) → n ≤ most → cond b n 0 ≤ most
at-most true n most few = few
at-most false n most few = omega arith

pub sum-below : (f : Nested → ℕ) (most : ℕ) (nest : List Nested) → All (λ nested. f nested ≤ most) nest → (first last : ℕ) → sum_by f (in_buckets nest first last) ≤ most * length nest
sum-below f most [] all first last = omega arith
sum-below f most (x ∷ nest) all first last =
    let b : Bool = is_in_range first last x.bucket in
    let here = at-most b (f x) most (All-head (λ nested. f nested ≤ most) x nest all) in
    let rest = sum-below f most nest (All-tail (λ nested. f nested ≤ most) x nest all) first last in
    let one : most * length (x ∷ nest) ≡ most + most * length nest = omega arith in
    omega (arith, here, rest, one, led (sum_by f) f (sums f) x (in_buckets nest first last) b)

-- ---- buckets 1 to b, and bucket b + 1
-- a bucket is one of those, or is that one, or neither
record Splits (b x : ℕ) (all below own : Bool) : Type 0 where
  all_is : is_in_range 1 (b + 1) x ≡ all
  below_is : is_in_range 1 b x ≡ below
  own_is : is_in_range (b + 1) (b + 1) x ≡ own

inside : (first last x : ℕ) → first ≤ x → x ≤ last → is_in_range first last x ≡ true
inside first last x low high = and_from (nat_le first x) (nat_le x last) (le-leb first x low) (le-leb x last high)

under : (first last x : ℕ) → x < first → is_in_range first last x ≡ false
under first last x low = and_left (nat_le first x) (nat_le x last) (lt-leb first x low)

over : (first last x : ℕ) → last < x → is_in_range first last x ≡ false
over first last x high = and_right (nat_le first x) (nat_le x last) (lt-leb x last high)

splits : (b x : ℕ) → Splits b x true true false ⊎ (Splits b x true false true ⊎ Splits b x false false false)
splits b x =
    elim (cases_lt x 1) [
      | inl none ↦ inr (inr (record { all_is = under 1 (b + 1) x none; below_is = under 1 b x none; own_is = under (b + 1) (b + 1) x (omega arith) }))
      | inr some ↦
          elim (cases_lt b x) [
            | inr low ↦ inl (record { all_is = inside 1 (b + 1) x some (omega arith); below_is = inside 1 b x some low; own_is = under (b + 1) (b + 1) x (omega arith) })
            | inl high ↦
                elim (cases_lt (b + 1) x) [
                  | inl past ↦ inr (inr (record { all_is = over 1 (b + 1) x past; below_is = over 1 b x high; own_is = over (b + 1) (b + 1) x past }))
                  | inr here ↦ inr (inl (record { all_is = inside 1 (b + 1) x some here; below_is = over 1 b x high; own_is = inside (b + 1) (b + 1) x (omega arith) here }))
                ]
          ]
    ]

part : (n : ℕ) (b c : Bool) → b ≡ c → cond b n 0 ≡ cond c n 0
part n b c is = ap (λ (b : Bool). cond b n 0) is

parts : (b x n : ℕ) → cond (is_in_range 1 (b + 1) x) n 0 ≡ cond (is_in_range 1 b x) n 0 + cond (is_in_range (b + 1) (b + 1) x) n 0
parts b x n =
    elim (splits b x) [
      | inl s ↦ omega (arith, part n (is_in_range 1 (b + 1) x) true s.all_is, part n (is_in_range 1 b x) true s.below_is, part n (is_in_range (b + 1) (b + 1) x) false s.own_is)
      | inr others ↦
          elim others [
            | inl s ↦ omega (arith, part n (is_in_range 1 (b + 1) x) true s.all_is, part n (is_in_range 1 b x) false s.below_is, part n (is_in_range (b + 1) (b + 1) x) true s.own_is)
            | inr s ↦ omega (arith, part n (is_in_range 1 (b + 1) x) false s.all_is, part n (is_in_range 1 b x) false s.below_is, part n (is_in_range (b + 1) (b + 1) x) false s.own_is)
          ]
    ]

bucket-more : (measure : List Nested → ℕ) (f : Nested → ℕ) → AddsUp measure f → (nest : List Nested) (b : ℕ)
    → measure (in_buckets nest 1 (b + 1)) ≡ measure (in_buckets nest 1 b) + measure (in_buckets nest (b + 1) (b + 1))
bucket-more measure f adds [] b = omega (arith, adds.none)
bucket-more measure f adds (x ∷ nest) b =
    let rest = bucket-more measure f adds nest b in
    let all = led measure f adds x (in_buckets nest 1 (b + 1)) (is_in_range 1 (b + 1) x.bucket) in
    let below = led measure f adds x (in_buckets nest 1 b) (is_in_range 1 b x.bucket) in
    let own = led measure f adds x (in_buckets nest (b + 1) (b + 1)) (is_in_range (b + 1) (b + 1) x.bucket) in
    omega (arith, rest, all, below, own, parts b x.bucket (f x))

pub sum-bucket-more : (f : Nested → ℕ) (nest : List Nested) (b : ℕ) → sum_by f (in_buckets nest 1 (b + 1)) ≡ sum_by f (in_buckets nest 1 b) + sum_by f (in_buckets nest (b + 1) (b + 1))
sum-bucket-more f nest b = bucket-more (sum_by f) f (sums f) nest b

pub count-bucket-more : (nest : List Nested) (b : ℕ) → length (in_buckets nest 1 (b + 1)) ≡ length (in_buckets nest 1 b) + length (in_buckets nest (b + 1) (b + 1))
count-bucket-more nest b = bucket-more length (λ nested. 1) lengths nest b

-- the same of numbers with a sign
led-ℤ : (g : Nested → ℤ) (x : Nested) (xs : List Nested) (b : Bool) → sum_of (map g (cond b (x ∷ xs) xs)) ≡ cond b (g x) (pos 0) +ℤ sum_of (map g xs)
led-ℤ g x xs true = refl
led-ℤ g x xs false = omega (arith, ints)

part-ℤ : (z : ℤ) (b c : Bool) → b ≡ c → cond b z (pos 0) ≡ cond c z (pos 0)
part-ℤ z b c is = ap (λ (b : Bool). cond b z (pos 0)) is

parts-ℤ : (b x : ℕ) (z : ℤ) → cond (is_in_range 1 (b + 1) x) z (pos 0) ≡ cond (is_in_range 1 b x) z (pos 0) +ℤ cond (is_in_range (b + 1) (b + 1) x) z (pos 0)
parts-ℤ b x z =
    elim (splits b x) [
      | inl s ↦ omega (arith, ints, part-ℤ z (is_in_range 1 (b + 1) x) true s.all_is, part-ℤ z (is_in_range 1 b x) true s.below_is, part-ℤ z (is_in_range (b + 1) (b + 1) x) false s.own_is)
      | inr others ↦
          elim others [
            | inl s ↦ omega (arith, ints, part-ℤ z (is_in_range 1 (b + 1) x) true s.all_is, part-ℤ z (is_in_range 1 b x) false s.below_is, part-ℤ z (is_in_range (b + 1) (b + 1) x) true s.own_is)
            | inr s ↦ omega (arith, ints, part-ℤ z (is_in_range 1 (b + 1) x) false s.all_is, part-ℤ z (is_in_range 1 b x) false s.below_is, part-ℤ z (is_in_range (b + 1) (b + 1) x) false s.own_is)
          ]
    ]

pub fares-bucket-more : (g : Nested → ℤ) (nest : List Nested) (b : ℕ)
    → sum_of (map g (in_buckets nest 1 (b + 1))) ≡ sum_of (map g (in_buckets nest 1 b)) +ℤ sum_of (map g (in_buckets nest (b + 1) (b + 1)))
fares-bucket-more g [] b = omega (arith, ints)
fares-bucket-more g (x ∷ nest) b =
    let rest = fares-bucket-more g nest b in
    let all = led-ℤ g x (in_buckets nest 1 (b + 1)) (is_in_range 1 (b + 1) x.bucket) in
    let below = led-ℤ g x (in_buckets nest 1 b) (is_in_range 1 b x.bucket) in
    let own = led-ℤ g x (in_buckets nest (b + 1) (b + 1)) (is_in_range (b + 1) (b + 1) x.bucket) in
    omega (arith, ints, rest, all, below, own, parts-ℤ b x.bucket (g x))

-- no bucket is from 1 to 0
pub none-in : (nest : List Nested) → in_buckets nest 1 0 ≡ []
none-in [] = refl
none-in (x ∷ nest) =
    let out : is_in_range 1 0 x.bucket ≡ false = elim (cases_lt x.bucket 1) [ inl low ↦ under 1 0 x.bucket low | inr high ↦ over 1 0 x.bucket (omega arith) ] in
    ap (λ (b : Bool). cond b (x ∷ in_buckets nest 1 0) (in_buckets nest 1 0)) out ∙ none-in nest

-- ---- the list of a leg's products, and the definitions
cond-map : {X Y : Type 0} (f : X → Y) (b : Bool) (u v : List X) → cond b (map f u) (map f v) ≡ map f (cond b u v)
cond-map f true u v = refl
cond-map f false u v = refl

filter-map : {X Y : Type 0} (f : X → Y) (p : Y → Bool) (xs : List X) → filter p (map f xs) ≡ map f (filter (λ y. p (f y)) xs)
filter-map f p [] = refl
filter-map f p (y ∷ xs) =
    (λ i. cond (p (f y)) (f y ∷ filter-map f p xs i) (filter-map f p xs i)) ∙ cond-map f (p (f y)) (y ∷ filter (λ z. p (f z)) xs) (filter (λ z. p (f z)) xs)

sum_by-map : {X Y : Type 0} (g : Y → ℕ) (f : X → Y) (xs : List X) → sum_by g (map f xs) ≡ sum_by (λ y. g (f y)) xs
sum_by-map g f [] = refl
sum_by-map g f (y ∷ xs) = let rest = sum_by-map g f xs in omega (arith, sum_by-cons g (f y) (map f xs), sum_by-cons (λ z. g (f z)) y xs)

map-twice : {X Y Z : Type 0} (g : Y → Z) (f : X → Y) (xs : List X) → map g (map f xs) ≡ map (λ y. g (f y)) xs
map-twice g f [] = refl
map-twice g f (y ∷ xs) = ap (λ zs. g (f y) ∷ zs) (map-twice g f xs)

module _ (net : NetworkValue) (cert : Certificate) (i : ℕ) where
  between : (first last : ℕ) → in_buckets (nest_on net cert i) first last ≡ map (nested_of net cert i) (products_between net cert i first last)
  between first last = filter-map (nested_of net cert i) (λ (nested : Nested). is_in_range first last nested.bucket) (products_on (inventory_of net) i)

  sum-is : (f : Nested → ℕ) (first last : ℕ) → sum_by f (in_buckets (nest_on net cert i) first last) ≡ sum_by (λ j. f (nested_of net cert i j)) (products_between net cert i first last)
  sum-is f first last = ap (sum_by f) (between first last) ∙ sum_by-map f (nested_of net cert i) (products_between net cert i first last)

  pub demand-is : (k b h : ℕ) → nest_demand net k (nest_on net cert i) 1 b h ≡ demand_above net cert i k b h
  demand-is k b h = sum-is (λ (nested : Nested). demand_to_come net nested.product h k) 1 b

  pub weight-is : (k first last : ℕ) → nest_weight net k (nest_on net cert i) first last ≡ weight_of net cert i k first last
  weight-is k first last = sum-is (λ (nested : Nested). total_to_come net nested.product k) first last

  pub fares-is : (k first last : ℕ) → nest_fares net k (nest_on net cert i) first last ≡ weighted_fares net cert i k first last
  fares-is k first last =
      let g : Nested → ℤ = λ (nested : Nested). nested.fare *ℤ pos (total_to_come net nested.product k) in
      ap (λ (ns : List Nested). sum_of (map g ns)) (between first last) ∙ ap sum_of (map-twice g (nested_of net cert i) (products_between net cert i first last))
