-- The refund rows of a canonical file: what tests find among them, that they are taken, and that they give back the percentages.
use Rattle.std.proofs.Common.{ℕ, zero, suc, ◌≡◌, ◌≢◌, ◌∙◌, ◌^◌, ◌<◌, ◌≤◌, Bool, true, false, ◌==◌, List, [], ◌∷◌, ◌++◌, length, get_or, map}
use Rattle.std.proofs.Common.{flat_map, bytes_eq, codes, refl, sym, arith, inl, inr, All, AllPairs, None}
use Rattle.std.specs.Prelude.{decimal}
use Rattle.std.specs.List.{list_any, list_all}
use Rattle.std.proofs.lemmas.Bool.{and_from, cases_Bool, eqb-true, not_from_true, or_from}
use Rattle.std.proofs.lemmas.List.{append-nil}
use Rattle.std.proofs.lemmas.List.Elements.{All-cons, All-head, All-nil, All-tail, filter-append}
use Rattle.nrm_text.specs.Names.{is_name}
use Rattle.nrm_text.specs.Numbers.{is_whole, value_of}
use Rattle.nrm_text.proofs.Decimals.{is_whole-decimal, value_of-decimal}
use Rattle.nrm_model.specs.declared.product.Product.{Product}
use Rattle.nrm_model.specs.Network.{NetworkValue}
use Rattle.nrm_model.specs.Limits.{IsProduct}
use Rattle.nrm_model.proofs.NameLemmas.{bytes_eq-apart}
use Rattle.nrm_network.specs.Rows.{Row, begins, field, leg_rows, product_rows, demand_rows, refund_rows, is_named}
use Rattle.nrm_network.specs.Checks.{is_within, why_refused}
use Rattle.nrm_network.specs.Canonical.{periods_fields, refund_fields}
use Rattle.nrm_network.specs.File.{refund_given}
use Rattle.nrm_network.specs.Inner.Draft.{Accepts}
use Rattle.nrm_network.proofs.CanonicalRows.{decimal-plain, name-plain, row-plain}
use Rattle.nrm_network.proofs.CanonicalTaken.{named-push, names-differ-from}
use Rattle.nrm_network.proofs.ChecksByName.{not-refused}
use Rattle.nrm_network.proofs.DemandRows.{filter-all, filter-none, find-none}
use Rattle.nrm_network.proofs.NumberFields.{AllPairs-tail, bytes-same, within-field}
use Rattle.nrm_network.proofs.PlainRows.{IsPlain, IsPlainRow}

-- the row of a product, and those of some products
abbrev pub refund_line : Product → Row
refund_line product = codes "refund" ∷ product.name ∷ decimal product.refund ∷ []

abbrev pub refunds : List Product → List Row
refunds products = flat_map refund_fields products

-- a test that none of them passes, and one that each passes
refunds-none : (p : Row → Bool) (products : List Product) → All (λ product. p (refund_line product) ≡ false) products
    → list_any p (refunds products) ≡ false
refunds-none p [] none = refl
refunds-none p (product ∷ rest) none =
    let later = refunds-none p rest (All-tail (λ q. p (refund_line q) ≡ false) product rest none) in
    elim (cases_Bool (product.refund == 100)) [
      | inl e ↦ rw e later
      | inr e ↦ rw e (or_from (p (refund_line product)) (list_any p (refunds rest))
          (All-head (λ q. p (refund_line q) ≡ false) product rest none) later)
    ]

refunds-all : (p : Row → Bool) (products : List Product) → ((product : Product) → p (refund_line product) ≡ true)
    → list_all p (refunds products) ≡ true
refunds-all p [] all = refl
refunds-all p (product ∷ rest) all =
    let later = refunds-all p rest all in
    elim (cases_Bool (product.refund == 100)) [
      | inl e ↦ rw e later
      | inr e ↦ rw e (and_from (p (refund_line product)) (list_all p (refunds rest)) (all product) later)
    ]

-- the rows of each kind among them
pub refunds-leg_rows : (products : List Product) → leg_rows (refunds products) ≡ []
refunds-leg_rows products = filter-none (begins (codes "leg")) (refunds products)
    (refunds-none (begins (codes "leg")) products (λ k d short. refl))

pub refunds-product_rows : (products : List Product) → product_rows (refunds products) ≡ []
refunds-product_rows products = filter-none (begins (codes "product")) (refunds products)
    (refunds-none (begins (codes "product")) products (λ k d short. refl))

pub refunds-demand_rows : (products : List Product) → demand_rows (refunds products) ≡ []
refunds-demand_rows products = filter-none (begins (codes "demand")) (refunds products)
    (refunds-none (begins (codes "demand")) products (λ k d short. refl))

pub refunds-refund_rows : (products : List Product) → refund_rows (refunds products) ≡ refunds products
refunds-refund_rows products = filter-all (begins (codes "refund")) (refunds products)
    (refunds-all (begins (codes "refund")) products (λ product. refl))

-- they are plain, and few
refund-plain : (n : ℕ) (product : Product) → IsProduct n product → IsPlainRow (refund_line product)
refund-plain n product good =
    let small = good.refund in
    row-plain (codes "refund") product.name (decimal product.refund) [] (record { unquoted = refl; short = omega arith })
    (name-plain product.name good.name) (decimal-plain product.refund (omega arith)) (All-nil IsPlain) (omega arith)

pub refunds-plain : (n : ℕ) (products : List Product) → All (IsProduct n) products
    → All IsPlainRow (refunds products) × (length (refunds products) ≤ length products)
refunds-plain n [] good = (All-nil IsPlainRow, omega arith)
refunds-plain n (product ∷ rest) good =
    let (plain, few) = refunds-plain n rest (All-tail (IsProduct n) product rest good) in
    elim (cases_Bool (product.refund == 100)) [
      | inl e ↦ rw e (plain, omega (arith, few))
      | inr e ↦ rw e (
        All-cons IsPlainRow (refund_line product) (refunds rest) (refund-plain n product (All-head (IsProduct n) product rest good)) plain,
        omega (arith, few),
      )
    ]

-- no check refuses one
refund-accepted : (net : NetworkValue) (before : List Row) (product : Product) → IsProduct (length net.legs) product
    → is_named (refund_rows before) product.name ≡ false → is_named (product_rows before) product.name ≡ true
    → why_refused (periods_fields net ∷ before) (refund_line product) ≡ None
refund-accepted net before product good fresh there =
    let small = good.refund in
    let named : is_name product.name ≡ true = good.name in
    let within : product.refund < 2 ^ 64 = omega arith in
    let there_not = not_from_true (is_named (product_rows before) product.name) there in
    not-refused (periods_fields net ∷ before) (refund_line product) (record {
      known = refl;
      order = refl;
      count = refl;
      few = refl;
      names = and_from (is_name product.name) true named refl;
      numbers = and_from (is_whole (decimal product.refund)) true (is_whole-decimal product.refund within) refl;
      range = and_from (is_within (decimal product.refund, 0, 100)) true
          (within-field 0 100 product.refund (omega arith) (omega arith) small) refl;
      once = fresh;
      there = there_not;
      falling = refl;
      total = refl;
    })

pub refunds-taken : (net : NetworkValue) (before : List Row) (rest : List Product) → All (IsProduct (length net.legs)) rest
    → All (λ (product : Product). is_named (product_rows before) product.name ≡ true) rest
    → All (λ (product : Product). is_named (refund_rows before) product.name ≡ false) rest
    → AllPairs (λ a b. a ≢ b) (map (λ (product : Product). product.name) rest)
    → Accepts why_refused (periods_fields net ∷ before) (refunds rest)
refunds-taken net before [] good there fresh apart = tt
refunds-taken net before (product ∷ rest) good there fresh apart =
    let row : Row = refund_line product in
    let good_later = All-tail (IsProduct (length net.legs)) product rest good in
    let there_later = All-tail (λ (q : Product). is_named (product_rows before) q.name ≡ true) product rest there in
    let fresh_later = All-tail (λ (q : Product). is_named (refund_rows before) q.name ≡ false) product rest fresh in
    let apart_later = AllPairs-tail (λ a b. a ≢ b) product.name (map (λ (q : Product). q.name) rest) apart in
    let kept : product_rows (before ++ row ∷ []) ≡ product_rows before = filter-append (begins (codes "product")) before (row ∷ [])
    ∙ append-nil (product_rows before) in
    let pushed : refund_rows (before ++ row ∷ []) ≡ refund_rows before ++ row ∷ [] =
    filter-append (begins (codes "refund")) before (row ∷ []) in
    let differs = names-differ-from product rest apart in
    elim (cases_Bool (product.refund == 100)) [
      | inl e ↦ rw e (refunds-taken net before rest good_later there_later fresh_later apart_later)
      | inr e ↦ rw e (
        refund-accepted net before product (All-head (IsProduct (length net.legs)) product rest good)
            (All-head (λ (q : Product). is_named (refund_rows before) q.name ≡ false) product rest fresh)
            (All-head (λ (q : Product). is_named (product_rows before) q.name ≡ true) product rest there),
        refunds-taken net (before ++ row ∷ []) rest good_later (λ k d short. rw kept (there_later k d short))
            (λ k d short. rw pushed (named-push (refund_rows before) row (get_or rest k d).name (fresh_later k d short)
            (bytes_eq-apart product.name (get_or rest k d).name (differs k d short)))) apart_later,
      )
    ]

-- the percentage of a product comes back
refunds-of-others : (name : List ℕ) (rest : List Product) → All (λ (product : Product). bytes_eq product.name name ≡ false) rest
    → list_any (λ row. bytes_eq (field row 1) name) (refunds rest) ≡ false
refunds-of-others name rest other = refunds-none (λ row. bytes_eq (field row 1) name) rest other

pub refund-back : (n : ℕ) (products : List Product) → All (IsProduct n) products
    → AllPairs (λ a b. a ≢ b) (map (λ (product : Product). product.name) products) → (k : ℕ) (d : Product) → k < length products
    → refund_given (refunds products) (get_or products k d).name ≡ (get_or products k d).refund
refund-back n [] good apart k d short = absurd (omega arith)
refund-back n (product ∷ rest) good apart zero d short =
    let own = All-head (IsProduct n) product rest good in
    let small = own.refund in
    let value : value_of (decimal product.refund) ≡ product.refund = value_of-decimal product.refund (omega arith) in
    let same = bytes-same product.name in
    let differs = names-differ-from product rest apart in
    let none = find-none (λ row. bytes_eq (field row 1) product.name) (refunds rest)
    (refunds-of-others product.name rest
    (λ k e few. bytes_eq-apart (get_or rest k e).name product.name (λ s. differs k e few (sym s)))) in
    elim (cases_Bool (product.refund == 100)) [
      | inl e ↦ rw e (rw none (sym (eqb-true product.refund 100 e)))
      | inr e ↦ rw (e, same) value
    ]
refund-back n (product ∷ rest) good apart (suc k) d short =
    let differs = names-differ-from product rest apart in
    let other : bytes_eq product.name (get_or rest k d).name ≡ false =
    bytes_eq-apart product.name (get_or rest k d).name (differs k d (omega arith)) in
    let later = refund-back n rest (All-tail (IsProduct n) product rest good)
    (AllPairs-tail (λ a b. a ≢ b) product.name (map (λ (q : Product). q.name) rest) apart) k d (omega arith) in
    elim (cases_Bool (product.refund == 100)) [ inl e ↦ rw e later | inr e ↦ rw (e, other) later ]
