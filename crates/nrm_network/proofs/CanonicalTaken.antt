-- The rows of a canonical file are taken one after another, and none is refused.
use Rattle.std.proofs.Common.{ℕ, zero, suc, ◌≡◌, ◌≢◌, ◌∙◌, ◌+◌, ◌<◌, ◌≤◌, true, false, ◌||◌, ◌==◌, List, [], ◌∷◌, ◌++◌, length, get_or, map}
use Rattle.std.proofs.Common.{sum, bytes_eq, refl, ap, subst, arith, inl, inr, All, AllPairs, length-append}
use Rattle.std.specs.Prelude.{codes}
use Rattle.std.specs.List.{list_any}
use Rattle.std.proofs.lemmas.Bool.{or_from, cases_Bool}
use Rattle.std.proofs.lemmas.List.{append-nil, get_or-map, length-map}
use Rattle.std.proofs.lemmas.List.Elements.{All-head, All-tail, filter-append}
use Rattle.std.proofs.lemmas.List.Folds.{list_any-append}
use Rattle.nrm_model.specs.declared.leg.Leg.{Leg}
use Rattle.nrm_model.specs.declared.product.Product.{Product}
use Rattle.nrm_model.specs.Network.{NetworkValue}
use Rattle.nrm_model.specs.Demand.{demand_row}
use Rattle.nrm_model.specs.Limits.{IsNetwork, IsLeg, IsProduct}
use Rattle.nrm_network.specs.Rows.{Row, field, begins, leg_rows, product_rows, demand_rows, is_named, gives_demand}
use Rattle.nrm_network.specs.Checks.{why_refused}
use Rattle.nrm_network.specs.Inner.Draft.{Accepts}
use Rattle.nrm_network.specs.Canonical.{periods_fields, leg_fields, product_fields}
use Rattle.nrm_network.proofs.RefusalPlace.{Accepts-append}
use Rattle.nrm_network.proofs.NumberFields.{AllPairs-head, AllPairs-tail}
use Rattle.nrm_network.proofs.CanonicalRows.{demand_line}
use Rattle.nrm_network.proofs.DemandRows.{cells, demands, cells-none, cells-all, filter-none, filter-all, gives-no-other, gives-not-then}
use Rattle.nrm_network.proofs.CanonicalChecks.{leg-accepted, product-accepted, demand-accepted}
use Rattle.nrm_model.proofs.NameLemmas.{bytes_eq-apart}

-- what holds of what a function gives for each element
back : {X Y : Type 0} (P : Y → Type 0) (f : X → Y) (xs : List X) → All P (map f xs) → All (λ x. P (f x)) xs
back P f xs all = λ k d short. subst P (get_or-map f xs k d (f d) short) (all k (f d) (omega (arith, length-map xs f)))

-- one row more, of another name
pub named-push : (rows : List Row) (row : Row) (name : List ℕ) → is_named rows name ≡ false → bytes_eq (field row 1) name ≡ false
    → is_named (rows ++ row ∷ []) name ≡ false
named-push rows row name none other =
    list_any-append (λ r. bytes_eq (field r 1) name) rows (row ∷ [])
    ∙ or_from (is_named rows name) (bytes_eq (field row 1) name || false) none (or_from (bytes_eq (field row 1) name) false other refl)

-- the names of the products after the first differ from its name
pub names-differ-from : (product : Product) (rest : List Product) → AllPairs (λ a b. a ≢ b) (map (λ (p : Product). p.name) (product ∷ rest))
    → All (λ (other : Product). product.name ≢ other.name) rest
names-differ-from product rest apart =
    back (λ n. product.name ≢ n) (λ (other : Product). other.name) rest
    (AllPairs-head (λ a b. a ≢ b) product.name (map (λ (other : Product). other.name) rest) apart)

pub legs-taken : (net : NetworkValue) → IsNetwork net → (before : List Row) (rest : List Leg) → All IsLeg rest
    → length (leg_rows before) + length rest ≤ 64 → All (λ (leg : Leg). is_named (leg_rows before) leg.name ≡ false) rest
    → AllPairs (λ a b. a ≢ b) (map (λ (leg : Leg). leg.name) rest)
    → Accepts why_refused (periods_fields net ∷ before) (map leg_fields rest)
legs-taken net is before [] good few fresh apart = tt
legs-taken net is before (leg ∷ rest) good few fresh apart =
    let pushed : leg_rows (before ++ leg_fields leg ∷ []) ≡ leg_rows before ++ leg_fields leg ∷ [] =
    filter-append (begins (codes "leg")) before (leg_fields leg ∷ []) in
    let differs : All (λ (other : Leg). leg.name ≢ other.name) rest =
    back (λ n. leg.name ≢ n) (λ (other : Leg). other.name) rest
    (AllPairs-head (λ a b. a ≢ b) leg.name (map (λ (other : Leg). other.name) rest) apart) in
    let later = All-tail (λ (other : Leg). is_named (leg_rows before) other.name ≡ false) leg rest fresh in (
      leg-accepted net is before leg (All-head IsLeg leg rest good) (omega arith)
          (All-head (λ (other : Leg). is_named (leg_rows before) other.name ≡ false) leg rest fresh),
      legs-taken net is (before ++ leg_fields leg ∷ []) rest (All-tail IsLeg leg rest good)
          (rw pushed (omega (arith, length-append (leg_rows before) (leg_fields leg ∷ []))))
          (λ k d short. rw pushed (named-push (leg_rows before) (leg_fields leg) (get_or rest k d).name (later k d short)
          (bytes_eq-apart leg.name (get_or rest k d).name (differs k d short))))
          (AllPairs-tail (λ a b. a ≢ b) leg.name (map (λ (other : Leg). other.name) rest) apart),
    )

pub products-taken : (net : NetworkValue) → IsNetwork net → (before : List Row) (rest : List Product)
    → All (IsProduct (length net.legs)) rest
    → leg_rows before ≡ map leg_fields net.legs
    → length (product_rows before) + length rest ≤ 256
    → All (λ (product : Product). is_named (product_rows before) product.name ≡ false) rest
    → AllPairs (λ a b. a ≢ b) (map (λ (product : Product). product.name) rest)
    → Accepts why_refused (periods_fields net ∷ before) (map (product_fields net) rest)
products-taken net is before [] good legs few fresh apart = tt
products-taken net is before (product ∷ rest) good legs few fresh apart =
    let row : Row = product_fields net product in
    let kept : leg_rows (before ++ row ∷ []) ≡ map leg_fields net.legs = filter-append (begins (codes "leg")) before (row ∷ [])
    ∙ append-nil (leg_rows before) ∙ legs in
    let pushed : product_rows (before ++ row ∷ []) ≡ product_rows before ++ row ∷ [] =
    filter-append (begins (codes "product")) before (row ∷ []) in
    let differs = names-differ-from product rest apart in
    let later = All-tail (λ (other : Product). is_named (product_rows before) other.name ≡ false) product rest fresh in (
      product-accepted net is before product (All-head (IsProduct (length net.legs)) product rest good) legs (omega arith)
          (All-head (λ (other : Product). is_named (product_rows before) other.name ≡ false) product rest fresh),
      products-taken net is (before ++ row ∷ []) rest (All-tail (IsProduct (length net.legs)) product rest good) kept
          (rw pushed (omega (arith, length-append (product_rows before) (row ∷ []))))
          (λ k d short. rw pushed (named-push (product_rows before) row (get_or rest k d).name (later k d short)
          (bytes_eq-apart product.name (get_or rest k d).name (differs k d short))))
          (AllPairs-tail (λ a b. a ≢ b) product.name (map (λ (other : Product). other.name) rest) apart),
    )

-- the rows of one product, from a history on
cells-taken : (net : NetworkValue) → IsNetwork net → (before : List Row) (j : ℕ) (product : Product) → IsProduct (length net.legs) product
    → j < length net.products → (a n : ℕ) → a + n ≤ net.histories
    → is_named (product_rows before) product.name ≡ true
    → ((t : ℕ) → a < t → list_any (gives_demand product.name t) (demand_rows before) ≡ false)
    → Accepts why_refused (periods_fields net ∷ before) (cells net j product a n)
cells-taken net is before j product good few a zero within there fresh = tt
cells-taken net is before j product good few a (suc n) within there fresh =
    let row : Row = demand_line net j product a in
    let (h0, h1) = is.histories in
    let kept : product_rows (before ++ row ∷ []) ≡ product_rows before = filter-append (begins (codes "product")) before (row ∷ [])
    ∙ append-nil (product_rows before) in
    let pushed : demand_rows (before ++ row ∷ []) ≡ demand_rows before ++ row ∷ [] =
    filter-append (begins (codes "demand")) before (row ∷ []) in
    elim (cases_Bool (sum (demand_row net j a) == 0)) [
      | inl e ↦ rw e (cells-taken net is before j product good few (a + 1) n (omega arith) there (λ t above. fresh t (omega arith)))
      | inr e ↦ rw e (
        demand-accepted net is before j a product good few (omega arith) (fresh (a + 1) (omega arith)) there,
        cells-taken net is (before ++ row ∷ []) j product good few (a + 1) n (omega arith) (rw kept there)
            (λ t above. rw pushed (list_any-append (gives_demand product.name t) (demand_rows before) (row ∷ [])
            ∙ or_from (list_any (gives_demand product.name t) (demand_rows before)) (gives_demand product.name t row || false)
            (fresh t (omega arith))
            (or_from (gives_demand product.name t row) false
            (gives-not-then net j product a t product.name (omega arith) (omega arith)) refl))),
      )
    ]

pub demands-taken : (net : NetworkValue) → IsNetwork net → (before : List Row) (j : ℕ) (rest : List Product)
    → All (IsProduct (length net.legs)) rest → j + length rest ≤ length net.products
    → All (λ (product : Product). is_named (product_rows before) product.name ≡ true) rest
    → All (λ (product : Product). (t : ℕ) → list_any (gives_demand product.name t) (demand_rows before) ≡ false) rest
    → AllPairs (λ a b. a ≢ b) (map (λ (product : Product). product.name) rest)
    → Accepts why_refused (periods_fields net ∷ before) (demands net j rest)
demands-taken net is before j [] good few there fresh apart = tt
demands-taken net is before j (product ∷ rest) good few there fresh apart =
    let here : List Row = cells net j product 0 net.histories in
    let none : product_rows here ≡ [] =
    filter-none (begins (codes "product")) here
    (cells-none net j product (begins (codes "product")) 0 net.histories (λ h low high. refl)) in
    let same : demand_rows here ≡ here =
    filter-all (begins (codes "demand")) here (cells-all net j product (begins (codes "demand")) 0 net.histories (λ h. refl)) in
    let kept : product_rows (before ++ here) ≡ product_rows before = filter-append (begins (codes "product")) before here
    ∙ ap (λ (r : List Row). product_rows before ++ r) none ∙ append-nil (product_rows before) in
    let pushed : demand_rows (before ++ here) ≡ demand_rows before ++ here = filter-append (begins (codes "demand")) before here
    ∙ ap (λ (r : List Row). demand_rows before ++ r) same in
    let differs = names-differ-from product rest apart in
    let there_later = All-tail (λ (other : Product). is_named (product_rows before) other.name ≡ true) product rest there in
    let fresh_later = All-tail (λ (other : Product). (t : ℕ)
    → list_any (gives_demand other.name t) (demand_rows before) ≡ false) product rest fresh in
    Accepts-append why_refused (periods_fields net ∷ before) here (demands net (j + 1) rest)
    (cells-taken net is before j product (All-head (IsProduct (length net.legs)) product rest good) (omega arith) 0 net.histories
    (omega arith)
    (All-head (λ (other : Product). is_named (product_rows before) other.name ≡ true) product rest there)
    (λ t above. All-head (λ (other : Product). (t : ℕ)
    → list_any (gives_demand other.name t) (demand_rows before) ≡ false) product rest fresh t))
    (demands-taken net is (before ++ here) (j + 1) rest (All-tail (IsProduct (length net.legs)) product rest good) (omega arith)
    (λ k d short. rw kept (there_later k d short))
    (λ k d short t. rw pushed (list_any-append (gives_demand (get_or rest k d).name t) (demand_rows before) here
    ∙ or_from (list_any (gives_demand (get_or rest k d).name t) (demand_rows before))
    (list_any (gives_demand (get_or rest k d).name t) here) (fresh_later k d short t)
    (cells-none net j product (gives_demand (get_or rest k d).name t) 0 net.histories
    (λ h low high. gives-no-other net j product h (get_or rest k d).name t
    (bytes_eq-apart product.name (get_or rest k d).name (differs k d short))))))
    (AllPairs-tail (λ a b. a ≢ b) product.name (map (λ (other : Product). other.name) rest) apart))
