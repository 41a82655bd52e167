-- A look-up of a product by its name, where the place of the name is known.
use Rattle.std.proofs.Common.{ℕ, zero, suc, ◌≡◌, ◌≢◌, ◌∙◌, ◌+◌, ◌<◌, List, [], ◌∷◌, length, get_or, bytes_eq, true, ap, sym, subst, arith}
use Rattle.std.proofs.Common.{Some, AllPairs}
use Rattle.std.specs.List.{position_from}
use Rattle.std.proofs.lemmas.List.{length-map, get_or-map}
use Rattle.std.proofs.lemmas.Slice.Eq.{bytes_eq-Decides}
use Rattle.nrm_model.specs.declared.product.Product.{Product}
use Rattle.nrm_network.specs.Rows.{Row, field, leg_rows, product_rows, refund_rows}
use Rattle.nrm_network.specs.File.{product_in}
use Rattle.nrm_network.specs.Inner.Draft.{Stands, names_of}
use Rattle.nrm_network.specs.declared.draft.Draft.{Draft}
use Rattle.nrm_network.proofs.NumberFields.{bytes-same, AllPairs-head, AllPairs-tail}
use Rattle.nrm_network.proofs.ReadNetwork.{names-apart}
use Rattle.nrm_network.proofs.DraftGrowth.{good-taken}
use Rattle.nrm_model.proofs.NameLemmas.{bytes_eq-apart}

-- names that differ are each found at their place
name-at : (names : List (List ℕ)) (i k : ℕ) (name : List ℕ) → AllPairs (λ a b. a ≢ b) names → i < length names → get_or names i [] ≡ name
    → position_from (λ other. bytes_eq other name) k names ≡ Some (k + i)
name-at [] i k name apart short here = absurd (omega arith)
name-at (x ∷ xs) zero k name apart short here =
    let same : bytes_eq x name ≡ true = subst (λ (n : List ℕ). bytes_eq x n ≡ true) here (bytes-same x) in
    let place : k ≡ k + 0 = omega arith in
    rw same (ap (λ (n : ℕ). Some n) place)
name-at (x ∷ xs) (suc i) k name apart short here =
    let within : i < length xs = omega arith in
    let other : x ≢ name = subst (λ (n : List ℕ). x ≢ n) here (AllPairs-head (λ a b. a ≢ b) x xs apart i [] within) in
    let none = bytes_eq-apart x name other in
    let place : k + 1 + i ≡ k + suc i = omega arith in
    rw none (name-at xs i (k + 1) name (AllPairs-tail (λ a b. a ≢ b) x xs apart) within here ∙ ap (λ (n : ℕ). Some n) place)

-- so is the name of a product of a draft
pub product-at : (draft : Draft) (taken : List Row) (i : ℕ) (product : Product) (name : List ℕ) → Stands draft taken
    → i < length draft.products.items → product ≡ get_or draft.products.items i product → bytes_eq product.name name ≡ true
    → Some i ≡ position_from (λ other. bytes_eq other name) 0 draft.product_names
product-at draft [] i product name is short at same = let none = ap length is.products in absurd (omega (arith, none))
product-at draft (first ∷ more) i product name is short at same =
    let taken : List Row = first ∷ more in
    let rows : List Row = product_rows taken in
    let good = good-taken first more is.accepted in
    let few : i < length rows = omega (arith, ap length is.products, length-map rows (product_in (leg_rows taken) (refund_rows taken))) in
    let within : i < length (names_of rows) = omega (arith, few, length-map rows (λ (r : Row). field r 1)) in
    let named : product ≡ product_in (leg_rows taken) (refund_rows taken) (get_or rows i []) = at ∙ ap (λ (ps : List Product). get_or ps i product) is.products
    ∙ get_or-map (product_in (leg_rows taken) (refund_rows taken)) rows i [] product few in
    let here : get_or (names_of rows) i [] ≡ name = get_or-map (λ (r : Row). field r 1) rows i [] [] few
    ∙ sym (ap (λ (p : Product). p.name) named) ∙ (bytes_eq-Decides product.name name).0 same in
    let place : 0 + i ≡ i = omega arith in
    sym (ap (λ (ns : List (List ℕ)). position_from (λ other. bytes_eq other name) 0 ns) is.product_names
    ∙ name-at (names_of rows) i 0 name (names-apart (names_of rows) good.product_names) within here ∙ ap (λ (n : ℕ). Some n) place)
