-- The products that use a leg, product by product.
use Rattle.std.proofs.Common.{ℕ, ◌≡◌, ◌∙◌, ◌+◌, ◌<◌, ◌==◌, Bool, true, false, cond, List, [], ◌∷◌, ◌++◌, length, get_or, map, filter, Vec, sym, ap, arith, zero-add}
use Rattle.std.specs.List.{list_any, range_with_len}
use Rattle.std.specs.declared.alloc.Global.{Global}
use Rattle.std.proofs.lemmas.List.{append-nil, get_or-map, length-map}
use Rattle.std.proofs.lemmas.List.Elements.{filter-append}
use Rattle.std.proofs.lemmas.List.FromFn.{get_or-map-range_with_len, length-map-range_with_len}
use Rattle.std.proofs.lemmas.Option.{unwrap_or-slice_get}
use Rattle.nrm_number.proofs.Ranges.{range-more}
use Rattle.nrm_model.specs.declared.product.Product.{Product}
use Rattle.nrm_model.specs.Inventory.{legs_of, uses_leg}
use Rattle.nrm_model.specs.Stored.{legs_alone}

-- a product that was read uses the legs that it has
pub uses-read : (products : List Product) (n leg : ℕ) (product : Product) → n < length products → product ≡ get_or products n product → list_any (λ own. own == leg) product.legs ≡ uses_leg (legs_alone products) leg n
uses-read products n leg product short read =
    let legs : product.legs ≡ legs_of (legs_alone products) n =
    ap (λ (p : Product). p.legs) read ∙ sym (unwrap_or-slice_get (map (λ (p : Product). p.legs) products) n [] ∙ get_or-map (λ (p : Product). p.legs) products n product [] short) in
    ap (list_any (λ own. own == leg)) legs

-- one number more
one-more : (test : ℕ → Bool) (n : ℕ) (b : Bool) → test n ≡ b → filter test (range_with_len 0 (n + 1)) ≡ filter test (range_with_len 0 n) ++ cond b (n ∷ []) []
one-more test n b is =
    ap (filter test) (range-more n) ∙ filter-append test (range_with_len 0 n) (n ∷ [])
    ∙ ap (λ (b : Bool). filter test (range_with_len 0 n) ++ cond b (n ∷ []) []) is

pub taken-in : (test : ℕ → Bool) (n : ℕ) (before after : List ℕ) → before ≡ filter test (range_with_len 0 n) → test n ≡ true → after ≡ before ++ n ∷ [] → after ≡ filter test (range_with_len 0 (n + 1))
taken-in test n before after are passes pushed = pushed ∙ ap (λ (xs : List ℕ). xs ++ n ∷ []) are ∙ sym (one-more test n true passes)

pub left-out : (test : ℕ → Bool) (n : ℕ) (before : List ℕ) → before ≡ filter test (range_with_len 0 n) → test n ≡ false → before ≡ filter test (range_with_len 0 (n + 1))
left-out test n before are fails = are ∙ sym (append-nil (filter test (range_with_len 0 n))) ∙ sym (one-more test n false fails)

-- a list among lists, seen as its items
pub list-at : (rows : List (Vec ℕ Global)) (f : ℕ → List ℕ) (n i : ℕ) (row : Vec ℕ Global) → map (λ (v : Vec ℕ Global). v.items) rows ≡ map f (range_with_len 0 n) → i < n → row ≡ get_or rows i row → row.items ≡ f i
list-at rows f n i row are short read =
    let long = length-map rows (λ (v : Vec ℕ Global). v.items) in
    let many = length-map-range_with_len f 0 n in
    let there : i < length rows = omega (arith, ap length are) in
    ap (λ (v : Vec ℕ Global). v.items) read ∙ sym (get_or-map (λ (v : Vec ℕ Global). v.items) rows i row [] there)
    ∙ ap (λ (xs : List (List ℕ)). get_or xs i []) are ∙ get_or-map-range_with_len f 0 n i i [] short (zero-add i)

pub lists-count : (rows : List (Vec ℕ Global)) (f : ℕ → List ℕ) (n : ℕ) → map (λ (v : Vec ℕ Global). v.items) rows ≡ map f (range_with_len 0 n) → length rows ≡ n
lists-count rows f n are = omega (arith, ap length are, length-map rows (λ (v : Vec ℕ Global). v.items), length-map-range_with_len f 0 n)
