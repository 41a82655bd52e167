-- The text of rows, written piece by piece.
use Rattle.std.proofs.Common.{ℕ, suc, ◌≡◌, ◌∙◌, ◌+◌, ◌<◌, ◌==◌, List, [], ◌∷◌, ◌++◌, length, take, get_or, map, sum, flat_map, refl, sym}
use Rattle.std.proofs.Common.{ap, subst, arith, inl, inr, Some, append_assoc}
use Rattle.std.specs.Prelude.{slice_get, if◌then◌else◌}
use Rattle.std.specs.List.{join_with_byte, enumerate_from, range_with_len}
use Rattle.std.proofs.lemmas.Bool.{cases_Bool}
use Rattle.std.proofs.lemmas.List.{append-nil, take_more, flat_map_more}
use Rattle.std.proofs.lemmas.List.Concat.{flat_map-append}
use Rattle.std.proofs.lemmas.List.Folds.{flat_map-map}
use Rattle.std.proofs.lemmas.Option.{get_or_from_slice_get, unwrap_or-slice_get, slice_get_within}
use Rattle.nrm_model.specs.declared.product.Product.{Product}
use Rattle.nrm_model.specs.Network.{NetworkValue, product_of}
use Rattle.nrm_model.specs.Demand.{demand_row}
use Rattle.nrm_network.specs.Canonical.{canonical_file, demand_fields, leg_fields, periods_fields, product_fields, refund_fields}
use Rattle.nrm_network.specs.Rows.{Row}
use Rattle.nrm_network.specs.Inner.RowText.{after_commas, history_fields, history_text, row_text}
use Rattle.nrm_number.proofs.Ranges.{range-more}

-- a row is its first field, the others after commas, and the end of the line
joined : (word : List ℕ) (fields : List (List ℕ)) → join_with_byte 44 (word ∷ fields) ≡ word ++ after_commas fields
joined word [] = sym (append-nil word)
joined word (field ∷ fields) = ap (λ xs. word ++ 44 ∷ xs) (joined field fields)

regroup : (s word name number more : List ℕ)
    → ((((s ++ word) ++ 44 ∷ name) ++ 44 ∷ number) ++ more) ++ 10 ∷ [] ≡ s ++ ((word ++ (44 ∷ name ++ (44 ∷ number ++ more))) ++ 10 ∷ [])
regroup s word name number more = simp append_assoc

pub row_written : (s0 s1 s2 s3 s4 s5 word name number : List ℕ) (more : List (List ℕ)) → s1 ≡ s0 ++ word → s2 ≡ s1 ++ 44 ∷ name
    → s3 ≡ s2 ++ 44 ∷ number → s4 ≡ s3 ++ after_commas more → s5 ≡ s4 ++ 10 ∷ []
    → s5 ≡ s0 ++ row_text (word ∷ name ∷ number ∷ more)
row_written s0 s1 s2 s3 s4 s5 word name number more e1 e2 e3 e4 e5 =
    e5 ∙ ap (λ s. s ++ 10 ∷ []) e4 ∙ ap (λ s. (s ++ after_commas more) ++ 10 ∷ []) e3
    ∙ ap (λ s. ((s ++ 44 ∷ number) ++ after_commas more) ++ 10 ∷ []) e2
    ∙ ap (λ s. (((s ++ 44 ∷ name) ++ 44 ∷ number) ++ after_commas more) ++ 10 ∷ []) e1 ∙ regroup s0 word name number (after_commas more)
    ∙ ap (λ t. s0 ++ (t ++ 10 ∷ [])) (sym (joined word (name ∷ number ∷ more)))

-- one element more of a list, or of a range
pub element_more : {X : Type 0} (f : X → List ℕ) (s : List ℕ) (xs : List X) (i : ℕ) (x : X) → Some x ≡ slice_get xs i
    → (s ++ flat_map f (take i xs)) ++ f x ≡ s ++ flat_map f (take (i + 1) xs)
element_more f s xs i x here =
    flat_map_more f s (take i xs) x
    ∙ ap (λ ys. s ++ flat_map f ys) (ap (λ y. take i xs ++ y ∷ []) (sym (get_or_from_slice_get xs i x x (sym here)))
    ∙ sym (take_more xs i x (slice_get_within xs i x (sym here))))

plus-none : (j : ℕ) → j + 0 ≡ j
plus-none j = omega arith

none-plus : (i : ℕ) → 0 + i ≡ i
none-plus i = omega arith

plus-next : (j i : ℕ) → (j + 1) + i ≡ j + suc i
plus-next j i = omega arith

pub range_more : (f : ℕ → List ℕ) (s : List ℕ) (n : ℕ)
    → (s ++ flat_map f (range_with_len 0 n)) ++ f n ≡ s ++ flat_map f (range_with_len 0 (n + 1))
range_more f s n = flat_map_more f s (range_with_len 0 n) n ∙ ap (λ ms. s ++ flat_map f ms) (sym (range-more n))

-- the text of the demand rows
histories-text : (net : NetworkValue) (j : ℕ) (range : List ℕ)
    → flat_map row_text (flat_map (λ h. if sum (demand_row net j h) == 0 then [] else history_fields net j h ∷ []) range)
    ≡ flat_map (history_text net j) range
histories-text net j [] = refl
histories-text net j (h ∷ range) = elim (cases_Bool (sum (demand_row net j h) == 0)) [
  | inl e ↦ rw e (histories-text net j range)
  | inr e ↦ rw e (ap (λ ys. row_text (history_fields net j h) ++ ys) (histories-text net j range))
]

demands-text : (net : NetworkValue) (j : ℕ) (rest : List Product) (d : Product)
    → ((i : ℕ) → i < length rest → product_of net (j + i) ≡ get_or rest i d)
    → flat_map row_text (flat_map (demand_fields net) (enumerate_from j rest))
    ≡ flat_map (λ k. flat_map (history_text net k) (range_with_len 0 net.histories)) (range_with_len j (length rest))
demands-text net j [] d are = refl
demands-text net j (product ∷ rest) d are =
    let here : product_of net j ≡ product = ap (product_of net) (sym (plus-none j)) ∙ are 0 (omega arith) in
    let first : flat_map row_text (demand_fields net (j, product)) ≡ flat_map (history_text net j) (range_with_len 0 net.histories) =
    subst (λ (p : Product). flat_map row_text (demand_fields net (j, p))
    ≡ flat_map (history_text net j) (range_with_len 0 net.histories)) here (histories-text net j (range_with_len 0 net.histories)) in
    flat_map-append row_text (demand_fields net (j, product)) (flat_map (demand_fields net) (enumerate_from (j + 1) rest))
    ∙ ap (λ ys. ys ++ flat_map row_text (flat_map (demand_fields net) (enumerate_from (j + 1) rest))) first
    ∙ ap (λ ys. flat_map (history_text net j) (range_with_len 0 net.histories) ++ ys)
    (demands-text net (j + 1) rest d (λ i short. ap (product_of net) (plus-next j i) ∙ are (suc i) (omega arith)))

five : (s0 s1 s2 s3 s4 s5 a b c r d : List ℕ) → s0 ≡ [] → s1 ≡ s0 ++ a → s2 ≡ s1 ++ b → s3 ≡ s2 ++ c → s4 ≡ s3 ++ r → s5 ≡ s4 ++ d
    → s5 ≡ a ++ (((b ++ c) ++ r) ++ d)
five s0 s1 s2 s3 s4 s5 a b c r d e0 e1 e2 e3 e4 e5 = e5
    ∙ ap (λ s. s ++ d) (e4 ∙ ap (λ s. s ++ r) (e3 ∙ ap (λ s. s ++ c) (e2 ∙ ap (λ s. s ++ b) (e1 ∙ ap (λ s. s ++ a) e0))))
    ∙ simp append_assoc

-- the text of rows part by part
four-texts : (b c r d : List Row) → flat_map row_text (b ++ c ++ r ++ d)
    ≡ ((flat_map row_text b ++ flat_map row_text c) ++ flat_map row_text r) ++ flat_map row_text d
four-texts b c r d =
    flat_map-append row_text (b ++ c ++ r) d
    ∙ ap (λ xs. xs ++ flat_map row_text d) (flat_map-append row_text (b ++ c) r
    ∙ ap (λ xs. xs ++ flat_map row_text r) (flat_map-append row_text b c))

-- the text of the refund rows
refunds-text : (products : List Product)
    → flat_map row_text (flat_map refund_fields products) ≡ flat_map (λ product. flat_map row_text (refund_fields product)) products
refunds-text [] = refl
refunds-text (product ∷ rest) = flat_map-append row_text (refund_fields product) (flat_map refund_fields rest)
    ∙ ap (λ xs. flat_map row_text (refund_fields product) ++ xs) (refunds-text rest)

pub file_written : (net : NetworkValue) (s0 s1 s2 s3 s4 s5 : List ℕ) → s0 ≡ [] → s1 ≡ s0 ++ row_text (periods_fields net)
    → s2 ≡ s1 ++ flat_map (λ leg. row_text (leg_fields leg)) net.legs
    → s3 ≡ s2 ++ flat_map (λ product. row_text (product_fields net product)) net.products
    → s4 ≡ s3 ++ flat_map (λ product. flat_map row_text (refund_fields product)) net.products
    → s5 ≡ s4 ++ flat_map (λ j. flat_map (history_text net j) (range_with_len 0 net.histories)) (range_with_len 0 (length net.products))
    → s5 ≡ canonical_file net
file_written net s0 s1 s2 s3 s4 s5 e0 e1 e2 e3 e4 e5 =
    let no_product : Product = record { name = []; fare = 0; refund = 0; legs = [] } in
    let legs = flat_map-map row_text leg_fields net.legs in
    let products = flat_map-map row_text (product_fields net) net.products in
    let refunds = refunds-text net.products in
    let demands = demands-text net 0 net.products no_product (λ i short. ap (product_of net) (none-plus i)
    ∙ unwrap_or-slice_get net.products i no_product) in
    let start = row_text (periods_fields net) in
    let all = four-texts (map leg_fields net.legs) (map (product_fields net) net.products) (flat_map refund_fields net.products)
    (flat_map (demand_fields net) (enumerate_from 0 net.products)) in
    five s0 s1 s2 s3 s4 s5 start (flat_map (λ leg. row_text (leg_fields leg)) net.legs)
    (flat_map (λ product. row_text (product_fields net product)) net.products)
    (flat_map (λ product. flat_map row_text (refund_fields product)) net.products)
    (flat_map (λ j. flat_map (history_text net j) (range_with_len 0 net.histories)) (range_with_len 0 (length net.products)))
    e0 e1 e2 e3 e4 e5
    ∙ ap (λ ys. start ++ ys) (sym (all ∙ λ i. ((legs i ++ products i) ++ refunds i) ++ demands i))
