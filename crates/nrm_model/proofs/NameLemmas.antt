-- A name's number: the place at which it is found.
use Rattle.std.proofs.Common.{ℕ, zero, suc, ◌≡◌, ◌≢◌, ◌∙◌, ◌+◌, ◌-◌, ◌<◌, Bool, false, cond, ◌||◌, AllPairs, List, [], ◌∷◌, ◌++◌, length, get_or, map, take, Option, Some, inl, inr, refl, sym, ap, bytes_eq, arith, length-append, length-take, set}
use Rattle.std.specs.Prelude.{slice_index_or, slice_set, swap_remove}
use Rattle.std.specs.List.{list_any, position, position_from}
use Rattle.std.specs.Cmp.Lexicographic.{nat_list_eq_equiv}
use Rattle.std.proofs.lemmas.Bool.{cases_Bool}
use Rattle.std.proofs.Math.Seq.{take-append_seam}
use Rattle.std.proofs.lemmas.Iterator.Adapters.{position_from-zero}
use Rattle.std.proofs.lemmas.List.{get_or-take, get_or-map, get_or_push, get_or_read, length-map, take-map}
use Rattle.std.proofs.lemmas.List.Folds.{list_any_none}
use Rattle.std.proofs.lemmas.List.Quantifiers.{position-Some}
use Rattle.std.proofs.lemmas.Slice.Eq.{bytes_eq-Decides}
use Rattle.indexmap.specs.IndexSet.{insert_key}

-- two tests that agree find the same place
pub position_from-same : {X : Type 0} (p q : X → Bool) → ((x : X) → p x ≡ q x) → (i : ℕ) (xs : List X) → position_from p i xs ≡ position_from q i xs
position_from-same p q same i [] = refl
position_from-same p q same i (x ∷ xs) = λ k. cond (same x k) (Some i) (position_from-same p q same (i + 1) xs k)

-- two tests that agree pass at the same lists
pub list_any-same : {X : Type 0} (p q : X → Bool) → ((x : X) → p x ≡ q x) → (xs : List X) → list_any p xs ≡ list_any q xs
list_any-same p q same [] = refl
list_any-same p q same (x ∷ xs) = λ k. same x k || list_any-same p q same xs k

-- what passes at a list of images is what passes at the list, through the function
pub position_from-map : {X Y : Type 0} (f : X → Y) (p : Y → Bool) (i : ℕ) (xs : List X) → position_from p i (map f xs) ≡ position_from (λ x. p (f x)) i xs
position_from-map f p i [] = refl
position_from-map f p i (x ∷ xs) = ap (λ (rest : Option ℕ). cond (p (f x)) (Some i) rest) (position_from-map f p (i + 1) xs)

-- an index set compares the other way round
pub name-position : (name : List ℕ) (names : List (List ℕ)) → position (bytes_eq name) names ≡ position_from (λ other. bytes_eq other name) 0 names
name-position name names =
    position_from-zero (bytes_eq name) names ∙ position_from-same (bytes_eq name) (λ other. bytes_eq other name) (λ other. nat_list_eq_equiv.symm name other) 0 names

-- where the names are those of these things, the number found is a thing's
pub number-below : {X : Type 0} (name : X → List ℕ) (wanted : List ℕ) (xs : List X) (names : List (List ℕ)) (i : ℕ) → names ≡ map name xs → Some i ≡ position_from (λ other. bytes_eq other wanted) 0 names → i < length xs
number-below name wanted xs names i are found =
    let below = (position-Some (λ other. bytes_eq other wanted) names i [] (position_from-zero (λ other. bytes_eq other wanted) names ∙ sym found)).0 in
    omega (arith, ap length are, length-map xs name)

-- and it is the number of the first thing that has the name
pub number-same : {X : Type 0} (name : X → List ℕ) (wanted : List ℕ) (xs : List X) (names : List (List ℕ)) → names ≡ map name xs → position_from (λ other. bytes_eq other wanted) 0 names ≡ position_from (λ x. bytes_eq (name x) wanted) 0 xs
number-same name wanted xs names are = ap (position_from (λ other. bytes_eq other wanted) 0) are ∙ position_from-map name (λ other. bytes_eq other wanted) 0 xs

-- names that are told apart
pub bytes_eq-apart : (a b : List ℕ) → a ≢ b → bytes_eq a b ≡ false
bytes_eq-apart a b apart = elim (cases_Bool (bytes_eq a b)) [ inl same ↦ absurd (apart ((bytes_eq-Decides a b).0 same)) | inr other ↦ other ]

-- an index set of names takes in a name that none of them equals, at the end
pub insert_key-new : (names : List (List ℕ)) (name : List ℕ) → list_any (λ other. bytes_eq other name) names ≡ false → insert_key bytes_eq names name ≡ names ++ name ∷ []
insert_key-new names name new =
    let turned = list_any-same (bytes_eq name) (λ other. bytes_eq other name) (λ other. nat_list_eq_equiv.symm name other) names ∙ new in
    rw turned

-- of names that differ, none equals one that stands before it
pub none-before : (names : List (List ℕ)) (i : ℕ) (name : List ℕ) → AllPairs (λ a b. a ≢ b) names → i < length names → name ≡ get_or names i name → list_any (λ other. bytes_eq other name) (take i names) ≡ false
none-before names i name apart short is = list_any_none (λ other. bytes_eq other name) (take i names) (λ k d few.
    let early : k < i = omega (arith, length-take i names) in
    let there = get_or-take i names k d early in
    let here = get_or_read names i name short is d in
    rw there (bytes_eq-apart (get_or names k d) name (λ same. apart k i d early short (same ∙ here))))

-- nor a name that the table holds, where it holds those of the things before this one
pub none-earlier : {X : Type 0} (name : X → List ℕ) (xs : List X) (i : ℕ) (x : X) (names : List (List ℕ)) → AllPairs (λ a b. a ≢ b) (map name xs) → i < length xs → x ≡ get_or xs i x → names ≡ map name (take i xs) → list_any (λ other. bytes_eq other (name x)) names ≡ false
none-earlier name xs i x names apart short is are =
    let at : name x ≡ get_or (map name xs) i (name x) = ap name is ∙ sym (get_or-map name xs i x (name x) short) in
    rw are (rw take-map at (none-before (map name xs) i (name x) apart (omega (arith, length-map xs name)) at))

-- the last of a list takes the place of another one before it
front-set : {X : Type 0} (xs more : List X) (i : ℕ) (z : X) → i < length xs → take (length xs) (set (xs ++ more) i z) ≡ set xs i z
front-set [] more i z short = absurd (omega arith)
front-set {X} (x ∷ xs) more zero z short = ap (λ (rest : List X). z ∷ rest) (take-append_seam xs more)
front-set {X} (x ∷ xs) more (suc i) z short = ap (λ (rest : List X). x ∷ rest) (front-set xs more i z (omega arith))

pub in-its-place : {X : Type 0} (xs : List X) (i : ℕ) (y d : X) → i < length xs → swap_remove (xs ++ y ∷ []) i d ≡ slice_set xs i y
in-its-place {X} xs i y d short =
    let count : length (xs ++ y ∷ []) ≡ length xs + 1 = length-append xs (y ∷ []) in
    let last : length (xs ++ y ∷ []) - 1 ≡ length xs = omega (arith, count) in
    let read : slice_index_or (xs ++ y ∷ []) (length (xs ++ y ∷ []) - 1) d ≡ y =
    ap (λ (n : ℕ). get_or (xs ++ y ∷ []) n d) last ∙ get_or_push xs y d (length xs) refl in
    ap (λ (n : ℕ). take n (set (xs ++ y ∷ []) i (slice_index_or (xs ++ y ∷ []) (length (xs ++ y ∷ []) - 1) d))) last
    ∙ ap (λ (z : X). take (length xs) (set (xs ++ y ∷ []) i z)) read ∙ front-set xs (y ∷ []) i y short
