-- Lines that are put for one number after another.
use Rattle.std.proofs.Common.{ℕ, zero, suc, ◌≡◌, ◌∙◌, ◌+◌, ◌-◌, ◌<◌, List, ◌∷◌, ◌++◌, Option, flat_map, refl, ap, sym, subst, arith}
use Rattle.std.proofs.Common.{append-nil, zero-add}
use Rattle.std.specs.List.{range_with_len}
use Rattle.std.proofs.lemmas.Grind.{flat_map-append}
use Rattle.std.proofs.KnownBytes.{Appends-trans}
use Rattle.std.specs.Io.KnownBytes.{Appends}
use Rattle.nrm_edge.specs.Pieces.{AppendsFront}
use Rattle.nrm_edge.proofs.Sent.{AppendsFront-after, AppendsFront-more}

-- numbers one after another are the first of them and then the others
pub range-split : (a m n : ℕ) → range_with_len a (m + n) ≡ range_with_len a m ++ range_with_len (a + m) n
range-split a zero n =
    let count : zero + n ≡ n = omega arith in
    let start : a + zero ≡ a = omega arith in
    rw (count, start) refl
range-split a (suc m) n =
    let count : suc m + n ≡ suc (m + n) = omega arith in
    let start : a + suc m ≡ (a + 1) + m = omega arith in
    rw (count, start) (ap (λ (more : List ℕ). a ∷ more) (range-split (a + 1) m n))

-- the lines of the first numbers, and then those of the others
split : (line : ℕ → List ℕ) (m n : ℕ)
    → flat_map line (range_with_len 0 (m + n)) ≡ flat_map line (range_with_len 0 m) ++ flat_map line (range_with_len m n)
split line m n =
    let start : 0 + m ≡ m = zero-add m in
    ap (flat_map line) (range-split 0 m n)
    ∙ flat_map-append line (range_with_len 0 m) (range_with_len (0 + m) n)
    ∙ ap (λ (k : ℕ). flat_map line (range_with_len 0 m) ++ flat_map line (range_with_len k n)) start

-- one line more
pub one-more : (line : ℕ → List ℕ) (j : ℕ) → flat_map line (range_with_len 0 (j + 1)) ≡ flat_map line (range_with_len 0 j) ++ line j
one-more line j = split line j 1 ∙ ap (λ (more : List ℕ). flat_map line (range_with_len 0 j) ++ more) (append-nil (line j))

-- the first lines, one line, and more are all
pub all-lines : (line : ℕ → List ℕ) (j n : ℕ) → j < n
    → flat_map line (range_with_len 0 n) ≡ (flat_map line (range_with_len 0 j) ++ line j) ++ flat_map line (range_with_len (j + 1) (n - (j + 1)))
all-lines line j n below =
    let count : n ≡ (j + 1) + (n - (j + 1)) = omega arith in
    ap (λ (k : ℕ). flat_map line (range_with_len 0 k)) count ∙ split line (j + 1) (n - (j + 1))
    ∙ ap (λ (first : List ℕ). first ++ flat_map line (range_with_len (j + 1) (n - (j + 1)))) (one-more line j)

-- the first lines went out, and then one line
pub line-sent : (a b c : Option (List ℕ)) (line : ℕ → List ℕ) (j : ℕ) → Appends a b (flat_map line (range_with_len 0 j))
    → Appends b c (line j)
    → Appends a c (flat_map line (range_with_len 0 (j + 1)))
line-sent a b c line j first next = subst (Appends a c) (sym (one-more line j)) (Appends-trans a b c (flat_map line (range_with_len 0 j)) (line j) first next)

-- the first lines went out, and then a front of one line: a front of all lines
pub line-cut : (a b c : Option (List ℕ)) (line : ℕ → List ℕ) (j n : ℕ) → j < n → Appends a b (flat_map line (range_with_len 0 j))
    → AppendsFront b c (line j)
    → AppendsFront a c (flat_map line (range_with_len 0 n))
line-cut a b c line j n below first front =
    let so_far : List ℕ = flat_map line (range_with_len 0 j) in
    subst (AppendsFront a c) (sym (all-lines line j n below))
    (AppendsFront-more a c (so_far ++ line j) (flat_map line (range_with_len (j + 1) (n - (j + 1)))) (AppendsFront-after a b c so_far (line j) first front))
