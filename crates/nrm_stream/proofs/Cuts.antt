-- Bytes cut at the first byte that passes a test, and the lines that come of it.
use Rattle.std.proofs.Common.{ℕ, ◌≡◌, ◌∙◌, ◌+◌, ◌-◌, ◌<◌, ◌≤◌, Bool, false, ◌==◌, List, [], ◌∷◌, ◌++◌, length, get_or, take, drop}
use Rattle.std.proofs.Common.{Some, None, refl, ap, arith, All, inl, inr, length-drop}
use Rattle.std.specs.List.{slice_split, position, position_or_len, onto_first}
use Rattle.std.proofs.lemmas.Bool.{cases_Bool}
use Rattle.std.proofs.lemmas.List.{length-take, get_or-take, take_rest}
use Rattle.std.proofs.lemmas.List.Splits.{slice_split_none, slice_split_at}
use Rattle.std.proofs.lemmas.List.Sums.{split_at_first, fails_before_first, passes_at_first}
use Rattle.nrm_text.proofs.Places.{found, missing}
use Rattle.nrm_stream.specs.Lines.{parts_of, all_but_last, last_part, whole_lines, unfinished_line, lines_of, as_line}

-- no byte before the first that passes is one
pub fails-front : (p : ℕ → Bool) (xs : List ℕ) → All (λ c. p c ≡ false) (take (position_or_len p xs) xs)
fails-front p xs = λ k d short.
    let at : ℕ = position_or_len p xs in
    let within : k < at = omega (arith, length-take at xs) in
    rw (get_or-take at xs k d within) (fails_before_first p xs k d within)

-- the first part ends at the place that was found
pub split-found : (p : ℕ → Bool) (xs : List ℕ) (i : ℕ) → position p xs ≡ Some i
    → (slice_split p xs ≡ take i xs ∷ slice_split p (take (length xs - (i + 1)) (drop (i + 1) xs)))
    × (length (take (length xs - (i + 1)) (drop (i + 1) xs)) < length xs)
split-found p xs i is =
    let (place, within) = found p xs i is in
    let short : position_or_len p xs < length xs = omega arith in
    let cut = ap (slice_split p) (split_at_first p xs 0 short) ∙ slice_split_at p (take (position_or_len p xs) xs)
    (get_or xs (position_or_len p xs) 0) (drop (position_or_len p xs + 1) xs) (fails-front p xs) (passes_at_first p xs 0 short) in
    let rest = take_rest xs (i + 1) in
    (rw rest (cut ∙ ap (λ n. take n xs ∷ slice_split p (drop (n + 1) xs)) place), rw rest (omega (arith, length-drop (i + 1) xs)))

pub split-missing : (p : ℕ → Bool) (xs : List ℕ) → position p xs ≡ None → slice_split p xs ≡ xs ∷ []
split-missing p xs is = slice_split_none p xs (λ k d short. fails_before_first p xs k d (omega (arith, missing p xs is)))

-- there is a part, also of no bytes
some-onto_first : (c : ℕ) (parts : List (List ℕ)) → 1 ≤ length (onto_first c parts)
some-onto_first c [] = omega arith
some-onto_first c (part ∷ more) = omega arith

pub some-parts : (p : ℕ → Bool) (xs : List ℕ) → 1 ≤ length (slice_split p xs)
some-parts p [] = omega arith
some-parts p (x ∷ xs) =
    elim (cases_Bool (p x)) [
      | inl e ↦ rw e (omega (arith, some-parts p xs))
      | inr e ↦ rw e (some-onto_first x (slice_split p xs))
    ]

-- a part before others
pub before-others : (first : List ℕ) (parts : List (List ℕ)) → 1 ≤ length parts
    → (all_but_last (first ∷ parts) ≡ first ∷ all_but_last parts) × (last_part (first ∷ parts) ≡ last_part parts)
before-others first [] some = absurd (omega arith)
before-others first (part ∷ more) some = (refl, refl)

-- a part before those of the rest is a whole line before theirs
pub ended-lines : (bytes line rest : List ℕ) → parts_of bytes ≡ line ∷ parts_of rest → (whole_lines bytes ≡ line ∷ whole_lines rest)
    × (unfinished_line bytes ≡ unfinished_line rest)
ended-lines bytes line rest cut =
    let (front, last) = before-others line (parts_of rest) (some-parts (λ c. c == 10) rest) in
    (ap (λ (p : List (List ℕ)). all_but_last p) cut ∙ front, ap (λ (p : List (List ℕ)). last_part p) cut ∙ last)

pub line-first : (bytes line rest : List ℕ) → parts_of bytes ≡ line ∷ parts_of rest → lines_of bytes ≡ line ∷ lines_of rest
line-first bytes line rest cut =
    let (whole, last) = ended-lines bytes line rest cut in
    ap (λ (w : List (List ℕ)). w ++ as_line (unfinished_line bytes)) whole
    ∙ ap (λ (l : List ℕ). line ∷ (whole_lines rest ++ as_line l)) last
