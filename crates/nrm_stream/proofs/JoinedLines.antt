-- The lines of joined bytes.
use Rattle.std.proofs.Common.{ℕ, ◌≡◌, ◌∙◌, ◌+◌, ◌<◌, ◌≤◌, Bool, false, ◌==◌, List, [], ◌∷◌, ◌++◌, length, get_or, take, drop, refl, sym, ap}
use Rattle.std.proofs.Common.{subst, arith, inl, inr, All, append_assoc}
use Rattle.std.specs.List.{onto_first, position_or_len}
use Rattle.std.proofs.lemmas.Bool.{cases_Bool}
use Rattle.std.proofs.lemmas.List.Elements.{All-nil, All-cons, All-append}
use Rattle.std.proofs.lemmas.List.Splits.{slice_split_none, slice_split_at}
use Rattle.std.proofs.lemmas.List.Sums.{split_at_first, fails_before_first, passes_at_first}
use Rattle.nrm_stream.specs.Lines.{parts_of, all_but_last, last_part, whole_lines, unfinished_line, as_line}
use Rattle.nrm_stream.specs.Cuts.{LinesOfJoined}
use Rattle.nrm_stream.proofs.Cuts.{fails-front, some-parts, before-others}

-- the byte that ends a line, and bytes without one
abbrev pub is_end : ℕ → Bool
is_end c = c == 10

abbrev pub Unbroken : List ℕ → Type 0
Unbroken line = All (λ c. is_end c ≡ false) line

-- a byte more at the front of the first part
onto-joined : (x : ℕ) (parts : List (List ℕ)) (ys : List ℕ) → is_end x ≡ false → 1 ≤ length parts
    → onto_first x (all_but_last parts ++ parts_of (last_part parts ++ ys)) ≡ all_but_last (onto_first x parts)
    ++ parts_of (last_part (onto_first x parts) ++ ys)
onto-joined x [] ys e some = absurd (omega arith)
onto-joined x (p ∷ []) ys e some = rw e refl
onto-joined x (p ∷ q ∷ more) ys e some = refl

parts-joined : (xs ys : List ℕ) → parts_of (xs ++ ys) ≡ all_but_last (parts_of xs) ++ parts_of (last_part (parts_of xs) ++ ys)
parts-joined [] ys = refl
parts-joined (x ∷ xs) ys =
    let rest = parts-joined xs ys in
    let some = some-parts is_end xs in
    elim (cases_Bool (is_end x)) [
      | inl e ↦
          let (front, last) = before-others [] (parts_of xs) some in
          rw e (ap (λ (p : List (List ℕ)). [] ∷ p) rest ∙ ap (λ (f : List (List ℕ)). f ++ parts_of (last_part (parts_of xs) ++ ys))
          (sym front) ∙ ap (λ (l : List ℕ). all_but_last ([] ∷ parts_of xs) ++ parts_of (l ++ ys)) (sym last))
      | inr e ↦ rw e (ap (λ (p : List (List ℕ)). onto_first x p) rest ∙ onto-joined x (parts_of xs) ys e some)
    ]

-- all parts but the last, and the last, of parts joined to at least one more
front-append : (a b : List (List ℕ)) → 1 ≤ length b → (all_but_last (a ++ b) ≡ a ++ all_but_last b) × (last_part (a ++ b) ≡ last_part b)
front-append [] b some = (refl, refl)
front-append (p ∷ []) [] some = absurd (omega arith)
front-append (p ∷ []) (q ∷ more) some = (refl, refl)
front-append (p ∷ q ∷ a) b some = let (front, last) = front-append (q ∷ a) b some in (ap (λ (f : List (List ℕ)). p ∷ f) front, last)

pub joined : LinesOfJoined
joined xs ys =
    let parts = parts-joined xs ys in
    let (front, last) = front-append (whole_lines xs) (parts_of (unfinished_line xs ++ ys)) (some-parts is_end (unfinished_line xs ++ ys))
    in
    let whole : whole_lines (xs ++ ys) ≡ whole_lines xs ++ whole_lines (unfinished_line xs ++ ys) =
    ap (λ (p : List (List ℕ)). all_but_last p) parts ∙ front in
    let rest : unfinished_line (xs ++ ys) ≡ unfinished_line (unfinished_line xs ++ ys) =
    ap (λ (p : List (List ℕ)). last_part p) parts ∙ last in (
      whole,
      rest,
      ap (λ (w : List (List ℕ)). w ++ as_line (unfinished_line (xs ++ ys))) whole
          ∙ ap (λ (l : List ℕ). (whole_lines xs ++ whole_lines (unfinished_line xs ++ ys)) ++ as_line l) rest
          ∙ append_assoc (whole_lines xs) (whole_lines (unfinished_line xs ++ ys)) (as_line (unfinished_line (unfinished_line xs ++ ys))),
    )

-- no byte of the last part ends a line
onto-unbroken : (x : ℕ) (parts : List (List ℕ)) → is_end x ≡ false → Unbroken (last_part parts) → Unbroken (last_part (onto_first x parts))
onto-unbroken x [] e rest = All-cons (λ c. is_end c ≡ false) x [] e rest
onto-unbroken x (p ∷ []) e rest = All-cons (λ c. is_end c ≡ false) x p e rest
onto-unbroken x (p ∷ q ∷ more) e rest = rest

pub unfinished-unbroken : (xs : List ℕ) → Unbroken (unfinished_line xs)
unfinished-unbroken [] = All-nil (λ c. is_end c ≡ false)
unfinished-unbroken (x ∷ xs) =
    let rest = unfinished-unbroken xs in
    elim (cases_Bool (is_end x)) [
      | inl e ↦ let (front, last) = before-others [] (parts_of xs) (some-parts is_end xs) in rw e (subst Unbroken (sym last) rest)
      | inr e ↦ rw e (onto-unbroken x (parts_of xs) e rest)
    ]

-- a piece with no end of a line joins the line
pub parts-unended : (line piece : List ℕ) → Unbroken line → length piece ≤ position_or_len is_end piece → parts_of (line ++ piece)
    ≡ (line ++ piece) ∷ []
parts-unended line piece unbroken none =
    slice_split_none is_end (line ++ piece) (All-append (λ c. is_end c ≡ false) line piece unbroken
    (λ k d short. fails_before_first is_end piece k d (omega arith)))

-- the first end of a line ends it
pub parts-ended : (line piece : List ℕ) → Unbroken line → position_or_len is_end piece < length piece
    → parts_of (line ++ piece) ≡ (line ++ take (position_or_len is_end piece) piece)
    ∷ parts_of (drop (position_or_len is_end piece + 1) piece)
parts-ended line piece unbroken some =
    let at : ℕ = position_or_len is_end piece in
    let front : Unbroken (take at piece) = fails-front is_end piece in
    let whole : line ++ piece ≡ (line ++ take at piece) ++ get_or piece at 0 ∷ drop (at + 1) piece =
    ap (λ (p : List ℕ). line ++ p) (split_at_first is_end piece 0 some)
    ∙ sym (append_assoc line (take at piece) (get_or piece at 0 ∷ drop (at + 1) piece)) in
    ap (λ (b : List ℕ). parts_of b) whole
    ∙ slice_split_at is_end (line ++ take at piece) (get_or piece at 0) (drop (at + 1) piece)
    (All-append (λ c. is_end c ≡ false) line (take at piece) unbroken front) (passes_at_first is_end piece 0 some)
