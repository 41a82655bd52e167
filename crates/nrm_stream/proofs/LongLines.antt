-- A line of more than 22 bytes asks for nothing that is known.
use Rattle.std.proofs.Common.{ℕ, suc, ◌≡◌, ◌<◌, ◌≤◌, ◌+◌, ◌-◌, ◌*◌, ◌^◌, Bool, true, false, not, ◌&&◌, ◌==◌, List, [], ◌∷◌, length, Option}
use Rattle.std.proofs.Common.{Some, None, refl, ap, sym, ◌∙◌, inl, inr, arith, bytes_eq, codes, nat_le, get_or, length-take, length-append}
use Rattle.std.proofs.Common.{◌++◌}
use Rattle.std.specs.List.{fold, list_all, onto_first, slice_split}
use Rattle.std.specs.Char.{is_ascii_digit}
use Rattle.std.specs.Str.Lines.{strip_carriage_return}
use Rattle.std.proofs.Math.Nat.{pow-succ', pow-le-pow_right, mul-le-mul_right}
use Rattle.std.proofs.lemmas.Bool.{and_parts, cases_Bool, cases_lt, leb-true}
use Rattle.std.proofs.lemmas.Slice.Eq.{bytes_eq-Decides}
use Rattle.nrm_text.specs.Names.{is_name, name_in}
use Rattle.nrm_text.specs.Numbers.{is_whole, value_of, whole_between}
use Rattle.nrm_stream.specs.Commands.{booking_of, one_word, two_words, three_words, command_of_words, command_of}
use Rattle.nrm_stream.specs.Splitting.{kept_of}
use Rattle.nrm_stream.specs.declared.command.Command.TheVariants as command
use Rattle.nrm_stream.proofs.Cuts.{some-parts}

same-length : (a b : List ℕ) → bytes_eq a b ≡ true → length a ≡ length b
same-length a b h = ap length ((bytes_eq-Decides a b).0 h)

-- what the digits write grows tenfold with each
value-grows : (a : ℕ) (digits : List ℕ) → a * 10 ^ length digits ≤ fold (λ value c. value * 10 + (c - 48)) a digits
value-grows a [] = omega arith
value-grows a (d ∷ more) =
    let power = 10 ^ length more in
    let e : a * 10 ^ suc (length more) ≡ (a * 10) * power = ap (λ (x : ℕ). a * x) (pow-succ' 10 (length more)) ∙ grind arith in
    let first : (a * 10) * power ≤ (a * 10 + (d - 48)) * power = mul-le-mul_right power (omega arith) in
    let rest : (a * 10 + (d - 48)) * power ≤ fold (λ value c. value * 10 + (c - 48)) (a * 10 + (d - 48)) more =
    value-grows (a * 10 + (d - 48)) more in
    rw e (omega (arith, first, rest))

-- a whole number below 10 ^ k has at most k digits
whole-short : (k high : ℕ) (b : List ℕ) → 1 ≤ k → high < 10 ^ k → is_whole b ≡ true → value_of b ≤ high → length b ≤ k
whole-short k high [] some low whole small = omega arith
whole-short k high (c ∷ []) some low whole small = omega arith
whole-short k high (c ∷ d ∷ more) some low whole small =
    let (head, tail) = and_parts (is_ascii_digit c && not (c == 48)) (list_all is_ascii_digit (d ∷ more)) whole in
    let (digit, other) = and_parts (is_ascii_digit c) (not (c == 48)) head in
    let above : 48 ≤ c = leb-true 48 c (and_parts (nat_le 48 c) (nat_le c 57) digit).0 in
    let not_zero : 49 ≤ c = grind arith in
    let power = 10 ^ length (d ∷ more) in
    let grows : (0 * 10 + (c - 48)) * power ≤ value_of (c ∷ d ∷ more) = value-grows (0 * 10 + (c - 48)) (d ∷ more) in
    let least : 1 * power ≤ (0 * 10 + (c - 48)) * power = mul-le-mul_right power (omega arith) in
    elim (cases_lt k (length (c ∷ d ∷ more))) [
      | inl long ↦ let power_up : 10 ^ k ≤ power =
          pow-le-pow_right (omega arith) (omega arith) in absurd (omega (arith, power_up, least, grows))
      | inr short ↦ short
    ]

-- the length of words with a space between each two
spaced : List (List ℕ) → ℕ
spaced [] = 0
spaced (x ∷ []) = length x
spaced (x ∷ y ∷ more) = length x + 1 + spaced (y ∷ more)

spaced-onto_first : (c : ℕ) (parts : List (List ℕ)) → spaced (onto_first c parts) ≡ 1 + spaced parts
unfolding spaced
spaced-onto_first c [] = refl
spaced-onto_first c (p ∷ []) = omega arith
spaced-onto_first c (p ∷ q ∷ more) = omega arith

spaced-front : (parts : List (List ℕ)) → 1 ≤ length parts → spaced ([] ∷ parts) ≡ 1 + spaced parts
unfolding spaced
spaced-front [] some = absurd (omega arith)
spaced-front (p ∷ more) some = omega arith

split-spaced : (p : ℕ → Bool) (xs : List ℕ) → spaced (slice_split p xs) ≡ length xs
unfolding spaced
split-spaced p [] = refl
split-spaced p (x ∷ xs) =
    let same = split-spaced p xs in
    elim (cases_Bool (p x)) [
      | inl e ↦ rw e (spaced-front (slice_split p xs) (some-parts p xs) ∙ omega (arith, same))
      | inr e ↦ rw e (spaced-onto_first x (slice_split p xs) ∙ omega (arith, same))
    ]

no-number : (k low high : ℕ) (b : List ℕ) → 1 ≤ k → high < 10 ^ k → k < length b → whole_between low high b ≡ None
no-number k low high b some low_enough long =
    elim (cases_Bool (is_whole b && nat_le low (value_of b) && nat_le (value_of b) high)) [
      | inl e ↦
          let (front, under) = and_parts (is_whole b && nat_le low (value_of b)) (nat_le (value_of b) high) e in
          let (whole, over) = and_parts (is_whole b) (nat_le low (value_of b)) front in
          let short = whole-short k high b some low_enough whole (leb-true (value_of b) high under) in
          absurd (omega (arith, short))
      | inr e ↦ rw e refl
    ]

no-name : (b : List ℕ) → 12 < length b → name_in b ≡ None
no-name b long =
    elim (cases_Bool (is_name b)) [
      | inl e ↦
          let (front, all) = and_parts (nat_le 1 (length b) && nat_le (length b) 12) (list_all _ b) e in
          let short = leb-true (length b) 12 (and_parts (nat_le 1 (length b)) (nat_le (length b) 12) front).1 in
          absurd (omega (arith, short))
      | inr e ↦ rw e refl
    ]

pub booking-none : (name : Option (List ℕ)) → booking_of name None ≡ command.Bad
booking-none (Some product) = refl
booking-none None = refl

one-word : (w : List ℕ) → 22 ≤ length w → one_word w ≡ command.Bad
one-word w long =
    elim (cases_Bool (bytes_eq w (codes "hindsight"))) [
      | inl e ↦ let n : length w ≡ 9 = same-length w (codes "hindsight") e in absurd (omega arith)
      | inr e ↦ rw e (elim (cases_Bool (bytes_eq w (codes "plan"))) [
        | inl f ↦ let n : length w ≡ 4 = same-length w (codes "plan") f in absurd (omega arith)
        | inr f ↦ rw f refl
      ])
    ]

two-words : (w b : List ℕ) → 22 ≤ length w + 1 + length b → two_words w b ≡ command.Bad
two-words w b long =
    elim (cases_Bool (bytes_eq w (codes "cancel"))) [
      | inl e ↦
          let n : length w ≡ 6 = same-length w (codes "cancel") e in
          rw (e, no-number 12 0 999999999999 b (omega arith) (omega arith) (omega arith)) refl
      | inr e ↦ rw e (elim (cases_Bool (bytes_eq w (codes "reoptimise"))) [
        | inl f ↦
            let n : length w ≡ 10 = same-length w (codes "reoptimise") f in
            rw (f, no-number 2 1 99 b (omega arith) (omega arith) (omega arith)) refl
        | inr f ↦ rw f (elim (cases_Bool (bytes_eq w (codes "leg"))) [
          | inl g ↦
              let n : length w ≡ 3 = same-length w (codes "leg") g in
              rw (g, no-name b (omega arith)) refl
          | inr g ↦ rw g refl
        ])
      ])
    ]

three-words : (w n p : List ℕ) → 22 ≤ length w + 1 + (length n + 1 + length p) → three_words w n p ≡ command.Bad
three-words w n p long =
    elim (cases_Bool (bytes_eq w (codes "book"))) [
      | inl e ↦
          let m : length w ≡ 4 = same-length w (codes "book") e in
          rw e (elim (cases_lt 12 (length n)) [
            | inl more ↦ rw (no-name n more) refl
            | inr few ↦ rw (no-number 3 1 999 p (omega arith) (omega arith) (omega arith)) (booking-none (name_in n))
          ])
      | inr e ↦ rw e refl
    ]

words-bad : (parts : List (List ℕ)) → 22 ≤ spaced parts → command_of_words parts ≡ command.Bad
unfolding spaced
words-bad [] long = refl
words-bad (w ∷ []) long = one-word w long
words-bad (w ∷ b ∷ []) long = two-words w b long
words-bad (w ∷ n ∷ p ∷ []) long = three-words w n p long
words-bad (w ∷ n ∷ p ∷ q ∷ more) long = refl

-- at most one byte is dropped at the end
stripped : (line : List ℕ) → length line ≤ length (strip_carriage_return line) + 1
stripped line =
    elim (cases_Bool (get_or line (length line - 1) 0 == 13)) [
      | inl e ↦ rw e (omega (arith, length-take (length line - 1) line))
      | inr e ↦ rw e (omega arith)
    ]

command_of-long : (line : List ℕ) → 22 < length line → command_of line ≡ command.Bad
command_of-long line long =
    let text = strip_carriage_return line in
    let same = split-spaced (λ c. c == 32) text in
    words-bad (slice_split (λ c. c == 32) text) (omega (arith, same, stripped line))

kept-long : (u : List ℕ) → nat_le (length u) 22 ≡ false → 22 < length u
kept-long u h = grind arith

-- so a line is bad of which only that it is longer is kept
pub command_of-longer : (line : List ℕ) → kept_of line ≡ None → command_of line ≡ command.Bad
command_of-longer line longer =
    elim (cases_Bool (nat_le (length line) 22)) [
      | inl e ↦ let one : Some line ≡ None = rw e at longer in cc
      | inr e ↦ command_of-long line (kept-long line e)
    ]

-- two lines of which the same is kept go on to the same command, whatever follows
pub command_of-kept : (u v rest : List ℕ) → kept_of u ≡ kept_of v → command_of (u ++ rest) ≡ command_of (v ++ rest)
command_of-kept u v rest same =
    elim (cases_Bool (nat_le (length u) 22)) [
      | inl e ↦ elim (cases_Bool (nat_le (length v) 22)) [
        | inl f ↦ let one : Some u ≡ Some v = rw (e, f) at same in let equal : u ≡ v =
            cc in ap (λ (w : List ℕ). command_of (w ++ rest)) equal
        | inr f ↦ let one : Some u ≡ None = rw (e, f) at same in cc
      ]
      | inr e ↦ elim (cases_Bool (nat_le (length v) 22)) [
        | inl f ↦ let one : None ≡ Some v = rw (e, f) at same in cc
        | inr f ↦
            let long_u = kept-long u e in
            let long_v = kept-long v f in
            command_of-long (u ++ rest) (omega (arith, long_u, length-append u rest))
            ∙ sym (command_of-long (v ++ rest) (omega (arith, long_v, length-append v rest)))
      ]
    ]

-- and the same is kept of them
pub kept_of-kept : (u v rest : List ℕ) → kept_of u ≡ kept_of v → kept_of (u ++ rest) ≡ kept_of (v ++ rest)
kept_of-kept u v rest same =
    elim (cases_Bool (nat_le (length u) 22)) [
      | inl e ↦ elim (cases_Bool (nat_le (length v) 22)) [
        | inl f ↦ let one : Some u ≡ Some v = rw (e, f) at same in let equal : u ≡ v = cc in ap (λ (w : List ℕ). kept_of (w ++ rest)) equal
        | inr f ↦ let one : Some u ≡ None = rw (e, f) at same in cc
      ]
      | inr e ↦ elim (cases_Bool (nat_le (length v) 22)) [
        | inl f ↦ let one : None ≡ Some v = rw (e, f) at same in cc
        | inr f ↦
            let long_u = kept-long u e in
            let long_v = kept-long v f in
            let none_u : nat_le (length (u ++ rest)) 22 ≡ false = grind (arith, length-append u rest) in
            let none_v : nat_le (length (v ++ rest)) 22 ≡ false = grind (arith, length-append v rest) in
            rw (none_u, none_v) refl
      ]
    ]
