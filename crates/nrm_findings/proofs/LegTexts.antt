-- The lines that tell of a leg, piece by piece.
use Rattle.std.proofs.Common.{ℕ, zero, suc, ◌≡◌, ◌∙◌, ◌+◌, ◌-◌, ◌≤◌, ◌<◌, List, [], ◌∷◌, ◌++◌, map, flat_map, take, drop, get_or, length, refl, ap, sym, append-nil, append_assoc, arith}
use Rattle.std.specs.Prelude.{decimal, slice_index}
use Rattle.std.specs.List.{join_with_byte}
use Rattle.std.proofs.lemmas.List.{flat_map_more, take_more}
use Rattle.std.proofs.lemmas.List.Folds.{flat_map-map}
use Rattle.nrm_text.specs.Words.{spaced, text_line}

-- a number behind a space
abbrev pub number_word : ℕ → List ℕ
number_word number = spaced (decimal number)

-- words with a space between each two: the first, and then each of the others behind a space
joined : (first : List ℕ) (more : List (List ℕ)) → join_with_byte 32 (first ∷ more) ≡ first ++ flat_map (λ w. 32 ∷ w) more
joined first [] = sym (append-nil first)
joined first (next ∷ more) = ap (λ (rest : List ℕ). first ++ 32 ∷ rest) (joined next more)

-- a word, a name and numbers, behind what stands before them
pub numbers-pushed : (text word leg numbers : List ℕ)
    → ((((text ++ word) ++ 32 ∷ []) ++ leg) ++ flat_map number_word numbers) ++ 10 ∷ [] ≡ text ++ text_line (word ∷ leg ∷ map (λ number. decimal number) numbers)
numbers-pushed text word leg numbers =
    let words : List ℕ = flat_map number_word numbers in
    ap (λ (l : List ℕ). (l ++ words) ++ 10 ∷ []) (append_assoc (text ++ word) (32 ∷ []) leg)
    ∙ ap (λ (l : List ℕ). l ++ 10 ∷ []) (append_assoc (text ++ word) (32 ∷ leg) words ∙ append_assoc text word (32 ∷ (leg ++ words)))
    ∙ append_assoc text (word ++ 32 ∷ (leg ++ words)) (10 ∷ [])
    ∙ ap (λ (l : List ℕ). text ++ ((word ++ 32 ∷ l) ++ 10 ∷ []))
    (sym (joined leg (map (λ number. decimal number) numbers) ∙ ap (λ (l : List ℕ). leg ++ l) (flat_map-map (λ w. 32 ∷ w) (λ number. decimal number) numbers)))

-- and where the word is put with the space behind it
pub numbers-behind : (text word leg numbers : List ℕ)
    → (((text ++ (word ++ 32 ∷ [])) ++ leg) ++ flat_map number_word numbers) ++ 10 ∷ [] ≡ text ++ text_line (word ∷ leg ∷ map (λ number. decimal number) numbers)
numbers-behind text word leg numbers =
    ap (λ (l : List ℕ). ((l ++ leg) ++ flat_map number_word numbers) ++ 10 ∷ []) (sym (append_assoc text word (32 ∷ []))) ∙ numbers-pushed text word leg numbers

-- three words, of which the first is put with the space behind it
pub three-pushed : (text word leg last : List ℕ)
    → (((text ++ (word ++ 32 ∷ [])) ++ leg) ++ 32 ∷ last) ++ 10 ∷ [] ≡ text ++ text_line (word ∷ leg ∷ last ∷ [])
three-pushed text word leg last =
    ap (λ (l : List ℕ). ((l ++ leg) ++ 32 ∷ last) ++ 10 ∷ []) (sym (append_assoc text word (32 ∷ [])))
    ∙ ap (λ (l : List ℕ). (l ++ 32 ∷ last) ++ 10 ∷ []) (append_assoc (text ++ word) (32 ∷ []) leg)
    ∙ ap (λ (l : List ℕ). l ++ 10 ∷ []) (append_assoc (text ++ word) (32 ∷ leg) (32 ∷ last) ∙ append_assoc text word (32 ∷ (leg ++ 32 ∷ last)))
    ∙ append_assoc text (word ++ 32 ∷ (leg ++ 32 ∷ last)) (10 ∷ [])

-- the text of one item more
pub one-more : (f : ℕ → List ℕ) (items before text after : List ℕ) (item k : ℕ) → k < length items → item ≡ get_or items k 0
    → text ≡ before ++ flat_map f (take k items) → after ≡ text ++ f item
    → after ≡ before ++ flat_map f (take (k + 1) items)
one-more f items before text after item k below is so_far pushed =
    pushed ∙ (λ n. so_far n ++ f (is n)) ∙ flat_map_more f before (take k items) (get_or items k 0)
    ∙ ap (λ (xs : List ℕ). before ++ flat_map f xs) (sym (take_more items k 0 below))

-- an item behind the first
pub behind-first : (items : List ℕ) (k : ℕ) → 1 ≤ k → slice_index items k ≡ get_or (drop 1 items) (k - 1) 0
behind-first items zero some = absurd (omega (arith, some))
behind-first [] (suc k) some = refl
behind-first (x ∷ items) (suc k) some = let one : k ≡ suc k - 1 = omega arith in ap (λ (n : ℕ). get_or items n 0) one

pub length-behind : (items : List ℕ) → length (drop 1 items) ≡ length items - 1
length-behind [] = refl
length-behind (x ∷ items) = omega arith
