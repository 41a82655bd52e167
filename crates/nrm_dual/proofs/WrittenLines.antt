-- The text of a certificate is cut into its lines, and isn't long.
use Rattle.std.proofs.Common.{◌≡◌, ◌≢◌, ℕ, zero, suc, ◌+◌, ◌*◌, ◌<◌, ◌≤◌, arith, refl, sym, ap, ◌∙◌, List, [], ◌∷◌, ◌++◌, map, length}
use Rattle.std.proofs.Common.{get_or, flat_map, append_assoc, length-append, codes, AllPairs, IsTrue, true, not, cond, ◌==◌, bytes_eq}
use Rattle.std.proofs.Common.{nat_le, ◌&&◌, Some}
use Rattle.std.specs.List.{list_all, position_from, range_with_len}
use Rattle.std.proofs.lemmas.Bool.{ne_eqb, eqb-false, not-true, and_parts, leb-true}
use Rattle.std.proofs.lemmas.List.{length-map, get_or-map, append-nil}
use Rattle.std.proofs.lemmas.List.Splits.{slice_split_at}
use Rattle.std.proofs.lemmas.List.Sums.{AllPass-from_list_all}
use Rattle.std.proofs.lemmas.Slice.Eq.{bytes_eq-Decides}
use Rattle.nrm_text.specs.Names.{is_name, is_name_byte}
use Rattle.nrm_text.specs.Words.{text_line}
use Rattle.nrm_text.specs.ReadBack.{HasNone, IsOneWord}
use Rattle.nrm_model.proofs.NameLemmas.{bytes_eq-apart}
use Rattle.nrm_stream.specs.Lines.{lines_of}
use Rattle.nrm_stream.proofs.Cuts.{line-first}

-- ---- a line that ends is the first line
line_cut : (line rest : List ℕ) → HasNone 10 line → lines_of ((line ++ 10 ∷ []) ++ rest) ≡ line ∷ lines_of rest
line_cut line rest none =
    ap lines_of (append_assoc line (10 ∷ []) rest)
    ∙ line-first (line ++ 10 ∷ rest) line rest (slice_split_at (λ c. c == 10) line 10 rest (λ k d short. ne_eqb (get_or line k d) 10 (none k d short)) refl)

rows_cut : (row : ℕ → List ℕ) (all : ℕ) (rest : List ℕ) → ((j : ℕ) → j < all → HasNone 10 (row j)) → (n a : ℕ) → a + n ≡ all
    → lines_of (flat_map (λ j. row j ++ 10 ∷ []) (range_with_len a n) ++ rest) ≡ map row (range_with_len a n) ++ lines_of rest
rows_cut row all rest none zero a e = refl
rows_cut row all rest none (suc n) a e =
    ap lines_of (append_assoc (row a ++ 10 ∷ []) (flat_map (λ j. row j ++ 10 ∷ []) (range_with_len (a + 1) n)) rest)
    ∙ line_cut (row a) (flat_map (λ j. row j ++ 10 ∷ []) (range_with_len (a + 1) n) ++ rest) (none a (omega (arith, e)))
    ∙ ap (λ lines. row a ∷ lines) (rows_cut row all rest none n (a + 1) (omega (arith, e)))

-- a line, and rows of lines behind it
pub text_cut : (line : List ℕ) (first second : ℕ → List ℕ) (m n : ℕ) → HasNone 10 line → ((j : ℕ) → j < m → HasNone 10 (first j))
    → ((i : ℕ) → i < n → HasNone 10 (second i))
    → lines_of (((line ++ 10 ∷ []) ++ flat_map (λ j. first j ++ 10 ∷ []) (range_with_len 0 m)) ++ flat_map (λ i. second i ++ 10 ∷ []) (range_with_len 0 n))
    ≡ line ∷ (map first (range_with_len 0 m) ++ (map second (range_with_len 0 n) ++ []))
text_cut line first second m n none none_first none_second =
    let front : List ℕ = flat_map (λ j. first j ++ 10 ∷ []) (range_with_len 0 m) in
    let back : List ℕ = flat_map (λ i. second i ++ 10 ∷ []) (range_with_len 0 n) in
    ap lines_of (append_assoc (line ++ 10 ∷ []) front back)
    ∙ line_cut line (front ++ back) none
    ∙ ap (λ lines. line ∷ lines)
    (rows_cut first m back none_first m 0 (omega arith)
    ∙ ap (λ lines. map first (range_with_len 0 m) ++ lines) (ap lines_of (sym (append-nil back)) ∙ rows_cut second n [] none_second n 0 (omega arith)))

-- ---- how long it is
rows_short : (row : ℕ → List ℕ) (all : ℕ) → ((j : ℕ) → j < all → length (row j) ≤ 100) → (n a : ℕ) → a + n ≡ all
    → length (flat_map row (range_with_len a n)) ≤ n * 100
rows_short row all short zero a e = omega arith
rows_short row all short (suc n) a e =
    let here : length (row a) ≤ 100 = short a (omega (arith, e)) in
    let rest : length (flat_map row (range_with_len (a + 1) n)) ≤ n * 100 = rows_short row all short n (a + 1) (omega (arith, e)) in
    omega (arith, here, rest, length-append (row a) (flat_map row (range_with_len (a + 1) n)))

pub text_short : (line : List ℕ) (first second : ℕ → List ℕ) (m n : ℕ) → length line ≤ 100 → m ≤ 256 → n ≤ 64
    → ((j : ℕ) → j < m → length (first j) ≤ 100) → ((i : ℕ) → i < n → length (second i) ≤ 100)
    → length ((line ++ flat_map first (range_with_len 0 m)) ++ flat_map second (range_with_len 0 n)) ≤ 65536
text_short line first second m n short few_first few_second short_first short_second =
    let front : List ℕ = flat_map first (range_with_len 0 m) in
    let back : List ℕ = flat_map second (range_with_len 0 n) in
    let a : length front ≤ m * 100 = rows_short first m short_first m 0 (omega arith) in
    let b : length back ≤ n * 100 = rows_short second n short_second n 0 (omega arith) in
    omega (arith, short, few_first, few_second, a, b, length-append (line ++ front) back, length-append line front)

pub length-two_words : (kind text : List ℕ) → length (text_line (kind ∷ text ∷ [])) ≡ length kind + length text + 2
length-two_words kind text = omega (arith, length-append (kind ++ 32 ∷ text) (10 ∷ []), length-append kind (32 ∷ text))

pub length-three_words : (kind name text : List ℕ)
    → length (text_line (kind ∷ name ∷ text ∷ [])) ≡ length kind + length name + length text + 3
length-three_words kind name text =
    omega (arith, length-append (kind ++ 32 ∷ (name ++ 32 ∷ text)) (10 ∷ []), length-append kind (32 ∷ (name ++ 32 ∷ text)), length-append name (32 ∷ text))

pub name_short : (name : List ℕ) → IsTrue (is_name name) → length name ≤ 12
name_short name named =
    let front = (and_parts (nat_le 1 (length name) && nat_le (length name) 12) (list_all is_name_byte name) named).0 in
    leb-true (length name) 12 (and_parts (nat_le 1 (length name)) (nat_le (length name) 12) front).1

-- ---- words that are written down
none_by : (c : ℕ) (bytes : List ℕ) → list_all (λ b. not (b == c)) bytes ≡ true → HasNone c bytes
none_by c bytes all = λ k d short. eqb-false (get_or bytes k d) c (not-true (get_or bytes k d == c) (AllPass-from_list_all (λ b. not (b == c)) bytes all k d short))

pub word_value : IsOneWord (codes "value")
word_value = record { spaces = none_by 32 (codes "value") refl; commas = none_by 44 (codes "value") refl; returns = none_by 13 (codes "value") refl; feeds = none_by 10 (codes "value") refl }

pub word_product : IsOneWord (codes "product")
word_product = record { spaces = none_by 32 (codes "product") refl; commas = none_by 44 (codes "product") refl; returns = none_by 13 (codes "product") refl; feeds = none_by 10 (codes "product") refl }

pub word_leg : IsOneWord (codes "leg")
word_leg = record { spaces = none_by 32 (codes "leg") refl; commas = none_by 44 (codes "leg") refl; returns = none_by 13 (codes "leg") refl; feeds = none_by 10 (codes "leg") refl }

-- ---- where names differ, a thing is found by its name
pub found_by_name : {X : Type 0} (name : X → List ℕ) (xs : List X) (d : X) (i k : ℕ) → i < length xs → AllPairs (λ a b. a ≢ b) (map name xs)
    → position_from (λ x. bytes_eq (name x) (name (get_or xs i d))) k xs ≡ Some (k + i)
found_by_name name [] d i k few apart = absurd (omega arith)
found_by_name name (x ∷ xs) d zero k few apart =
    ap (λ b. cond b (Some k) (position_from (λ y. bytes_eq (name y) (name x)) (k + 1) xs)) ((bytes_eq-Decides (name x) (name x)).1 refl) ∙ ap Some (omega arith)
found_by_name name (x ∷ xs) d (suc i) k few apart =
    let within : i < length xs = omega arith in
    let there : get_or (map name xs) i (name d) ≡ name (get_or xs i d) = get_or-map name xs i d (name d) within in
    let other : name x ≢ name (get_or xs i d) = λ same. apart 0 (suc i) (name d) (omega arith) (omega (arith, length-map xs name)) (same ∙ sym there) in
    ap (λ b. cond b (Some k) (position_from (λ y. bytes_eq (name y) (name (get_or xs i d))) (k + 1) xs)) (bytes_eq-apart (name x) (name (get_or xs i d)) other)
    ∙ found_by_name name xs d i (k + 1) within (λ a b e low short. apart (suc a) (suc b) e (omega arith) (omega arith))
    ∙ ap Some (omega arith)
