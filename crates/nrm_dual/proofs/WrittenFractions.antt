-- A line of a certificate that is written gives the fraction that it was written for.
use Rattle.std.proofs.Common.{◌≡◌, ◌≢◌, ℕ, ◌-◌, ◌<◌, ◌≤◌, ◌^◌, ℤ, pos, nat_abs, arith, refl, ap, ap₂, ◌∙◌, List, [], ◌∷◌, ◌++◌, length}
use Rattle.std.proofs.Common.{get_or, take, codes, All, true, false, cond, ◌==◌, nat_le, nat_lt, Some}
use Rattle.std.specs.Prelude.{decimal}
use Rattle.std.specs.List.{slice_split, join_with_byte}
use Rattle.std.specs.Option.{option_map}
use Rattle.std.specs.Str.Lines.{strip_carriage_return}
use Rattle.std.proofs.lemmas.Bool.{ne_eqb, le-leb, le-ltb}
use Rattle.std.proofs.lemmas.List.Elements.{All-nil, All-cons, All-head, All-tail, All-append}
use Rattle.nrm_fraction.specs.Large.{size_limit}
use Rattle.nrm_fraction.specs.Fraction.{Fraction, ◌over◌}
use Rattle.nrm_text.specs.Fractions.{sign_of, fraction_text}
use Rattle.nrm_text.specs.ReadBack.{HasNone, IsOneWord, FractionParts, IsQuotient}
use Rattle.nrm_text.proofs.Decimals.{is_whole-decimal, value_of-decimal}
use Rattle.nrm_text.proofs.ReadBack as back
use Rattle.nrm_lp.specs.Shape.{IsNumber}
use Rattle.nrm_model.specs.Network.{NetworkValue, leg_named, product_named}
use Rattle.nrm_dual.specs.Reading.{Written, written_by, written_in, the_value, of_product, of_leg, entry_at, entry_of_words, entry_of}
use Rattle.nrm_dual.specs.Reading.{is_over}
use Rattle.nrm_lp.proofs.Sizes.{below_limit}
use Rattle.nrm_dual.proofs.SheetBack.{IsWritten}

-- ---- the text of a fraction
abbrev pub as_written : ℕ → ℕ → Written
as_written p q = record { num = p; den = q }

digits_back : (p q : ℕ) → p < 2 ^ 64 → q < 2 ^ 64 → 0 < q → written_by (decimal p ∷ decimal q ∷ []) ≡ Some (as_written p q)
digits_back p q few_p few_q some =
    let least : nat_le 1 q ≡ true = le-leb 1 q some in
    rw (is_whole-decimal p few_p, is_whole-decimal q few_q, value_of-decimal p few_p, value_of-decimal q few_q, least) refl

not_over : (p q : ℕ) → p < 2 ^ 63 → q < 2 ^ 63 → is_over (as_written p q) ≡ false
not_over p q few_p few_q =
    let top : nat_lt (2 ^ 63 - 1) p ≡ false = le-ltb (2 ^ 63 - 1) p (omega arith) in
    let bottom : nat_lt (2 ^ 63 - 1) q ≡ false = le-ltb (2 ^ 63 - 1) q (omega arith) in
    rw (top, bottom) refl

-- the fraction that a text of n / d gives: it is that fraction, and its numbers aren't too large
pub record GivesBack (n : ℤ) (d : ℕ) (w : Written) : Type 0 where
  pub read : written_in (fraction_text (n over d)) ≡ Some w
  pub fits : is_over w ≡ false
  pub is : IsWritten n d w

no_sign : (n : ℤ) (k : ℕ) → n ≡ pos k → sign_of n ≡ []
no_sign n k e = ap sign_of e

pub fraction_back : (n : ℤ) (d : ℕ) → IsNumber size_limit n → 0 < d → d < 2 ^ 63 → (w : Written) × GivesBack n d w
fraction_back n d number some few =
    let x : Fraction = n over d in
    let size : nat_abs n < 2 ^ 48 = below_limit n number in
    let is : IsQuotient n d x = back.quotients n d some in
    let less_p : nat_abs x.num ≤ nat_abs n = is.small.0 in
    let less_q : x.den ≤ d = is.small.1 in
    let parts : FractionParts x = back.fractions x (omega arith) (omega arith) in
    let digits : (sign_of x.num ++ decimal (nat_abs x.num)) ∷ decimal x.den ∷ [] ≡ decimal (nat_abs x.num) ∷ decimal x.den ∷ [] =
    ap (λ s. (s ++ decimal (nat_abs x.num)) ∷ decimal x.den ∷ []) (is.sign ∙ no_sign n number.0 number.1) in (
      as_written (nat_abs x.num) x.den,
      record {
        read = ap written_by (parts.cut ∙ digits) ∙ digits_back (nat_abs x.num) x.den (omega arith) (omega arith) parts.positive;
        fits = not_over (nat_abs x.num) x.den (omega arith) (omega arith);
        is = record { same = is.same; positive = parts.positive };
      },
    )

-- ---- words without spaces and ends of lines, in a line
no_return : (line : List ℕ) → HasNone 13 line → strip_carriage_return line ≡ line
no_return [] none = refl
no_return (c ∷ more) none =
    let other : (get_or (c ∷ more) (length (c ∷ more) - 1) 0 == 13) ≡ false = ne_eqb (get_or (c ∷ more) (length (c ∷ more) - 1) 0) 13 (none (length (c ∷ more) - 1) 0 (omega arith)) in
    ap (λ b. cond b (take (length (c ∷ more) - 1) (c ∷ more)) (c ∷ more)) other

pub joined_none : (c : ℕ) (words : List (List ℕ)) → 32 ≢ c → All (HasNone c) words → HasNone c (join_with_byte 32 words)
joined_none c [] other none = All-nil (λ b. b ≢ c)
joined_none c (word ∷ []) other none = All-head (HasNone c) word [] none
joined_none c (word ∷ next ∷ more) other none =
    All-append (λ b. b ≢ c) word (32 ∷ join_with_byte 32 (next ∷ more)) (All-head (HasNone c) word (next ∷ more) none)
    (All-cons (λ b. b ≢ c) 32 (join_with_byte 32 (next ∷ more)) other (joined_none c (next ∷ more) other (All-tail (HasNone c) word (next ∷ more) none)))

-- the line of these words is read as these words
pub line_back : (net : NetworkValue) (word : List ℕ) (more : List (List ℕ)) → All IsOneWord (word ∷ more)
    → entry_of net (join_with_byte 32 (word ∷ more)) ≡ entry_of_words net (word ∷ more)
line_back net word more h =
    ap (λ l. entry_of_words net (slice_split (λ c. c == 32) l)) (no_return (join_with_byte 32 (word ∷ more)) (joined_none 13 (word ∷ more) (λ e. cc) (λ k d short. (h k d short).returns)))
    ∙ ap (entry_of_words net) (back.words word more (λ k d short. (h k d short).spaces))

module _ (net : NetworkValue) (w : Written) (text : List ℕ) (read : written_in text ≡ Some w) where
  pub value_entry : entry_of_words net (codes "value" ∷ text ∷ []) ≡ Some (record { place = the_value; fraction = w })
  value_entry = ap (entry_at (Some the_value)) read

  pub product_entry : (name : List ℕ) (j : ℕ) → product_named net name ≡ Some j → entry_of_words net (codes "product" ∷ name ∷ text ∷ []) ≡ Some (record { place = of_product j; fraction = w })
  product_entry name j found = ap₂ entry_at (ap (option_map of_product) found) read

  pub leg_entry : (name : List ℕ) (i : ℕ) → leg_named net name ≡ Some i → entry_of_words net (codes "leg" ∷ name ∷ text ∷ []) ≡ Some (record { place = of_leg i; fraction = w })
  leg_entry name i found = ap₂ entry_at (ap (option_map of_leg) found) read
