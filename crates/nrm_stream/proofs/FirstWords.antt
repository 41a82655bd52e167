-- What more than three words ask for, and the words after `book` and after `cancel`. A number has no space in it: where its bytes
-- have one, the line is bad as a line of too many words.
use Rattle.std.proofs.Common.{ℕ, suc, ◌≡◌, ◌≤◌, ◌+◌, ◌-◌, ◌∙◌, Bool, true, false, ◌&&◌, ◌==◌, List, [], ◌∷◌, length, take, drop}
use Rattle.std.proofs.Common.{Option, Some, None, refl, ap, sym, inl, inr, arith, bytes_eq, subst, codes, nat_le}
use Rattle.std.specs.List.{list_all, list_any, onto_first, position, slice_split}
use Rattle.std.specs.Char.{is_ascii_digit}
use Rattle.std.specs.Prelude.{option_and_then}
use Rattle.std.proofs.lemmas.Bool.{and_parts, cases_Bool, eqb-true}
use Rattle.std.proofs.lemmas.List.{take_rest}
use Rattle.std.proofs.lemmas.List.Splits.{slice_split-cons_no}
use Rattle.nrm_text.specs.Numbers.{is_whole, whole_between}
use Rattle.nrm_model.specs.declared.limits.TheConstants.{MOST_PARTY}
use Rattle.nrm_text.specs.Names.{is_name, is_name_byte, name_before, name_in}
use Rattle.nrm_text.proofs.Decimals.{whole-digits}
use Rattle.nrm_stream.specs.Commands.{booking_of, command_of_words, three_words, two_words}
use Rattle.nrm_stream.specs.declared.command.Command.{Command}
use Rattle.nrm_stream.specs.declared.command.Command.TheVariants as command
use Rattle.nrm_stream.proofs.Cuts.{some-parts, split-found, split-missing}
use Rattle.nrm_stream.proofs.LongLines.{booking-none}

abbrev is_space : ℕ → Bool
is_space c = c == 32

digit-no-space : (c : ℕ) → is_ascii_digit c ≡ true → (c == 32) ≡ false
digit-no-space c digit = let low : nat_le 48 c ≡ true = (and_parts (nat_le 48 c) (nat_le c 57) digit).0 in grind arith

name-no-space : (c : ℕ) → is_name_byte c ≡ true → (c == 32) ≡ false
name-no-space c named =
    elim (cases_Bool (c == 32)) [
      | inl space ↦ let at : c ≡ 32 = grind arith in let none : is_name_byte 32 ≡ true = rw at at named in absurd (cc)
      | inr other ↦ other
    ]

-- bytes with no space among them are one word
alone : (p : ℕ → Bool) → ((c : ℕ) → p c ≡ true → (c == 32) ≡ false) → (xs : List ℕ) → list_all p xs ≡ true
    → slice_split is_space xs ≡ xs ∷ []
alone p none [] all = refl
alone p none (x ∷ xs) all =
    let (first, others) = and_parts (p x) (list_all p xs) all in
    slice_split-cons_no is_space x xs (none x first) ∙ ap (onto_first x) (alone p none xs others)

-- and bytes with a space are more
spaced : (xs : List ℕ) (i : ℕ) → position is_space xs ≡ Some i → slice_split is_space xs ≡ xs ∷ [] → ⊥
spaced xs i found one =
    let more = take (length xs - (i + 1)) (drop (i + 1) xs) in
    let cut : length (slice_split is_space xs) ≡ suc (length (slice_split is_space more)) =
    ap length (split-found is_space xs i found).0 in
    let some : 1 ≤ length (slice_split is_space more) = some-parts is_space more in
    let single : length (slice_split is_space xs) ≡ 1 = ap length one in
    absurd (omega (arith, single, cut, some))

-- so they are no whole number and no name
spaced-number : (xs : List ℕ) (i : ℕ) → position is_space xs ≡ Some i → is_whole xs ≡ false
spaced-number xs i found =
    elim (cases_Bool (is_whole xs)) [
      | inl whole ↦ absurd (spaced xs i found (alone is_ascii_digit digit-no-space xs (whole-digits xs whole)))
      | inr other ↦ other
    ]

spaced-name : (xs : List ℕ) (i : ℕ) → position is_space xs ≡ Some i → name_in xs ≡ None
spaced-name xs i found =
    elim (cases_Bool (is_name xs)) [
      | inl named ↦
          let (front, all) = and_parts (nat_le 1 (length xs) && nat_le (length xs) 12) (list_all is_name_byte xs) named in
          absurd (spaced xs i found (alone is_name_byte name-no-space xs all))
      | inr other ↦ rw other refl
    ]

-- a line of more than three words
pub too-many-words : (first second third : List ℕ) (more : List (List ℕ)) → 1 ≤ length more
    → command_of_words (first ∷ second ∷ third ∷ more) ≡ command.Bad
too-many-words first second third [] some = absurd (omega arith)
too-many-words first second third (fourth ∷ more) some = refl

pub booking-words : (name party : List ℕ) → command_of_words (codes "book" ∷ name ∷ slice_split (λ c. c == 32) party)
    ≡ three_words (codes "book") name party
booking-words name party = by (position is_space party) refl
  where
    by : (at : Option ℕ) → position is_space party ≡ at → command_of_words (codes "book" ∷ name ∷ slice_split is_space party)
        ≡ three_words (codes "book") name party
    by None e = ap (λ (parts : List (List ℕ)). command_of_words (codes "book" ∷ name ∷ parts)) (split-missing is_space party e)
    by (Some i) e =
        let more = take (length party - (i + 1)) (drop (i + 1) party) in
        let bad : three_words (codes "book") name party ≡ command.Bad = rw (spaced-number party i e) (booking-none (name_in name)) in
        ap (λ (parts : List (List ℕ)). command_of_words (codes "book" ∷ name ∷ parts)) (split-found is_space party i e).0
        ∙ too-many-words (codes "book") name (take i party) (slice_split is_space more) (some-parts is_space more)
        ∙ sym bad

-- what follows `book`, by the name before the first space
pub booking_by : Option (List ℕ × List ℕ) → Command
booking_by None = command.Bad
booking_by (Some cut) = booking_of (Some cut.0) (whole_between 1 MOST_PARTY cut.1)

name-words : (rest : List ℕ) → command_of_words (codes "book" ∷ slice_split (λ c. c == 32) rest) ≡ booking_by (name_before 32 rest)
unfolding booking_by
name-words rest = by (position is_space rest) refl
  where
    named : (i : ℕ) (b : Bool) → is_name (take i rest) ≡ b
        → booking_of (name_in (take i rest)) (whole_between 1 MOST_PARTY (drop (i + 1) rest))
        ≡ booking_by (option_and_then (λ name. Some (name, drop (i + 1) rest)) (name_in (take i rest)))
    named i true e = rw e refl
    named i false e = rw e refl

    by : (at : Option ℕ) → position is_space rest ≡ at → command_of_words (codes "book" ∷ slice_split is_space rest)
        ≡ booking_by (name_before 32 rest)
    by None e = ap (λ (parts : List (List ℕ)). command_of_words (codes "book" ∷ parts)) (split-missing is_space rest e) ∙ rw e refl
    by (Some i) e =
        let party : take (length rest - (i + 1)) (drop (i + 1) rest) ≡ drop (i + 1) rest = take_rest rest (i + 1) in
        let parts = (split-found is_space rest i e).0 ∙ ap (λ (p : List ℕ). take i rest ∷ slice_split is_space p) party in
        let words = ap (λ (ps : List (List ℕ)). command_of_words (codes "book" ∷ ps)) parts
        ∙ booking-words (take i rest) (drop (i + 1) rest) in
        words ∙ rw e (named i (is_name (take i rest)) refl)

pub booked : (rest name party : List ℕ) → name_before 32 rest ≡ Some (name, party)
    → booking_of (Some name) (whole_between 1 MOST_PARTY party) ≡ command_of_words (codes "book" ∷ slice_split (λ c. c == 32) rest)
unfolding booking_by
booked rest name party is = sym (name-words rest ∙ ap booking_by is)

pub not-booked : (rest : List ℕ) → name_before 32 rest ≡ None → command.Bad
    ≡ command_of_words (codes "book" ∷ slice_split (λ c. c == 32) rest)
unfolding booking_by
not-booked rest is = sym (name-words rest ∙ ap booking_by is)

-- more than two words, the first of which isn't `book`
more-words : (word next : List ℕ) (more : List (List ℕ)) → bytes_eq word (codes "book") ≡ false → 1 ≤ length more
    → command_of_words (word ∷ next ∷ more) ≡ command.Bad
more-words word next [] other some = absurd (omega arith)
more-words word next (x ∷ []) other some = rw other refl
more-words word next (x ∷ y ∷ more) other some = refl

-- a word, and what follows it where that may have no space in it
words-after : (word rest : List ℕ) → bytes_eq word (codes "book") ≡ false
    → ((i : ℕ) → position is_space rest ≡ Some i → two_words word rest ≡ command.Bad)
    → command_of_words (word ∷ slice_split is_space rest) ≡ two_words word rest
words-after word rest other bad = by (position is_space rest) refl
  where
    by : (at : Option ℕ) → position is_space rest ≡ at → command_of_words (word ∷ slice_split is_space rest) ≡ two_words word rest
    by None e = ap (λ (parts : List (List ℕ)). command_of_words (word ∷ parts)) (split-missing is_space rest e)
    by (Some i) e =
        let more = take (length rest - (i + 1)) (drop (i + 1) rest) in
        ap (λ (parts : List (List ℕ)). command_of_words (word ∷ parts)) (split-found is_space rest i e).0
        ∙ more-words word (take i rest) (slice_split is_space more) other (some-parts is_space more)
        ∙ sym (bad i e)

pub cancellation-words : (number : List ℕ) → command_of_words (codes "cancel" ∷ slice_split (λ c. c == 32) number)
    ≡ two_words (codes "cancel") number
cancellation-words number = words-after (codes "cancel") number refl (λ i e. rw (spaced-number number i e) refl)

pub reoptimisation-words : (period : List ℕ) → command_of_words (codes "reoptimise" ∷ slice_split (λ c. c == 32) period)
    ≡ two_words (codes "reoptimise") period
reoptimisation-words period = words-after (codes "reoptimise") period refl (λ i e. rw (spaced-number period i e) refl)

pub leg-words : (name : List ℕ) → command_of_words (codes "leg" ∷ slice_split (λ c. c == 32) name) ≡ two_words (codes "leg") name
leg-words name = words-after (codes "leg") name refl (λ i e. rw (spaced-name name i e) refl)

-- a first word that is none of these
pub unknown-word : (word : List ℕ) (more : List (List ℕ)) → 1 ≤ length more → bytes_eq word (codes "reoptimise") ≡ false
    → bytes_eq word (codes "leg") ≡ false → bytes_eq word (codes "cancel") ≡ false → bytes_eq word (codes "book") ≡ false
    → command_of_words (word ∷ more) ≡ command.Bad
unknown-word word [] some r l c b = absurd (omega arith)
unknown-word word (next ∷ []) some r l c b = rw (r, l, c) refl
unknown-word word (next ∷ x ∷ more) some r l c b = more-words word next (x ∷ more) b (omega arith)

-- a line whose first byte begins none of the known words
unknown-first : (first : ℕ) (line : List ℕ) → list_any (λ c. c == first) (codes "bchlpr") ≡ false
    → command_of_words (slice_split (λ c. c == 32) (first ∷ line)) ≡ command.Bad
unknown-first first line none = by (first == 32) refl
  where
    other : (c : ℕ) → list_any (λ b. b == c) (codes "bchlpr") ≡ true → (first == c) ≡ false
    other c some =
        elim (cases_Bool (first == c)) [
          | inl e ↦
              let same : first ≡ c = eqb-true first c e in
              let no : list_any (λ b. b == c) (codes "bchlpr") ≡ false =
              subst (λ (d : ℕ). list_any (λ b. b == d) (codes "bchlpr") ≡ false) same none in
              absurd (cc (no, some))
          | inr e ↦ e
        ]

    begun : (parts : List (List ℕ)) → 1 ≤ length parts → command_of_words (onto_first first parts) ≡ command.Bad
    begun [] some = absurd (omega arith)
    begun (word ∷ []) some = rw (other 104 refl, other 112 refl) refl
    begun (word ∷ next ∷ more) some =
        unknown-word (first ∷ word) (next ∷ more) (omega arith) (rw (other 114 refl) refl) (rw (other 108 refl) refl)
        (rw (other 99 refl) refl) (rw (other 98 refl) refl)

    by : (b : Bool) → (first == 32) ≡ b → command_of_words (slice_split is_space (first ∷ line)) ≡ command.Bad
    by true e = rw e (unknown-word [] (slice_split is_space line) (some-parts is_space line) refl refl refl refl)
    by false e = rw e (begun (slice_split is_space line) (some-parts is_space line))

pub unknown-line : (first : ℕ) (line rest : List ℕ) → line ≡ first ∷ rest → list_any (λ c. c == first) (codes "bchlpr") ≡ false
    → command_of_words (slice_split (λ c. c == 32) line) ≡ command.Bad
unknown-line first line rest is none =
    ap (λ (all : List ℕ). command_of_words (slice_split is_space all)) is ∙ unknown-first first rest none

pub empty-line : (line : List ℕ) → length line ≡ 0 → command_of_words (slice_split (λ c. c == 32) line) ≡ command.Bad
empty-line [] none = refl
empty-line (first ∷ line) none = absurd (omega (arith, none))
