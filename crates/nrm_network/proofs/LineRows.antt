-- The records of a text without a quote are its lines that have a byte, each cut at its commas.
use Rattle.std.proofs.Common.{◌≡◌, ◌∙◌, ◌+◌, ◌<◌, ◌≤◌, ℕ, zero, suc, Bool, true, false, ◌==◌, List, [], ◌∷◌, ◌++◌, length}
use Rattle.std.proofs.Common.{◌⊎◌, Some, None, refl, sym, arith, inl, inr, drop, ap, length-drop}
use Rattle.std.specs.Prelude.{⊤, fold, Option}
use Rattle.std.specs.List.{list_any}
use Rattle.std.proofs.lemmas.Bool.{cases_Bool, eqb-true}
use Rattle.csv.specs.Machine.{Read, next_record, after_end, ends_at_end}
use Rattle.csv.specs.Reading.{records, records_from, default_config}
use Rattle.csv.specs.declared.parser.Config.{Config}
use Rattle.csv.specs.declared.parser.State.{State}
use Rattle.csv.specs.declared.parser.State.TheVariants as st
use Rattle.csv.specs.declared.parser.Terminator.TheVariants as term
use Rattle.nrm_network.specs.Rows.{Row}
use Rattle.nrm_network.specs.Inner.Lines.{has_quote, ends_line, line_of, Cutting, after_byte, line_fields}
use Rattle.nrm_network.proofs.CsvRows.{next-leaves, next-shortens, next-empty}

-- a text whose first byte is no quote, and neither is any other
first-none : (p : ℕ → Bool) (c : ℕ) (rest : List ℕ) → list_any p (c ∷ rest) ≡ false → (p c ≡ false) × (list_any p rest ≡ false)
first-none p c rest none =
    elim (cases_Bool (p c)) [
      | inl e ↦ let no : true ≡ false = rw e at none in cc
      | inr e ↦ (e, rw e at none)
    ]

-- a comma ends no line
comma-inside : (c : ℕ) → (c == 44) ≡ true → ends_line c ≡ false
comma-inside c e = let same : c ≡ 44 = eqb-true c 44 e in rw same refl

-- a field that doesn't begin with a quote goes on as it began
goes-on : (fields : Row) (field xs : List ℕ) → has_quote xs ≡ false
    → next_record default_config st.StartField fields field xs ≡ next_record default_config st.InField fields field xs
unfolding next_record
goes-on fields field [] plain = refl
goes-on fields field (c ∷ rest) plain = let no = (first-none (λ b. b == 34) c rest plain).0 in rw no refl

-- and so does a record
begins : (fields : Row) (field : List ℕ) (c : ℕ) (rest : List ℕ) → has_quote (c ∷ rest) ≡ false → ends_line c ≡ false
    → next_record default_config st.StartRecord fields field (c ∷ rest) ≡ next_record default_config st.InField fields field (c ∷ rest)
unfolding next_record
begins fields field c rest plain inside = let no = (first-none (λ b. b == 34) c rest plain).0 in rw (inside, no) refl

-- what is behind a line: the byte that ends it, and those after it
behind_line : List ℕ → List ℕ
behind_line bytes = drop (length (line_of bytes)) bytes

state_behind : List ℕ → State
state_behind [] = st.StartRecord
state_behind (c ∷ rest) = after_end term.CRLF c

after_end_byte : List ℕ → List ℕ
after_end_byte [] = []
after_end_byte (c ∷ rest) = rest

closed : Cutting → Row
closed cutting = cutting.0 ++ cutting.1 ∷ []

-- a comma ends a field, and another byte belongs to it
pub after_byte-comma : (fields : Row) (field : List ℕ) (c : ℕ) → (c == 44) ≡ true → after_byte (fields, field) c ≡ (fields ++ field ∷ [], [])
after_byte-comma fields field c comma = rw comma refl

pub after_byte-other : (fields : Row) (field : List ℕ) (c : ℕ) → (c == 44) ≡ false → after_byte (fields, field) c ≡ (fields, field ++ c ∷ [])
after_byte-other fields field c other = rw other refl

-- the record that a line is from a place on, by what was cut before it
read_on : Cutting → List ℕ → Read
read_on cutting xs =
    (closed (fold after_byte cutting (line_of xs)), state_behind (behind_line xs), after_end_byte (behind_line xs))

-- the record that begins with these fields and bytes goes to the end of the line
next-line : (fields : Row) (field xs : List ℕ) → has_quote xs ≡ false
    → next_record default_config st.InField fields field xs ≡ Some (read_on (fields, field) xs)
unfolding next_record behind_line state_behind after_end_byte closed read_on
next-line fields field [] plain = refl
next-line fields field (c ∷ rest) plain =
    let more = (first-none (λ b. b == 34) c rest plain).1 in
    elim (cases_Bool (c == 44)) [
      | inl comma ↦
          let inside = comma-inside c comma in
          rw (comma, inside) (goes-on (fields ++ field ∷ []) [] rest more ∙ next-line (fields ++ field ∷ []) [] rest more
          ∙ ap (λ (cutting : Cutting). Some (read_on cutting rest)) (sym (after_byte-comma fields field c comma)))
      | inr other ↦ elim (cases_Bool (ends_line c)) [
        | inl end ↦ rw (other, end) refl
        | inr inside ↦
            rw (other, inside) (next-line fields (field ++ c ∷ []) rest more
            ∙ ap (λ (cutting : Cutting). Some (read_on cutting rest)) (sym (after_byte-other fields field c other)))
      ]
    ]

-- the bytes behind a line begin with one that ends it, if there are any
EndsFirst : List ℕ → Type 0
EndsFirst [] = ⊤
EndsFirst (c ∷ rest) = ends_line c ≡ true

behind-ends : (xs : List ℕ) → EndsFirst (behind_line xs)
unfolding behind_line EndsFirst
behind-ends [] = tt
behind-ends (c ∷ rest) =
    elim (cases_Bool (ends_line c)) [
      | inl end ↦ rw end end
      | inr inside ↦ rw inside (behind-ends rest)
    ]

-- what was read leaves fewer bytes than there were, and no record open
leaves-fewer : (cfg : Config) (s : State) (xs : List ℕ) (p : Read) → ends_at_end s ≡ false → next_record cfg s [] [] xs ≡ Some p
    → (ends_at_end p.1 ≡ false) × (length p.2 < length xs)
leaves-fewer cfg s [] p closed next = let no : None ≡ Some p = sym (next-empty cfg s closed) ∙ next in cc
leaves-fewer cfg s (c ∷ rest) p closed next =
    let size = next-shortens cfg s c rest p next in
    ((next-leaves cfg s [] [] (c ∷ rest) p next).0, omega (arith, size))

cases_Option : (o : Option Read) → (o ≡ None) ⊎ ((p : Read) × (o ≡ Some p))
cases_Option None = inl refl
cases_Option (Some p) = inr (p, refl)

-- more turns than there are bytes give all the records
enough : (cfg : Config) (n m : ℕ) (s : State) (xs : List ℕ) → ends_at_end s ≡ false → length xs < n → length xs < m
    → records_from cfg n s xs ≡ records_from cfg m s xs
unfolding records_from
enough cfg zero m s xs closed short fewer = absurd (omega arith)
enough cfg (suc n) zero s xs closed short fewer = absurd (omega arith)
enough cfg (suc n) (suc m) s xs closed short fewer =
    elim (cases_Option (next_record cfg s [] [] xs)) [
      | inl none ↦ rw none refl
      | inr some ↦
          let left = leaves-fewer cfg s xs some.0 closed some.1 in
          let again = enough cfg n m some.0.1 some.0.2 left.0 (omega (arith, left.1)) (omega (arith, left.1)) in
          rw some.1 (ap (λ (rows : List Row). some.0.0 ∷ rows) again)
    ]

-- a byte that ends a line is passed over where no record is open
next-blank : (c : ℕ) (rest : List ℕ) → ends_line c ≡ true
    → next_record default_config st.StartRecord [] [] (c ∷ rest) ≡ next_record default_config st.StartRecord [] [] rest
unfolding next_record
next-blank c rest end = rw end refl

-- and after a carriage return all is as at the start of a line
next-after : (xs : List ℕ) → next_record default_config st.AfterCr [] [] xs ≡ next_record default_config st.StartRecord [] [] xs
unfolding next_record
next-after [] = refl
next-after (c ∷ rest) =
    elim (cases_Bool (c == 10)) [
      | inl feed ↦ let same : c ≡ 10 = eqb-true c 10 feed in rw same refl
      | inr other ↦ rw other refl
    ]

after-return : (n : ℕ) (xs : List ℕ) → records_from default_config n st.AfterCr xs ≡ records_from default_config n st.StartRecord xs
unfolding records_from
after-return zero xs = refl
after-return (suc n) xs = rw (next-after xs) refl

-- so a byte that ends a line is no part of a record
pub records-blank : (c : ℕ) (rest : List ℕ) → ends_line c ≡ true → records default_config (c ∷ rest) ≡ records default_config rest
unfolding records_from
records-blank c rest end =
    let n : ℕ = length rest + 1 in
    enough default_config (length (c ∷ rest) + 1) (suc n) st.StartRecord (c ∷ rest) refl (omega arith) (omega arith)
    ∙ rw (next-blank c rest end) refl
    ∙ enough default_config (suc n) n st.StartRecord rest refl (omega arith) (omega arith)

records-at_end : (n : ℕ) (c : ℕ) (rest : List ℕ) → length rest < n → ends_line c ≡ true
    → records_from default_config n (after_end term.CRLF c) rest ≡ records default_config (c ∷ rest)
records-at_end n c rest short end =
    let all = enough default_config n (length rest + 1) st.StartRecord rest refl short (omega arith) ∙ sym (records-blank c rest end) in
    elim (cases_Bool (c == 13)) [
      | inl return ↦ rw return (after-return n rest ∙ all)
      | inr feed ↦ rw feed all
    ]

records-behind : (n : ℕ) (ys : List ℕ) → EndsFirst ys → length ys ≤ n → 0 < n
    → records_from default_config n (state_behind ys) (after_end_byte ys) ≡ records default_config ys
unfolding EndsFirst state_behind after_end_byte
records-behind n [] ends short some = enough default_config n 1 st.StartRecord [] refl some (omega arith)
records-behind n (c ∷ rest) ends short some = records-at_end n c rest (omega arith) ends

-- the first record of a line is its fields, and the others come after it
pub records-line : (c : ℕ) (rest : List ℕ) → has_quote (c ∷ rest) ≡ false → ends_line c ≡ false
    → records default_config (c ∷ rest)
    ≡ line_fields (line_of (c ∷ rest)) ∷ records default_config (drop (length (line_of (c ∷ rest))) (c ∷ rest))
unfolding records_from behind_line closed read_on
records-line c rest plain inside =
    let n : ℕ = length rest + 1 in
    let next = begins [] [] c rest plain inside ∙ next-line [] [] (c ∷ rest) plain in
    let size = length-drop (length (line_of (c ∷ rest))) (c ∷ rest) in
    enough default_config (length (c ∷ rest) + 1) (suc n) st.StartRecord (c ∷ rest) refl (omega arith) (omega arith)
    ∙ rw next (ap (λ (rows : List Row). line_fields (line_of (c ∷ rest)) ∷ rows)
    (records-behind n (behind_line (c ∷ rest)) (behind-ends (c ∷ rest)) (omega (arith, size)) (omega arith)))

-- a text without a quote has none behind any of its places
pub drop-plain : (text : List ℕ) (at : ℕ) → has_quote text ≡ false → has_quote (drop at text) ≡ false
drop-plain text zero plain = plain
drop-plain [] (suc at) plain = refl
drop-plain (c ∷ rest) (suc at) plain = drop-plain rest at (first-none (λ b. b == 34) c rest plain).1

-- a line that begins with a byte of its own has that byte
pub line-some : (c : ℕ) (rest : List ℕ) → ends_line c ≡ false → 0 < length (line_of (c ∷ rest))
line-some c rest inside = rw inside (omega arith)

-- and no more bytes than there are
pub line-short : (bytes : List ℕ) → length (line_of bytes) ≤ length bytes
line-short [] = omega arith
line-short (c ∷ rest) =
    let more = line-short rest in
    elim (cases_Bool (ends_line c)) [ inl end ↦ rw end (omega arith) | inr inside ↦ rw inside (omega (arith, more)) ]

-- no bytes are no records
pub records-none : records default_config [] ≡ []
unfolding next_record records_from
records-none = refl
