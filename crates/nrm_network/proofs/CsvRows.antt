-- The rows that a reader took one after another are the records of the text.
use Rattle.std.proofs.Common.{◌≡◌, ◌∙◌, ◌+◌, ◌<◌, ◌≤◌, ℕ, zero, suc, Bool, true, false, cond, ◌==◌, ◌&&◌, List, [], ◌∷◌, ◌++◌, length, Some}
use Rattle.std.proofs.Common.{None, refl, sym, arith, inl, inr, subst}
use Rattle.std.proofs.lemmas.Bool.{cases_Bool}
use Rattle.csv.specs.Machine.{Read, step, in_field, start_field, start_record, after_end, ends_with, is_byte, ends_at_end, is_end}
use Rattle.csv.specs.Machine.{fields_after, field_after, next_record}
use Rattle.csv.specs.Reading.{AreRecords, Reached, records, records_from, default_config, is_bom, strip_bom}
use Rattle.csv.specs.declared.parser.Config.{Config}
use Rattle.csv.specs.declared.parser.State.{State}
use Rattle.csv.specs.declared.parser.State.TheVariants as st
use Rattle.csv.specs.declared.parser.Action.{Action}
use Rattle.csv.specs.declared.parser.Action.TheVariants as act
use Rattle.csv.specs.declared.parser.Terminator.{Terminator}
use Rattle.csv.specs.declared.parser.Terminator.TheVariants as term
use Rattle.nrm_network.specs.Rows.{Row}

-- where this ends a record, the end of the text right after it ends none
Closes : State × Action → Type 0
Closes p = is_end p.1 ≡ true → ends_at_end p.0 ≡ false

chosen-closes : (b : Bool) (x y : State × Action) → Closes x → Closes y → Closes (cond b x y)
chosen-closes true x y p q = p
chosen-closes false x y p q = q

after_end-closed : (t : Terminator) (c : ℕ) → ends_at_end (after_end t c) ≡ false
after_end-closed (term.Any t) c = refl
after_end-closed term.CRLF c = elim (cases_Bool (c == 13)) [ inl e ↦ rw e refl | inr e ↦ rw e refl ]

open-closes : (s : State) (a : Action) → is_end a ≡ false → Closes (s, a)
unfolding Closes
open-closes s a e = λ h. cc

in_field-closes : (cfg : Config) (c : ℕ) → Closes (in_field cfg c)
unfolding Closes
in_field-closes cfg c =
    chosen-closes (c == cfg.delimiter) _ _ (open-closes st.StartField act.EndField refl)
    (chosen-closes (ends_with cfg.terminator c) _ _ (λ _. after_end-closed cfg.terminator c) (open-closes st.InField act.Copy refl))

start_field-closes : (cfg : Config) (c : ℕ) → Closes (start_field cfg c)
start_field-closes cfg c = chosen-closes (cfg.quoting && (c == cfg.quote)) _ _ (open-closes st.InQuoted act.Skip refl)
    (in_field-closes cfg c)

start_record-closes : (cfg : Config) (c : ℕ) → Closes (start_record cfg c)
start_record-closes cfg c =
    chosen-closes (ends_with cfg.terminator c) _ _ (open-closes st.StartRecord act.Skip refl)
    (chosen-closes (is_byte cfg.comment c) _ _ (open-closes st.InComment act.Skip refl) (start_field-closes cfg c))

step-closes : (cfg : Config) (s : State) (c : ℕ) → Closes (step cfg s c)
step-closes cfg st.StartRecord c = start_record-closes cfg c
step-closes cfg st.StartField c = start_field-closes cfg c
step-closes cfg st.InField c = in_field-closes cfg c
step-closes cfg st.InQuoted c =
    chosen-closes (cfg.quoting && (c == cfg.quote)) _ _ (open-closes st.AfterQuote act.Skip refl)
    (chosen-closes (cfg.quoting && is_byte cfg.escape c) _ _ (open-closes st.InEscape act.Skip refl)
    (open-closes st.InQuoted act.Copy refl))
step-closes cfg st.InEscape c = open-closes st.InQuoted act.Copy refl
step-closes cfg st.AfterQuote c =
    chosen-closes (cfg.quoting && cfg.double_quote && (c == cfg.quote)) _ _ (open-closes st.InQuoted act.Copy refl) (in_field-closes cfg c)
step-closes cfg st.InComment c =
    chosen-closes (c == 10) _ _ (open-closes st.StartRecord act.Skip refl) (open-closes st.InComment act.Skip refl)
step-closes cfg st.AfterCr c =
    chosen-closes (c == 10) _ _ (open-closes st.StartRecord act.Skip refl) (start_record-closes cfg c)

-- what a record that was read leaves: no open record, and no more text than there was
abbrev pub Leaves : Read → ℕ → Type 0
Leaves p size = (ends_at_end p.1 ≡ false) × (length p.2 ≤ size)

leaves-same : (x p : Read) (size : ℕ) → Some x ≡ Some p → Leaves x size → Leaves p size
leaves-same x p size e h = let q : x ≡ p = cc in subst (λ (r : Read). Leaves r size) q h

pub next-leaves : (cfg : Config) (s : State) (fields : List (List ℕ)) (field : List ℕ) (xs : List ℕ) (p : Read)
    → next_record cfg s fields field xs ≡ Some p → Leaves p (length xs)
unfolding next_record Closes
next-leaves cfg s fields field [] p h =
    elim (cases_Bool (ends_at_end s)) [
      | inl e ↦ leaves-same _ p 0 (rw e at h) (refl, omega arith)
      | inr e ↦ let none : None ≡ Some p = rw e at h in cc
    ]
next-leaves cfg s fields field (c ∷ rest) p h =
    elim (cases_Bool (is_end (step cfg s c).1)) [
      | inl e ↦ leaves-same (fields_after (step cfg s c).1 fields field, (step cfg s c).0, rest) p (length (c ∷ rest)) (rw e at h)
          (step-closes cfg s c e, omega arith)
      | inr e ↦ let (closed, size) = next-leaves cfg (step cfg s c).0 (fields_after (step cfg s c).1 fields field)
          (field_after (step cfg s c).1 c field) rest p (rw e at h) in (closed, omega arith)
    ]

-- a record takes at least one byte
pub next-shortens : (cfg : Config) (s : State) (c : ℕ) (rest : List ℕ) (p : Read) → next_record cfg s [] [] (c ∷ rest) ≡ Some p
    → length p.2 ≤ length rest
unfolding next_record Closes
next-shortens cfg s c rest p h =
    elim (cases_Bool (is_end (step cfg s c).1)) [
      | inl e ↦ (leaves-same (fields_after (step cfg s c).1 [] [], (step cfg s c).0, rest) p (length rest) (rw e at h)
          (step-closes cfg s c e, omega arith)).1
      | inr e ↦ (next-leaves cfg (step cfg s c).0 (fields_after (step cfg s c).1 [] []) (field_after (step cfg s c).1 c []) rest p
          (rw e at h)).1
    ]

-- where no record is open, the empty text has none
pub next-empty : (cfg : Config) (s : State) → ends_at_end s ≡ false → next_record cfg s [] [] [] ≡ None
unfolding next_record
next-empty cfg s e = rw e refl

-- all the records of a text are what `records_from` gives, with enough turns
records-from_reached : (cfg : Config) (n : ℕ) (s : State) (xs : List ℕ) (rows : List Row) → ends_at_end s ≡ false → length xs < n
    → AreRecords cfg s xs rows → rows ≡ records_from cfg n s xs
unfolding records_from Reached
records-from_reached cfg zero s xs rows closed short are = absurd (omega arith)
records-from_reached cfg (suc n) s xs [] closed short (s2, ys, (same, left), none) =
    let at_end : next_record cfg s [] [] xs ≡ None = rw (same, left) none in rw at_end refl
records-from_reached cfg (suc n) s [] (r ∷ rs) closed short (s2, ys, (p, next, r_is, reached), none) =
    let no : None ≡ Some p = sym (next-empty cfg s closed) ∙ next in cc
records-from_reached cfg (suc n) s (c ∷ rest) (r ∷ rs) closed short (s2, ys, (p, next, r_is, reached), none) =
    let size = next-shortens cfg s c rest p next in
    let leaves = next-leaves cfg s [] [] (c ∷ rest) p next in
    let again = records-from_reached cfg n p.1 p.2 rs leaves.0 (omega (arith, size)) (s2, ys, reached, none) in
    rw next (rw (r_is, again) refl)

-- the rows that were read to the end of a text are its records
pub records-read : (xs : List ℕ) (rows : List Row) → AreRecords default_config st.StartRecord xs rows → rows ≡ records default_config xs
records-read xs rows are = records-from_reached default_config (length xs + 1) st.StartRecord xs rows refl (omega arith) are

-- the records that were read so far are the first of all the records, and there are no more of them than bytes
front-from : (cfg : Config) (n : ℕ) (s s2 : State) (xs ys : List ℕ) (rows : List Row) → ends_at_end s ≡ false → length xs < n
    → Reached cfg s xs rows s2 ys
    → (rest : List Row) × (records_from cfg n s xs ≡ rows ++ rest) × (length rows ≤ length xs)
unfolding records_from Reached
front-from cfg zero s s2 xs ys rows closed short reached = absurd (omega arith)
front-from cfg (suc n) s s2 xs ys [] closed short reached = (records_from cfg (suc n) s xs, refl, omega arith)
front-from cfg (suc n) s s2 [] ys (r ∷ rs) closed short (p, next, r_is, reached) =
    let no : None ≡ Some p = sym (next-empty cfg s closed) ∙ next in cc
front-from cfg (suc n) s s2 (c ∷ xs) ys (r ∷ rs) closed short (p, next, r_is, reached) =
    let size = next-shortens cfg s c xs p next in
    let leaves = next-leaves cfg s [] [] (c ∷ xs) p next in
    let (rest, is, few) = front-from cfg n p.1 s2 p.2 ys rs leaves.0 (omega (arith, size)) reached in
    (rest, rw next (rw (r_is, is) refl), omega (arith, size, few))

pub records-front : (xs ys : List ℕ) (s2 : State) (rows : List Row) → Reached default_config st.StartRecord xs rows s2 ys
    → (rest : List Row) × (records default_config xs ≡ rows ++ rest) × (length rows ≤ length xs)
records-front xs ys s2 rows reached = front-from default_config (length xs + 1) st.StartRecord s2 xs ys rows refl (omega arith) reached

-- no more bytes are left without the byte order mark
pub strip-shortens : (xs : List ℕ) → length (strip_bom xs) ≤ length xs
unfolding strip_bom
strip-shortens [] = omega arith
strip-shortens (a ∷ []) = omega arith
strip-shortens (a ∷ b ∷ []) = omega arith
strip-shortens (a ∷ b ∷ c ∷ rest) = elim (cases_Bool (is_bom a b c)) [ inl e ↦ rw e (omega arith) | inr e ↦ rw e (omega arith) ]
