-- Bytes of which no whole frame waits are fewer than there is room for.
use Rattle.std.proofs.Common.{ℕ, ◌≡◌, ◌∙◌, ◌+◌, ◌-◌, ◌<◌, ◌≤◌, Bool, true, false, ◌==◌, List, [], ◌∷◌, length, take, drop, Option, Some, None, refl, sym, ap}
use Rattle.std.proofs.Common.{arith, inl, inr, length-drop}
use Rattle.std.specs.Prelude.{option_map, ⊤, if◌then◌else◌, ◌&&◌, nat_le, bytes_eq, codes}
use Rattle.std.specs.List.{position, slice_split}
use Rattle.std.proofs.lemmas.Bool.{cases_lt, le-ltb, lt-ltb}
use Rattle.std.proofs.lemmas.Bool.Decides.{nat_tests}
use Rattle.std.proofs.lemmas.List.{length-take-le}
use Rattle.std.proofs.Math.Seq.{drop-drop}
use Rattle.nrm_text.proofs.Places.{found}
use Rattle.nrm_text.specs.Names.{name_in}
use Rattle.nrm_text.specs.Numbers.{is_whole, value_of}
use Rattle.nrm_frames.specs.Cutting.{cut_at, cut_of, headed_by, no_frame, part, payload_of, whole}
use Rattle.nrm_frames.specs.Headers.{header_of, header_of_words, opening_of, piece_of, place_in, rights_in, size_in, size_of}
use Rattle.nrm_frames.specs.declared.header.Header.{Header}
use Rattle.nrm_frames.specs.declared.header.Header.TheVariants as header
use Rattle.nrm_frames.specs.declared.limits.TheConstants.{MOST_HEADER, MOST_PAYLOAD}
use Rattle.nrm_frames.specs.declared.rights.Rights.{Rights}
use Rattle.nrm_desks_cli.specs.declared.incoming.TheConstants.{ROOM}

-- ---- no header says that more bytes come than may
abbrev IsSmall : Option Header → Type 0
IsSmall None = ⊤
IsSmall (Some h) = size_of h ≤ MOST_PAYLOAD

abbrev IsWithin : Option ℕ → Type 0
IsWithin None = ⊤
IsWithin (Some n) = n ≤ MOST_PAYLOAD

small-if : (b : Bool) (x y : Option Header) → IsSmall x → IsSmall y → IsSmall (if b then x else y)
small-if true x y one other = one
small-if false x y one other = other

within-if : (b : Bool) (n : ℕ) → (b ≡ true → n ≤ MOST_PAYLOAD) → IsWithin (if b then Some n else None)
within-if true n small = small refl
within-if false n small = tt

below-of_le : (a b : Bool) (n most : ℕ) → (a && b && nat_le n most) ≡ true → n ≤ most
below-of_le a b n most is = grind (arith, nat_tests)

size-within : (word : List ℕ) → IsWithin (size_in word)
size-within word =
    within-if (is_whole word && nat_le 0 (value_of word) && nat_le (value_of word) MOST_PAYLOAD) (value_of word)
    (below-of_le (is_whole word) (nat_le 0 (value_of word)) (value_of word) MOST_PAYLOAD)

again-small : (size : Option ℕ) → IsWithin size → IsSmall (option_map header.Again size)
again-small None is = tt
again-small (Some n) is = is

gone-small : (place : Option ℕ) → IsSmall (option_map header.Gone place)
gone-small None = tt
gone-small (Some n) = omega arith

piece-small : (place size : Option ℕ) → IsWithin size → IsSmall (piece_of place size)
piece-small None size is = tt
piece-small (Some n) None is = tt
piece-small (Some n) (Some m) is = is

opening-small : (place : Option ℕ) (name : Option (List ℕ)) (rights : Option Rights) → IsSmall (opening_of place name rights)
opening-small None name rights = tt
opening-small (Some n) None rights = tt
opening-small (Some n) (Some name) None = tt
opening-small (Some n) (Some name) (Some r) = omega arith

words-small : (words : List (List ℕ)) → IsSmall (header_of_words words)
words-small [] = tt
words-small (word ∷ []) =
    small-if (bytes_eq word (codes "kept")) (Some header.Kept) (if bytes_eq word (codes "end") then Some header.End else None) (omega arith)
    (small-if (bytes_eq word (codes "end")) (Some header.End) None (omega arith) tt)
words-small (word ∷ next ∷ []) =
    small-if (bytes_eq word (codes "gone")) (option_map header.Gone (place_in next))
    (if bytes_eq word (codes "again") then option_map header.Again (size_in next) else None) (gone-small (place_in next))
    (small-if (bytes_eq word (codes "again")) (option_map header.Again (size_in next)) None (again-small (size_in next) (size-within next)) tt)
words-small (word ∷ place ∷ size ∷ []) =
    small-if (bytes_eq word (codes "came")) (piece_of (place_in place) (size_in size)) None
    (piece-small (place_in place) (size_in size) (size-within size)) tt
words-small (word ∷ place ∷ name ∷ rights ∷ []) =
    small-if (bytes_eq word (codes "open")) (opening_of (place_in place) (name_in name) (rights_in rights)) None
    (opening-small (place_in place) (name_in name) (rights_in rights)) tt
words-small (word ∷ place ∷ name ∷ rights ∷ further ∷ more) = tt

-- ---- what waits, if no whole frame does
abbrev is_end : ℕ → Bool
is_end c = c == 10

payload-short : (h : Header) (rest : List ℕ) → size_of h ≤ MOST_PAYLOAD → payload_of h rest ≡ part → length rest < MOST_PAYLOAD
payload-short h rest small is =
    elim (cases_lt (length rest) (size_of h)) [
      | inl short ↦ omega arith
      | inr long ↦
          let test = le-ltb (length rest) (size_of h) long in
          let no : whole h (take (size_of h) rest) (drop (size_of h) rest) ≡ part = rw test at is in
          cc
    ]

headed-short : (heads : Option Header) (rest : List ℕ) → IsSmall heads → headed_by heads rest ≡ part → length rest < MOST_PAYLOAD
headed-short None rest small is = let no : no_frame ≡ part = is in cc
headed-short (Some h) rest small is = payload-short h rest small is

cut-here : (bytes : List ℕ) (at : Option ℕ) → position is_end bytes ≡ at → cut_of bytes ≡ part → cut_at at bytes ≡ part
cut-here bytes at is cut = sym (ap (λ (place : Option ℕ). cut_at place bytes) is) ∙ cut

pub part-short : (bytes : List ℕ) → cut_of bytes ≡ part → length bytes < ROOM
part-short bytes cut = by (position is_end bytes) refl
  where
    by : (at : Option ℕ) → position is_end bytes ≡ at → length bytes < ROOM
    by None e =
        elim (cases_lt (length bytes) MOST_HEADER) [
          | inl few ↦ omega arith
          | inr many ↦
              let test = le-ltb (length bytes) MOST_HEADER many in
              let here = cut-here bytes None e cut in
              let no : no_frame ≡ part = rw test at here in
              cc
        ]
    by (Some end) e =
        elim (cases_lt end MOST_HEADER) [
          | inl short ↦
              let test = lt-ltb end MOST_HEADER short in
              let here = cut-here bytes (Some end) e cut in
              let heads : headed_by (header_of (take end bytes)) (drop (end + 1) bytes) ≡ part = rw test at here in
              let few = headed-short (header_of (take end bytes)) (drop (end + 1) bytes) (words-small (slice_split (λ c. c == 32) (take end bytes))) heads in
              let size = length-drop (end + 1) bytes in
              omega arith
          | inr long ↦
              let test = le-ltb end MOST_HEADER long in
              let here = cut-here bytes (Some end) e cut in
              let no : no_frame ≡ part = rw test at here in
              cc
        ]

-- ---- a whole frame
pub record IsWhole (bytes : List ℕ) (h : Header) (payload rest : List ℕ) : Type 0 where
  pub size : length payload ≡ size_of h
  pub short : length rest < length bytes
  pub behind : rest ≡ drop (length bytes - length rest) bytes

rest-behind : (bytes rest : List ℕ) (n : ℕ) → n ≤ length bytes → 0 < n → rest ≡ drop n bytes
    → (length rest < length bytes) × (rest ≡ drop (length bytes - length rest) bytes)
rest-behind bytes rest n within some is =
    let size : length rest ≡ length bytes - n = ap length is ∙ length-drop n bytes in
    let back : n ≡ length bytes - length rest = omega arith in
    (omega arith, is ∙ ap (λ (k : ℕ). drop k bytes) back)

payload-whole : (bytes : List ℕ) (end : ℕ) (other h : Header) (payload rest : List ℕ) → end < length bytes
    → payload_of other (drop (end + 1) bytes) ≡ whole h payload rest → IsWhole bytes h payload rest
payload-whole bytes end other h payload rest within is =
    let behind : List ℕ = drop (end + 1) bytes in
    let size : ℕ = size_of other in
    let left = length-drop (end + 1) bytes in
    elim (cases_lt (length behind) size) [
      | inl short ↦
          let test = lt-ltb (length behind) size short in
          let no : part ≡ whole h payload rest = rw test at is in
          cc
      | inr long ↦
          let test = le-ltb (length behind) size long in
          let same : whole other (take size behind) (drop size behind) ≡ whole h payload rest = rw test at is in
          let header_is : other ≡ h = cc in
          let payload_is : take size behind ≡ payload = cc in
          let rest_is : drop size behind ≡ rest = cc in
          let (short, back) = rest-behind bytes rest (end + 1 + size) (omega arith) (omega arith) (sym rest_is ∙ drop-drop size (end + 1) bytes) in
          record {
            size = sym (ap length payload_is) ∙ length-take-le size behind long ∙ ap size_of header_is;
            short = short;
            behind = back;
          }
    ]

headed-whole : (bytes : List ℕ) (end : ℕ) (heads : Option Header) (h : Header) (payload rest : List ℕ) → end < length bytes
    → headed_by heads (drop (end + 1) bytes) ≡ whole h payload rest → IsWhole bytes h payload rest
headed-whole bytes end None h payload rest within is = let no : no_frame ≡ whole h payload rest = is in cc
headed-whole bytes end (Some other) h payload rest within is = payload-whole bytes end other h payload rest within is

pub whole-is : (bytes : List ℕ) (h : Header) (payload rest : List ℕ) → cut_of bytes ≡ whole h payload rest → IsWhole bytes h payload rest
whole-is bytes h payload rest cut = by (position is_end bytes) refl
  where
    by : (at : Option ℕ) → position is_end bytes ≡ at → IsWhole bytes h payload rest
    by None e =
        let here : cut_at None bytes ≡ whole h payload rest = sym (ap (λ (place : Option ℕ). cut_at place bytes) e) ∙ cut in
        elim (cases_lt (length bytes) MOST_HEADER) [
          | inl few ↦
              let test = lt-ltb (length bytes) MOST_HEADER few in
              let no : part ≡ whole h payload rest = rw test at here in
              cc
          | inr many ↦
              let test = le-ltb (length bytes) MOST_HEADER many in
              let no : no_frame ≡ whole h payload rest = rw test at here in
              cc
        ]
    by (Some end) e =
        let here : cut_at (Some end) bytes ≡ whole h payload rest = sym (ap (λ (place : Option ℕ). cut_at place bytes) e) ∙ cut in
        elim (cases_lt end MOST_HEADER) [
          | inl short ↦
              let test = lt-ltb end MOST_HEADER short in
              let heads : headed_by (header_of (take end bytes)) (drop (end + 1) bytes) ≡ whole h payload rest = rw test at here in
              let (first, within) = found is_end bytes end e in
              headed-whole bytes end (header_of (take end bytes)) h payload rest within heads
          | inr long ↦
              let test = le-ltb end MOST_HEADER long in
              let no : no_frame ≡ whole h payload rest = rw test at here in
              cc
        ]
