-- The first line of some bytes, and what is cut off with it.
use Rattle.std.proofs.Common.{ℕ, ◌≡◌, ◌∙◌, ◌+◌, ◌-◌, ◌<◌, ◌≤◌, Bool, ◌==◌, List, [], ◌∷◌, length, take, drop, Option, Some, None}
use Rattle.std.proofs.Common.{false, nat_lt, true, sym, ap, refl, arith}
use Rattle.std.specs.List.{join_with_byte, position, slice_split}
use Rattle.std.proofs.lemmas.Bool.{le-ltb, lt-ltb}
use Rattle.std.proofs.lemmas.List.{length-take, take_rest}
use Rattle.std.proofs.lemmas.List.Splits.{join_with_byte-slice_split}
use Rattle.nrm_text.proofs.Places.{found}
use Rattle.nrm_stream.proofs.Cuts.{some-parts, split-found, split-missing}
use Rattle.nrm_frames.specs.Cutting.{cut_at, cut_of, headed_by, no_frame, part, payload_of, whole}
use Rattle.nrm_frames.specs.Headers.{header_of, size_of}
use Rattle.nrm_frames.specs.declared.header.Header.{Header}
use Rattle.nrm_frames.specs.declared.limits.TheConstants.{MOST_HEADER}

abbrev is_end : ℕ → Bool
is_end c = c == 10

abbrev parts : List ℕ → List (List ℕ)
parts bytes = slice_split is_end bytes

-- bytes that are one part have no end of a line
no-end : (bytes : List ℕ) → parts bytes ≡ bytes ∷ [] → position is_end bytes ≡ None
no-end bytes cut = by (position is_end bytes) refl
  where
    by : (at : Option ℕ) → position is_end bytes ≡ at → position is_end bytes ≡ None
    by None e = e
    by (Some i) e =
        let more : List ℕ = take (length bytes - (i + 1)) (drop (i + 1) bytes) in
        let same : take i bytes ∷ parts more ≡ bytes ∷ [] = sym (split-found is_end bytes i e).0 ∙ cut in
        let none : parts more ≡ [] = cc in
        absurd (omega (arith, some-parts is_end more, ap length none))

same-parts : (xs ys : List ℕ) → parts xs ≡ parts ys → xs ≡ ys
same-parts xs ys same =
    sym (join_with_byte-slice_split 10 xs) ∙ ap (λ (ps : List (List ℕ)). join_with_byte 10 ps) same ∙ join_with_byte-slice_split 10 ys

module _ (bytes line behind : List ℕ) (cut : parts bytes ≡ line ∷ parts behind) where
  abbrev Ends : Option ℕ → Type 0
  Ends at = (end : ℕ) × (at ≡ Some end) × (length line ≡ end) × (take end bytes ≡ line) × (drop (end + 1) bytes ≡ behind)

  -- the first line ends where the parts say
  line-end : Ends (position is_end bytes)
  line-end = by (position is_end bytes) refl
    where
      by : (at : Option ℕ) → position is_end bytes ≡ at → Ends (position is_end bytes)
      by None e =
          let same : bytes ∷ [] ≡ line ∷ parts behind = sym (split-missing is_end bytes e) ∙ cut in
          let none : [] ≡ parts behind = cc in
          absurd (omega (arith, some-parts is_end behind, ap length none))
      by (Some i) e =
          let more : List ℕ = take (length bytes - (i + 1)) (drop (i + 1) bytes) in
          let same : take i bytes ∷ parts more ≡ line ∷ parts behind = sym (split-found is_end bytes i e).0 ∙ cut in
          let first : take i bytes ≡ line = cc in
          let others : parts more ≡ parts behind = cc in
          let (place, within) = found is_end bytes i e in (
            i,
            e,
            omega (arith, ap length first, length-take i bytes),
            first,
            sym (take_rest bytes (i + 1)) ∙ same-parts more behind others,
          )

  pub long-line : nat_lt (length line) MOST_HEADER ≡ false → cut_of bytes ≡ no_frame
  long-line long =
      let (end, at, many, first, rest) = line-end in
      let test : nat_lt end MOST_HEADER ≡ false = rw many at long in
      ap (λ (place : Option ℕ). cut_at place bytes) at ∙ rw test refl

  module _ (short : nat_lt (length line) MOST_HEADER ≡ true) where
    headed : cut_of bytes ≡ headed_by (header_of line) behind
    headed =
        let (end, at, many, first, rest) = line-end in
        let test : nat_lt end MOST_HEADER ≡ true = rw many at short in
        ap (λ (place : Option ℕ). cut_at place bytes) at ∙ rw (test, first, rest) refl

    pub no-header : header_of line ≡ None → cut_of bytes ≡ no_frame
    no-header none = headed ∙ ap (λ (heads : Option Header). headed_by heads behind) none

    module _ (header : Header) (heads : header_of line ≡ Some header) where
      with-header : cut_of bytes ≡ payload_of header behind
      with-header = headed ∙ ap (λ (o : Option Header). headed_by o behind) heads

      pub few-behind : length behind < size_of header → cut_of bytes ≡ part
      few-behind few = let test = lt-ltb (length behind) (size_of header) few in with-header ∙ rw test refl

      pub all-behind : size_of header ≤ length behind
          → cut_of bytes ≡ whole header (take (size_of header) behind) (take (length behind - size_of header) (drop (size_of header) behind))
      all-behind many =
          let test = le-ltb (length behind) (size_of header) many in
          with-header ∙ rw (test, take_rest behind (size_of header)) refl

module _ (bytes : List ℕ) (cut : parts bytes ≡ bytes ∷ []) where
  pub no-line-few : nat_lt (length bytes) MOST_HEADER ≡ true → cut_of bytes ≡ part
  no-line-few few = ap (λ (place : Option ℕ). cut_at place bytes) (no-end bytes cut) ∙ rw few refl

  pub no-line-many : nat_lt (length bytes) MOST_HEADER ≡ false → cut_of bytes ≡ no_frame
  no-line-many many = ap (λ (place : Option ℕ). cut_at place bytes) (no-end bytes cut) ∙ rw many refl
