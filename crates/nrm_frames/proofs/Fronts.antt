-- The frames of a front of some bytes are the first frames of the whole, and bytes that begin no frame begin none whatever follows.
use Rattle.std.proofs.Common.{ℕ, ◌≡◌, ◌∙◌, ◌+◌, ◌<◌, ◌≤◌, Bool, true, false, ◌==◌, List, [], ◌∷◌, ◌++◌, length, get_or, take, drop}
use Rattle.std.proofs.Common.{Option, Some, None, sym, ap, subst, refl, arith, inl, inr, length-append}
use Rattle.std.specs.List.{position}
use Rattle.std.proofs.lemmas.Bool.{cases_lt, le-ltb, lt-ltb}
use Rattle.std.proofs.lemmas.List.{drop-append-le, get_or_append_left, take-append-le}
use Rattle.std.proofs.lemmas.List.Sums.{fails_before_first, passes_at_first}
use Rattle.nrm_text.proofs.Places.{found, missing, placed}
use Rattle.nrm_frames.specs.Cutting.{cut_at, cut_of, headed_by, no_frame, part, payload_of, whole}
use Rattle.nrm_frames.specs.Frames.{AreFrames, Frame, FramesDontDependOnPieces}
use Rattle.nrm_frames.specs.Headers.{header_of, size_of}
use Rattle.nrm_frames.specs.declared.header.Header.{Header}
use Rattle.nrm_frames.specs.declared.limits.TheConstants.{MOST_HEADER}

-- the first byte of a front that passes a test is the first of the whole
module _ (p : ℕ → Bool) (xs ys : List ℕ) where
  passes-front : (i : ℕ) → position p xs ≡ Some i → position p (xs ++ ys) ≡ Some i
  passes-front i is =
      let (first, within) = found p xs i is in
      let passes : p (get_or xs i 0) ≡ true =
      subst (λ (n : ℕ). p (get_or xs n 0) ≡ true) first (passes_at_first p xs 0 (omega arith)) in
      placed p (xs ++ ys) i (omega (arith, length-append xs ys))
      (λ k early. rw (get_or_append_left xs ys 0 k (omega arith)) (fails_before_first p xs k 0 (omega arith)))
      (rw (get_or_append_left xs ys 0 i within) passes)

  -- and where the front has none, the first is behind it
  passes-behind : (i : ℕ) → position p xs ≡ None → position p (xs ++ ys) ≡ Some i → length xs ≤ i
  passes-behind i none is =
      let (first, within) = found p (xs ++ ys) i is in
      let past = missing p xs none in
      elim (cases_lt i (length xs)) [
        | inl short ↦
            let passes : p (get_or (xs ++ ys) i 0) ≡ true =
            subst (λ (n : ℕ). p (get_or (xs ++ ys) n 0) ≡ true) first (passes_at_first p (xs ++ ys) 0 (omega arith)) in
            let fails = fails_before_first p xs i 0 (omega arith) in
            let there : p (get_or xs i 0) ≡ true = rw (get_or_append_left xs ys 0 i short) at passes in
            let no : true ≡ false = sym there ∙ fails in
            cc
        | inr late ↦ late
      ]

module _ (header : Header) (payload behind more : List ℕ) where
  payload-front : (other : Header) (rest : List ℕ) → payload_of other rest ≡ whole header payload behind
      → payload_of other (rest ++ more) ≡ whole header payload (behind ++ more)
  payload-front other rest is =
      elim (cases_lt (length rest) (size_of other)) [
        | inl short ↦
            let test = lt-ltb (length rest) (size_of other) short in
            let no : part ≡ whole header payload behind = rw test at is in
            cc
        | inr long ↦
            let size : ℕ = size_of other in
            let test = le-ltb (length rest) size long in
            let same : whole other (take size rest) (drop size rest) ≡ whole header payload behind = rw test at is in
            let test-more = le-ltb (length (rest ++ more)) size (omega (arith, length-append rest more)) in
            rw (test-more, take-append-le size rest more long, drop-append-le size rest more long) (cc)
      ]

  headed-front : (heads : Option Header) (rest : List ℕ) → headed_by heads rest ≡ whole header payload behind
      → headed_by heads (rest ++ more) ≡ whole header payload (behind ++ more)
  headed-front None rest is = cc
  headed-front (Some other) rest is = payload-front other rest is

headed-none : (heads : Option Header) (rest more : List ℕ) → headed_by heads rest ≡ no_frame → headed_by heads (rest ++ more) ≡ no_frame
headed-none None rest more is = refl
headed-none (Some header) rest more is =
    elim (cases_lt (length rest) (size_of header)) [
      | inl short ↦
          let test = lt-ltb (length rest) (size_of header) short in
          let no : part ≡ no_frame = rw test at is in
          cc
      | inr long ↦
          let test = le-ltb (length rest) (size_of header) long in
          let no : whole header (take (size_of header) rest) (drop (size_of header) rest) ≡ no_frame = rw test at is in
          cc
    ]

-- a line that is heads the same in a front and in the whole
line-front : (end : ℕ) (bytes more : List ℕ) → end < length bytes → end < MOST_HEADER
    → cut_at (Some end) (bytes ++ more) ≡ headed_by (header_of (take end bytes)) (drop (end + 1) bytes ++ more)
line-front end bytes more within short =
    let test = lt-ltb end MOST_HEADER short in
    rw (test, take-append-le end bytes more (omega arith), drop-append-le (end + 1) bytes more (omega arith)) refl

line-here : (end : ℕ) (bytes : List ℕ) → end < MOST_HEADER
    → cut_at (Some end) bytes ≡ headed_by (header_of (take end bytes)) (drop (end + 1) bytes)
line-here end bytes short = let test = lt-ltb end MOST_HEADER short in rw test refl

line-long : (end : ℕ) (bytes : List ℕ) → MOST_HEADER ≤ end → cut_at (Some end) bytes ≡ no_frame
line-long end bytes long = let test = le-ltb end MOST_HEADER long in rw test refl

-- bytes without the end of a line
unended-few : (bytes : List ℕ) → length bytes < MOST_HEADER → cut_at None bytes ≡ part
unended-few bytes few = let test = lt-ltb (length bytes) MOST_HEADER few in rw test refl

unended-many : (bytes : List ℕ) → MOST_HEADER ≤ length bytes → cut_at None bytes ≡ no_frame
unended-many bytes many = let test = le-ltb (length bytes) MOST_HEADER many in rw test refl

abbrev is_end : ℕ → Bool
is_end c = c == 10

cut-at : (bytes : List ℕ) (at : Option ℕ) → position is_end bytes ≡ at → cut_of bytes ≡ cut_at at bytes
cut-at bytes at is = ap (λ (place : Option ℕ). cut_at place bytes) is

module _ (bytes more : List ℕ) where
  whole-front : (header : Header) (payload behind : List ℕ) → cut_of bytes ≡ whole header payload behind
      → cut_of (bytes ++ more) ≡ whole header payload (behind ++ more)
  whole-front header payload behind is = by (position is_end bytes) refl
    where
      by : (at : Option ℕ) → position is_end bytes ≡ at → cut_of (bytes ++ more) ≡ whole header payload (behind ++ more)
      by None e =
          elim (cases_lt (length bytes) MOST_HEADER) [
            | inl few ↦ let no : part ≡ whole header payload behind = sym (cut-at bytes None e ∙ unended-few bytes few) ∙ is in cc
            | inr many ↦ let no : no_frame ≡ whole header payload behind = sym (cut-at bytes None e ∙ unended-many bytes many) ∙ is in cc
          ]
      by (Some end) e =
          elim (cases_lt end MOST_HEADER) [
            | inl short ↦
                let heads : Option Header = header_of (take end bytes) in
                let here = sym (cut-at bytes (Some end) e ∙ line-here end bytes short) ∙ is in
                let (first, within) = found is_end bytes end e in
                cut-at (bytes ++ more) (Some end) (passes-front is_end bytes more end e)
                ∙ line-front end bytes more within short
                ∙ headed-front header payload behind more heads (drop (end + 1) bytes) here
            | inr long ↦
                let no : no_frame ≡ whole header payload behind = sym (cut-at bytes (Some end) e ∙ line-long end bytes long) ∙ is in
                cc
          ]

  none-front : cut_of bytes ≡ no_frame → cut_of (bytes ++ more) ≡ no_frame
  none-front is = by (position is_end bytes) refl
    where
      behind : (at : Option ℕ) → MOST_HEADER ≤ length bytes → position is_end bytes ≡ None → position is_end (bytes ++ more) ≡ at
          → cut_of (bytes ++ more) ≡ no_frame
      behind None many e f =
          cut-at (bytes ++ more) None f ∙ unended-many (bytes ++ more) (omega (arith, length-append bytes more))
      behind (Some end) many e f =
          let late = passes-behind is_end bytes more end e f in
          cut-at (bytes ++ more) (Some end) f ∙ line-long end (bytes ++ more) (omega arith)

      by : (at : Option ℕ) → position is_end bytes ≡ at → cut_of (bytes ++ more) ≡ no_frame
      by None e =
          elim (cases_lt (length bytes) MOST_HEADER) [
            | inl few ↦ let no : part ≡ no_frame = sym (cut-at bytes None e ∙ unended-few bytes few) ∙ is in cc
            | inr many ↦ behind (position is_end (bytes ++ more)) many e refl
          ]
      by (Some end) e =
          elim (cases_lt end MOST_HEADER) [
            | inl short ↦
                let heads : Option Header = header_of (take end bytes) in
                let here = sym (cut-at bytes (Some end) e ∙ line-here end bytes short) ∙ is in
                let (first, within) = found is_end bytes end e in
                cut-at (bytes ++ more) (Some end) (passes-front is_end bytes more end e)
                ∙ line-front end bytes more within short
                ∙ headed-none heads (drop (end + 1) bytes) more here
            | inr long ↦
                cut-at (bytes ++ more) (Some end) (passes-front is_end bytes more end e) ∙ line-long end (bytes ++ more) long
          ]

frames-front : (frames : List Frame) (bytes more rest : List ℕ) → AreFrames bytes frames rest
    → AreFrames (bytes ++ more) frames (rest ++ more)
frames-front [] bytes more rest are = ap (λ (left : List ℕ). left ++ more) are
frames-front (frame ∷ frames) bytes more rest (behind, cut, others) = (
  behind ++ more,
  whole-front bytes more frame.header frame.payload behind cut,
  frames-front frames behind more rest others,
)

pub pieces : FramesDontDependOnPieces
pieces bytes more = record {
  frames = λ frames rest are. frames-front frames bytes more rest are;
  none = none-front bytes more;
}
