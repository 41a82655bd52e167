-- What a call of `feed` and one of `finish` add to the commands so far: the steps of a loop that takes a stream piece by piece.
use Rattle.std.proofs.Common.{ℕ, ◌≡◌, ◌∙◌, ◌+◌, ◌<◌, ◌≤◌, List, [], ◌∷◌, ◌++◌, length, get_or, take, map, sym, ap, subst, arith, inl, inr}
use Rattle.std.proofs.Common.{false, refl, Option, Some, None, append_assoc}
use Rattle.std.specs.Prelude.{position, MatchOption}
use Rattle.std.specs.List.{position_or_len}
use Rattle.std.specs.Option.{option_to_list}
use Rattle.std.proofs.lemmas.Bool.{cases_lt, lt-ltb, le-ltb}
use Rattle.std.proofs.lemmas.List.{append-nil, map-append, take_more}
use Rattle.std.proofs.lemmas.List.Elements.{All-append}
use Rattle.std.proofs.lemmas.List.Splits.{slice_split_at}
use Rattle.std.proofs.lemmas.List.Sums.{passes_at_first}
use Rattle.nrm_stream.specs.Lines.{parts_of, all_but_last, last_part, whole_lines, unfinished_line, as_line}
use Rattle.nrm_stream.specs.Commands.{command_of, commands_of, whole_commands}
use Rattle.nrm_stream.specs.Splitting.{Feeds, finished, kept_of}
use Rattle.nrm_stream.specs.Cuts.{CallFeeds, CallFinishes}
use Rattle.nrm_stream.specs.declared.command.Command.{Command}
use Rattle.nrm_stream.proofs.Cuts.{fails-front}
use Rattle.nrm_stream.proofs.JoinedLines.{is_end, Unbroken, unfinished-unbroken, parts-unended, joined}

-- the place of the first end of a line, or the length
abbrev pub end_at : List ℕ → ℕ
end_at piece = position_or_len is_end piece

pub ends : (piece : List ℕ) → end_at piece < length piece → position is_end piece ≡ Some (end_at piece)
ends piece some = let e = lt-ltb (end_at piece) (length piece) some in rw e refl

pub ends-not : (piece : List ℕ) → length piece ≤ end_at piece → position is_end piece ≡ None
ends-not piece none = let e = le-ltb (end_at piece) (length piece) none in rw e refl

-- what a call says where the piece has an end of a line, and where it has none
abbrev pub SaysUnended : List ℕ → List ℕ → ℕ × Option Command → Option (List ℕ) → Type 0
SaysUnended line piece result after = (result ≡ (length piece, None)) × (after ≡ kept_of (line ++ piece))

abbrev pub SaysEnded : List ℕ → List ℕ → ℕ × Option Command → Option (List ℕ) → ℕ → Type 0
SaysEnded line piece result after end = (result ≡ (end + 1, Some (command_of (line ++ take end piece)))) × (after ≡ kept_of [])

pub feeds-ended : (line piece : List ℕ) (result : ℕ × Option Command) (after : Option (List ℕ)) → end_at piece < length piece
    → Feeds line piece result after → SaysEnded line piece result after (end_at piece)
feeds-ended line piece result after some feeds =
    subst (λ (o : Option ℕ). MatchOption o (SaysUnended line piece result after) (SaysEnded line piece result after)) (ends piece some)
    feeds

pub feeds-unended : (line piece : List ℕ) (result : ℕ × Option Command) (after : Option (List ℕ)) → length piece ≤ end_at piece
    → Feeds line piece result after → SaysUnended line piece result after
feeds-unended line piece result after none feeds =
    subst (λ (o : Option ℕ). MatchOption o (SaysUnended line piece result after) (SaysEnded line piece result after)) (ends-not piece none)
    feeds

-- a line and a piece up to and with its first end of a line: that line, and nothing after it
one-line : (line piece : List ℕ) → Unbroken line → end_at piece < length piece → parts_of (line ++ take (end_at piece + 1) piece)
    ≡ (line ++ take (end_at piece) piece) ∷ [] ∷ []
one-line line piece unbroken some =
    let at : ℕ = end_at piece in
    let front = fails-front is_end piece in
    let whole : line ++ take (at + 1) piece ≡ (line ++ take at piece) ++ get_or piece at 0 ∷ [] =
    ap (λ (p : List ℕ). line ++ p) (take_more piece at 0 some) ∙ sym (append_assoc line (take at piece) (get_or piece at 0 ∷ [])) in
    ap (λ (b : List ℕ). parts_of b) whole
    ∙ slice_split_at is_end (line ++ take at piece) (get_or piece at 0) []
    (All-append (λ c. is_end c ≡ false) line (take at piece) unbroken front) (passes_at_first is_end piece 0 some)

-- a call that gives a command: it used the piece up to and with the first end of a line, and that is one whole line more
pub call-some : (taken piece : List ℕ) (before after : Option (List ℕ)) (used : ℕ) (command : Command) → before
    ≡ kept_of (unfinished_line taken) → CallFeeds before piece (used, Some command) after
    → (0 < used) × (used ≤ length piece) × (whole_commands (taken ++ take used piece) ≡ whole_commands taken ++ command ∷ [])
    × (after ≡ kept_of (unfinished_line (taken ++ take used piece)))
call-some taken piece before after used command stands call =
    let line : List ℕ = unfinished_line taken in
    elim (cases_lt (end_at piece) (length piece)) [
      | inl some ↦
          let at : ℕ = end_at piece in
          let (result, kept) = feeds-ended line piece (used, Some command) after some (call line stands) in
          let place : used ≡ at + 1 = ap (λ (r : ℕ × Option Command). r.0) result in
          let both : Some command ≡ Some (command_of (line ++ take at piece)) = ap (λ (r : ℕ × Option Command). r.1) result in
          let same : command ≡ command_of (line ++ take at piece) = cc in
          let parts = one-line line piece (unfinished-unbroken taken) some in
          let (whole, last, lines) = joined taken (take (at + 1) piece) in
          let whole_is : whole_lines (taken ++ take (at + 1) piece) ≡ whole_lines taken ++ (line ++ take at piece) ∷ [] =
          whole ∙ ap (λ (p : List (List ℕ)). whole_lines taken ++ all_but_last p) parts in
          let last_is : unfinished_line (taken ++ take (at + 1) piece) ≡ [] = last ∙ ap (λ (p : List (List ℕ)). last_part p) parts in
          let commands_are : map command_of (whole_lines (taken ++ take (at + 1) piece)) ≡ map command_of (whole_lines taken) ++ command
          ∷ [] =
          ap (λ (w : List (List ℕ)). map command_of w) whole_is ∙ map-append command_of (whole_lines taken) ((line ++ take at piece) ∷ [])
          ∙ ap (λ (c : Command). map command_of (whole_lines taken) ++ c ∷ []) (sym same) in (
            omega arith,
            omega arith,
            subst (λ (n : ℕ). map command_of (whole_lines (taken ++ take n piece)) ≡ map command_of (whole_lines taken) ++ command ∷ [])
                (sym place) commands_are,
            subst (λ (n : ℕ). after ≡ kept_of (unfinished_line (taken ++ take n piece))) (sym place)
                (kept ∙ ap (λ (l : List ℕ). kept_of l) (sym last_is)),
          )
      | inr none ↦ let (result, kept) = feeds-unended line piece (used, Some command) after none (call line stands) in let no : Some
          command ≡ None = ap (λ (r : ℕ × Option Command). r.1) result in cc
    ]

-- a call that gives none used the whole piece, and no line was ended
pub call-none : (taken piece : List ℕ) (before after : Option (List ℕ)) (used : ℕ) → before ≡ kept_of (unfinished_line taken)
    → CallFeeds before piece (used, None) after
    → (used ≡ length piece) × (whole_commands (taken ++ piece) ≡ whole_commands taken)
    × (after ≡ kept_of (unfinished_line (taken ++ piece)))
call-none taken piece before after used stands call =
    let line : List ℕ = unfinished_line taken in
    elim (cases_lt (end_at piece) (length piece)) [
      | inl some ↦ let (result, kept) = feeds-ended line piece (used, None) after some (call line stands) in let no : None
          ≡ Some (command_of (line ++ take (end_at piece) piece)) = ap (λ (r : ℕ × Option Command). r.1) result in cc
      | inr none ↦
          let (result, kept) = feeds-unended line piece (used, None) after none (call line stands) in
          let parts = parts-unended line piece (unfinished-unbroken taken) none in
          let (whole, last, lines) = joined taken piece in (
            ap (λ (r : ℕ × Option Command). r.0) result,
            ap (λ (w : List (List ℕ)). map command_of w) (whole ∙ ap (λ (p : List (List ℕ)). whole_lines taken ++ all_but_last p) parts
                ∙ append-nil (whole_lines taken)),
            kept ∙ ap (λ (l : List ℕ). kept_of l) (sym (last ∙ ap (λ (p : List (List ℕ)). last_part p) parts)),
          )
    ]

-- the command of the unfinished line, where it counts
last-line : (line : List ℕ) → map command_of (as_line line) ≡ option_to_list (finished line)
last-line [] = refl
last-line (c ∷ more) = refl

-- the end of the stream: with what `finish` gives, the commands are those of all bytes
pub call-finish : (taken : List ℕ) (before : Option (List ℕ)) (last : Option Command) → before ≡ kept_of (unfinished_line taken)
    → CallFinishes before last → commands_of taken ≡ whole_commands taken ++ option_to_list last
call-finish taken before last stands call =
    let last_is : last ≡ finished (unfinished_line taken) = call (unfinished_line taken) stands in
    map-append command_of (whole_lines taken) (as_line (unfinished_line taken))
    ∙ ap (λ (l : List Command). whole_commands taken ++ l) (last-line (unfinished_line taken))
    ∙ ap (λ (o : Option Command). whole_commands taken ++ option_to_list o) (sym last_is)
