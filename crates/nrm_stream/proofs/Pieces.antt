-- However a stream is cut into pieces, feeding them gives the same commands.
use Rattle.std.proofs.Common.{ℕ, zero, suc, ◌≡◌, ◌∙◌, ◌+◌, ◌<◌, ◌≤◌, List, [], ◌∷◌, ◌++◌, length, take, drop, map, refl, sym, ap, subst}
use Rattle.std.proofs.Common.{arith, inl, inr, Option, Some, None, append_assoc, false, length-drop}
use Rattle.std.specs.Prelude.{MatchOption}
use Rattle.std.specs.List.{concat}
use Rattle.std.specs.Option.{option_to_list}
use Rattle.std.proofs.lemmas.Bool.{cases_lt}
use Rattle.std.proofs.lemmas.List.{append-nil, map-append}
use Rattle.std.proofs.lemmas.List.Elements.{All-nil}
use Rattle.nrm_stream.specs.Lines.{all_but_last, last_part, whole_lines, unfinished_line}
use Rattle.nrm_stream.specs.Commands.{command_of, whole_commands}
use Rattle.nrm_stream.specs.Splitting.{kept_of}
use Rattle.nrm_stream.specs.Cuts.{CallFeeds, FedPiece, FedPieces, PiecesGiveWholeLines, PiecesGiveCommands, PiecesCanBeFed}
use Rattle.nrm_stream.specs.declared.command.Command.{Command}
use Rattle.nrm_stream.proofs.Calls.{end_at, ends, ends-not, SaysUnended, SaysEnded, feeds-ended, feeds-unended, call-finish}
use Rattle.nrm_stream.proofs.LongLines.{command_of-kept, kept_of-kept}
use Rattle.nrm_stream.proofs.Cuts.{ended-lines}
use Rattle.nrm_stream.proofs.JoinedLines.{is_end, Unbroken, unfinished-unbroken, parts-unended, parts-ended, joined}

-- what a piece makes of an unfinished line
abbrev Gives : List ℕ → List ℕ → List Command → Option (List ℕ) → Type 0
Gives line bytes commands after = (commands ≡ whole_commands (line ++ bytes)) × (after ≡ kept_of (unfinished_line (line ++ bytes)))

-- where it ends no line
gives-unended : (line piece : List ℕ) (after : Option (List ℕ)) → Unbroken line → length piece ≤ end_at piece → after
    ≡ kept_of (line ++ piece) → Gives line piece [] after
gives-unended line piece after unbroken none is =
    let parts = parts-unended line piece unbroken none in (
      sym (ap (λ (p : List (List ℕ)). map command_of (all_but_last p)) parts),
      is
          ∙ sym (ap (λ (p : List (List ℕ)). kept_of (last_part p)) parts),
    )

-- where it ends one, and the rest gives more
gives-ended : (line piece : List ℕ) (more : List Command) (after : Option (List ℕ)) → Unbroken line → end_at piece < length piece
    → Gives [] (drop (end_at piece + 1) piece) more after
    → Gives line piece (command_of (line ++ take (end_at piece) piece) ∷ more) after
gives-ended line piece more after unbroken some (commands_are, after_is) =
    let first : List ℕ = line ++ take (end_at piece) piece in
    let (whole, last) = ended-lines (line ++ piece) first (drop (end_at piece + 1) piece) (parts-ended line piece unbroken some) in (
      ap (λ (c : List Command). command_of first ∷ c) commands_are ∙ sym (ap (λ (w : List (List ℕ)). map command_of w) whole),
      after_is
          ∙ sym (ap (λ (l : List ℕ). kept_of l) last),
    )

fed-gives : (commands : List Command) (before : Option (List ℕ)) (piece : List ℕ) (after : Option (List ℕ)) (line : List ℕ) → before
    ≡ kept_of line → Unbroken line → FedPiece before piece commands after → Gives line piece commands after
fed-gives [] before piece after line stands unbroken (inl (empty, same)) =
    subst (λ (p : List ℕ). Gives line p [] after) (sym empty) (gives-unended line [] after unbroken (omega arith)
    (same ∙ stands ∙ ap (λ (l : List ℕ). kept_of l) (sym (append-nil line))))
fed-gives [] before piece after line stands unbroken (inr call) =
    elim (cases_lt (end_at piece) (length piece)) [
      | inl some ↦ let (result, kept) = feeds-ended line piece (length piece, None) after some (call line stands) in let no : None
          ≡ Some (command_of (line ++ take (end_at piece) piece)) = ap (λ (r : ℕ × Option Command). r.1) result in cc
      | inr none ↦ gives-unended line piece after unbroken none (feeds-unended line piece (length piece, None) after none
          (call line stands)).1
    ]
fed-gives (command ∷ more) before piece after line stands unbroken (used, middle, call, rest) =
    elim (cases_lt (end_at piece) (length piece)) [
      | inl some ↦
          let (result, kept) = feeds-ended line piece (used, Some command) middle some (call line stands) in
          let place : used ≡ end_at piece + 1 = ap (λ (r : ℕ × Option Command). r.0) result in
          let both : Some command ≡ Some (command_of (line ++ take (end_at piece) piece)) = ap (λ (r : ℕ × Option Command). r.1) result in
          let same : command ≡ command_of (line ++ take (end_at piece) piece) = cc in
          let later = fed-gives more middle (drop used piece) after [] kept (All-nil (λ c. is_end c ≡ false)) rest in
          subst (λ (c : Command). Gives line piece (c ∷ more) after) (sym same)
          (gives-ended line piece more after unbroken some (subst (λ (n : ℕ). Gives [] (drop n piece) more after) place later))
      | inr none ↦ let (result, kept) = feeds-unended line piece (used, Some command) middle none (call line stands) in let no : Some
          command ≡ None = ap (λ (r : ℕ × Option Command). r.1) result in cc
    ]

-- a piece after others
pieces-give : (pieces : List (List ℕ)) (before : Option (List ℕ)) (commands : List Command) (after : Option (List ℕ)) (line : List ℕ)
    → before ≡ kept_of line → Unbroken line
    → FedPieces before pieces commands after → Gives line (concat pieces) commands after
pieces-give [] before commands after line stands unbroken (none, same) =
    let (commands_are, after_is) = gives-unended line [] after unbroken (omega arith)
    (same ∙ stands ∙ ap (λ (l : List ℕ). kept_of l) (sym (append-nil line))) in
    (none ∙ commands_are, after_is)
pieces-give (piece ∷ pieces) before commands after line stands unbroken (first, rest, middle, split, one, others) =
    let (first_is, middle_is) = fed-gives first before piece middle line stands unbroken one in
    let (rest_is, after_is) = pieces-give pieces middle rest after (unfinished_line (line ++ piece)) middle_is
    (unfinished-unbroken (line ++ piece)) others in
    let (whole, last, lines) = joined (line ++ piece) (concat pieces) in
    let commands_are : first ++ rest ≡ map command_of (whole_lines ((line ++ piece) ++ concat pieces)) =
    ap (λ (c : List Command). c ++ rest) first_is ∙ ap (λ (c : List Command). map command_of (whole_lines (line ++ piece)) ++ c) rest_is
    ∙ sym (map-append command_of (whole_lines (line ++ piece)) (whole_lines (unfinished_line (line ++ piece) ++ concat pieces)))
    ∙ sym (ap (λ (w : List (List ℕ)). map command_of w) whole) in
    let bytes = append_assoc line piece (concat pieces) in (
      split ∙ commands_are ∙ ap (λ (b : List ℕ). map command_of (whole_lines b)) bytes,
      after_is ∙ sym (ap (λ (l : List ℕ). kept_of l) last) ∙ ap (λ (b : List ℕ). kept_of (unfinished_line b)) bytes,
    )

pub whole-lines : PiecesGiveWholeLines
whole-lines pieces commands after fed = pieces-give pieces (kept_of []) commands after [] refl (All-nil (λ c. is_end c ≡ false)) fed

pub all-commands : PiecesGiveCommands
all-commands pieces commands after last fed finishes =
    let (commands_are, after_is) = whole-lines pieces commands after fed in
    ap (λ (c : List Command). c ++ option_to_list last) commands_are ∙ sym (call-finish (concat pieces) after last after_is finishes)

-- the other way round: the promises of the calls can be kept, on each piece
unended-call : (line piece : List ℕ) → length piece ≤ end_at piece → CallFeeds (kept_of line) piece (length piece, None)
    (kept_of (line ++ piece))
unended-call line piece none other same =
    subst (λ (o : Option ℕ). MatchOption o (SaysUnended other piece (length piece, None) (kept_of (line ++ piece)))
    (SaysEnded other piece (length piece, None) (kept_of (line ++ piece)))) (sym (ends-not piece none))
    (refl, kept_of-kept line other piece same)

ended-call : (line piece : List ℕ) → end_at piece < length piece → CallFeeds (kept_of line) piece
    (end_at piece + 1, Some (command_of (line ++ take (end_at piece) piece))) (kept_of [])
ended-call line piece some other same =
    let result : ℕ × Option Command = (end_at piece + 1, Some (command_of (line ++ take (end_at piece) piece))) in
    subst (λ (o : Option ℕ). MatchOption o (SaysUnended other piece result (kept_of [])) (SaysEnded other piece result (kept_of [])))
    (sym (ends piece some))
    (ap (λ (c : Command). (end_at piece + 1, Some c)) (command_of-kept line other (take (end_at piece) piece) same), refl)

without-end : (line piece : List ℕ) → Unbroken line → length piece ≤ end_at piece
    → FedPiece (kept_of line) piece (whole_commands (line ++ piece)) (kept_of (unfinished_line (line ++ piece)))
without-end line piece unbroken none =
    let (commands_are, after_is) = gives-unended line piece (kept_of (line ++ piece)) unbroken none refl in
    let fed : FedPiece (kept_of line) piece [] (kept_of (line ++ piece)) = inr (unended-call line piece none) in
    subst (λ (o : Option (List ℕ)). FedPiece (kept_of line) piece (whole_commands (line ++ piece)) o) after_is
    (subst (λ (c : List Command). FedPiece (kept_of line) piece c (kept_of (line ++ piece))) commands_are fed)

can-feed : (n : ℕ) (line piece : List ℕ) → length piece ≤ n → Unbroken line
    → FedPiece (kept_of line) piece (whole_commands (line ++ piece)) (kept_of (unfinished_line (line ++ piece)))
can-feed zero line piece short unbroken =
    elim (cases_lt (end_at piece) (length piece)) [
      | inl some ↦ absurd (omega arith)
      | inr none ↦ without-end line piece unbroken none
    ]
can-feed (suc n) line piece short unbroken =
    elim (cases_lt (end_at piece) (length piece)) [
      | inl some ↦
          let rest : List ℕ = drop (end_at piece + 1) piece in
          let first : List ℕ = line ++ take (end_at piece) piece in
          let (whole, last) = ended-lines (line ++ piece) first rest (parts-ended line piece unbroken some) in
          let later = can-feed n [] rest (omega (arith, length-drop (end_at piece + 1) piece)) (All-nil (λ c. is_end c ≡ false)) in
          let fed : FedPiece (kept_of line) piece (map command_of (first ∷ whole_lines rest)) (kept_of (unfinished_line rest)) =
          (end_at piece + 1, kept_of [], ended-call line piece some, later) in
          subst (λ (o : Option (List ℕ)). FedPiece (kept_of line) piece (whole_commands (line ++ piece)) o)
          (ap (λ (l : List ℕ). kept_of l) (sym last))
          (subst (λ (w : List (List ℕ)). FedPiece (kept_of line) piece (map command_of w) (kept_of (unfinished_line rest))) (sym whole) fed)
      | inr none ↦ without-end line piece unbroken none
    ]

pieces-can : (pieces : List (List ℕ)) (line : List ℕ) → Unbroken line → FedPieces (kept_of line) pieces
    (whole_commands (line ++ concat pieces)) (kept_of (unfinished_line (line ++ concat pieces)))
pieces-can [] line unbroken =
    let (commands_are, after_is) = gives-unended line [] (kept_of (line ++ [])) unbroken (omega arith) refl in
    (sym commands_are, sym after_is ∙ ap (λ (l : List ℕ). kept_of l) (append-nil line))
pieces-can (piece ∷ pieces) line unbroken =
    let left : List ℕ = unfinished_line (line ++ piece) in
    let (whole, last, lines) = joined (line ++ piece) (concat pieces) in
    let bytes = sym (append_assoc line piece (concat pieces)) in
    let first : List Command = map command_of (whole_lines (line ++ piece)) in
    let rest : List Command = map command_of (whole_lines (left ++ concat pieces)) in
    let split : map command_of (whole_lines (line ++ (piece ++ concat pieces))) ≡ first ++ rest =
    ap (λ (b : List ℕ). map command_of (whole_lines b)) bytes ∙ ap (λ (w : List (List ℕ)). map command_of w) whole
    ∙ map-append command_of (whole_lines (line ++ piece)) (whole_lines (left ++ concat pieces)) in
    let end : kept_of (unfinished_line (left ++ concat pieces)) ≡ kept_of (unfinished_line (line ++ (piece ++ concat pieces))) =
    sym (ap (λ (b : List ℕ). kept_of (unfinished_line b)) bytes ∙ ap (λ (l : List ℕ). kept_of l) last) in (
      first,
      rest,
      kept_of left,
      split,
      can-feed (length piece) line piece (omega arith) unbroken,
      subst (λ (o : Option (List ℕ)). FedPieces (kept_of left) pieces rest o) end
          (pieces-can pieces left (unfinished-unbroken (line ++ piece))),
    )

pub can-be-fed : PiecesCanBeFed
can-be-fed pieces = pieces-can pieces [] (All-nil (λ c. is_end c ≡ false))
