-- A stream that comes in pieces, however it is cut.
use Rattle.std.specs.Prelude.{ℕ, ◌≡◌, ◌⊎◌, List, [], ◌∷◌, ◌++◌, length, drop, Option, Some, None}
use Rattle.std.specs.List.{concat}
use Rattle.std.specs.Option.{option_to_list}
use Rattle.nrm_stream.specs.Lines.{whole_lines, unfinished_line, lines_of}
use Rattle.nrm_stream.specs.Commands.{commands_of, whole_commands}
use Rattle.nrm_stream.specs.Splitting.{Feeds, finished, kept_of}
use Rattle.nrm_stream.specs.declared.command.Command.{Command}

-- the lines of joined bytes: the whole lines of the first, and then those of its unfinished line with the second
abbrev pub LinesOfJoined : Type 0
LinesOfJoined = (xs ys : List ℕ) → (whole_lines (xs ++ ys) ≡ whole_lines xs ++ whole_lines (unfinished_line xs ++ ys))
    × (unfinished_line (xs ++ ys) ≡ unfinished_line (unfinished_line xs ++ ys))
    × (lines_of (xs ++ ys) ≡ whole_lines xs ++ lines_of (unfinished_line xs ++ ys))

-- what one call of `feed` promises, from what is kept before it to what is kept after it
abbrev pub CallFeeds : Option (List ℕ) → List ℕ → ℕ × Option Command → Option (List ℕ) → Type 0
CallFeeds before piece result after = (line : List ℕ) → before ≡ kept_of line → Feeds line piece result after

-- calls of `feed` on a piece, each on what the one before it left, gave these commands, and used the piece up
abbrev pub FedPiece : Option (List ℕ) → List ℕ → List Command → Option (List ℕ) → Type 0
FedPiece before piece [] after = ((piece ≡ []) × (after ≡ before)) ⊎ CallFeeds before piece (length piece, None) after
FedPiece before piece (command ∷ more) after =
    (used : ℕ) × (middle : Option (List ℕ)) × CallFeeds before piece (used, Some command) middle
    × FedPiece middle (drop used piece) more after

-- so fed, these pieces gave these commands, one after another
abbrev pub FedPieces : Option (List ℕ) → List (List ℕ) → List Command → Option (List ℕ) → Type 0
FedPieces before [] commands after = (commands ≡ []) × (after ≡ before)
FedPieces before (piece ∷ pieces) commands after =
    (first : List Command) × (rest : List Command) × (middle : Option (List ℕ)) × (commands ≡ first ++ rest)
    × FedPiece before piece first middle × FedPieces middle pieces rest after

-- what a call of `finish` promises
abbrev pub CallFinishes : Option (List ℕ) → Option Command → Type 0
CallFinishes before result = (line : List ℕ) → before ≡ kept_of line → result ≡ finished line

-- a new splitter that was fed pieces gave the commands of the whole lines so far, and stands for the unfinished line
abbrev pub PiecesGiveWholeLines : Type 0
PiecesGiveWholeLines = (pieces : List (List ℕ)) (commands : List Command) (after : Option (List ℕ))
    → FedPieces (kept_of []) pieces commands after
    → (commands ≡ whole_commands (concat pieces)) × (after ≡ kept_of (unfinished_line (concat pieces)))

-- and with what `finish` gives then, they are the commands of the whole stream, whatever the cut
abbrev pub PiecesGiveCommands : Type 0
PiecesGiveCommands = (pieces : List (List ℕ)) (commands : List Command) (after : Option (List ℕ)) (last : Option Command)
    → FedPieces (kept_of []) pieces commands after → CallFinishes after last → commands ++ option_to_list last ≡ commands_of (concat pieces)

-- every cut can be fed so: the promises of the calls can be kept
abbrev pub PiecesCanBeFed : Type 0
PiecesCanBeFed = (pieces : List (List ℕ)) → FedPieces (kept_of []) pieces (whole_commands (concat pieces))
    (kept_of (unfinished_line (concat pieces)))
