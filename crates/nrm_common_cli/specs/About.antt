-- What a program says of itself.
use Rattle.std.specs.Prelude.{ℕ, ◌≡◌, List, [], ◌∷◌, bytes_eq, codes, Option, Some, None, Result, Ok, Err, if◌then◌else◌}
use Rattle.std.specs.Io.KnownBytes.{Appends, Keeps}
use Rattle.nrm_edge.specs.Causes.{Rose}
use Rattle.nrm_edge.specs.Pieces.{AppendsCut}
use Rattle.nrm_text.specs.Words.{text_line}
use Rattle.nrm_common_cli.specs.declared.about.Question.{Question}
use Rattle.nrm_common_cli.specs.declared.about.Question.TheVariants as question
use Rattle.nrm_common_cli.specs.declared.about.TheConstants.{VERSION}

-- what the words ask of the program itself, where there is but one
abbrev pub question_of : List (List ℕ) → Option Question
question_of [] = None
question_of (word ∷ []) =
    if bytes_eq word (codes "--help") then Some question.Help
    else if bytes_eq word (codes "--version") then Some question.Version
    else None
question_of (word ∷ other ∷ more) = None

-- the text that answers it: the help as it is, or the line of name and version
abbrev pub text_of : List ℕ → List ℕ → Question → List ℕ
text_of name help question.Help = help
text_of name help question.Version = text_line (name ∷ VERSION.now ∷ [])

-- no text is asked for, and nothing was put; or it was put whole, or cut since the output failed
abbrev pub Answers : {F : Type 0} → Option (List ℕ) → Option (List ℕ) → Option (List ℕ) → ℕ → ℕ → Option (Result Unit F) → Type 0
Answers None held held' before now None = Keeps held held' × (now ≡ before)
Answers None held held' before now (Some told) = ⊥
Answers (Some text) held held' before now None = ⊥
Answers (Some text) held held' before now (Some (Ok done)) = Appends held held' text × (now ≡ before)
Answers (Some text) held held' before now (Some (Err failed)) = AppendsCut held held' text × Rose before now
