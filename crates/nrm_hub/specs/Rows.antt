-- Rows of the journal: one for each line that may have changed something, with its reply.
use Rattle.std.specs.Prelude.{ℕ, ◌+◌, List, [], ◌∷◌, ◌++◌, decimal}
use Rattle.nrm_stream.specs.Commands.{command_text}
use Rattle.nrm_stream.specs.declared.command.Command.{Command}
use Rattle.nrm_session.specs.Replies.{Reply, text_of}

-- a desk by its name, the desk's own number of the line, the command and its reply
pub record Entry : Type 0 where
  pub desk : List ℕ
  pub sequence : ℕ
  pub command : Command
  pub reply : Reply

-- a row: its number, the desk, the desk's own number, the line and the reply, with a tab between each two; the reply brings the line feed
abbrev pub row_text : ℕ → List ℕ → ℕ → Command → Reply → List ℕ
row_text number desk sequence c reply =
    decimal number ++ 9 ∷ desk ++ 9 ∷ decimal sequence ++ 9 ∷ command_text c ++ 9 ∷ text_of reply

-- rows behind so many others
abbrev pub rows_text : ℕ → List Entry → List ℕ
rows_text before [] = []
rows_text before (entry ∷ more) =
    row_text (before + 1) entry.desk entry.sequence entry.command entry.reply ++ rows_text (before + 1) more
