-- A line of two words or more that begins with none of the known ones is bad.
use Rattle.std.proofs.Common.{ℕ, ◌==◌, ◌∙◌, sym, ap}
use Rattle.std.specs.List.{slice_split}
use Rattle.nrm_stream.specs.Commands.{command_of_words}
use Rattle.nrm_stream.proofs.Cuts.{some-parts}
use Rattle.nrm_stream.proofs.FirstWords.{unknown-word}
use Rattle.nrm_stream.proofs.parse.command_by_words.Goals as goal

pub returns-else-is_word-4-clause-command : goal.returns-else-is_word-4-clause-command
returns-else-is_word-4-clause-command c =
    let is_space = λ (b : ℕ). b == 32 in
    let word = c.in-Some.word.now in
    let rest = c.in-Some.rest.now in
    sym (ap command_of_words c.in-Some.ensures.0 ∙ unknown-word word (slice_split is_space rest) (some-parts is_space rest)
    (sym c.if-is_word.ensures) (sym c.if-is_word-2.ensures) (sym c.if-is_word-3.ensures) (sym c.if-is_word-4.ensures))
