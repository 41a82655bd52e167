-- No known word begins with the first byte.
use Rattle.std.proofs.Common.{sym}
use Rattle.nrm_stream.proofs.FirstWords.{empty-line, unknown-line}
use Rattle.nrm_stream.proofs.parse.command_in_words.Goals as goal

pub returns-else-begins_word-clause-command : goal.returns-else-begins_word-clause-command
returns-else-begins_word-clause-command c =
    sym (unknown-line c.in-Some.first.now c.args.line.now _ c.in-Some.ensures.cases.0 (sym c.if-begins_word.ensures))

pub returns-in_default-clause-command : goal.returns-in_default-clause-command
returns-in_default-clause-command c = sym (empty-line c.args.line.now c.in_default.ensures.cases)
