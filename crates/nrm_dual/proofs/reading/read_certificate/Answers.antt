-- A file that is too long, whose lines refuse it, or whose sheet gives no certificate is refused as defined; else it gives its own.
use Rattle.std.proofs.Common.{◌≡◌, arith, Ok}
use Rattle.nrm_stream.specs.Lines.{lines_of}
use Rattle.nrm_dual.specs.Refusals.{AnswersCertificate}
use Rattle.nrm_dual.specs.Reading.{after_lines, blank, certificate_of}
use Rattle.nrm_dual.proofs.NamedIsThere.{answer_named}
use Rattle.nrm_dual.proofs.ReadAnswers.{file_answer, answer_shaped, lines_refuse}
use Rattle.nrm_dual.proofs.TooFine.{err_answer}
use Rattle.nrm_dual.specs.Inner.Sheets.{Refuses}
use Rattle.nrm_dual.proofs.reading.read_certificate.Goals as goal

pub returns-clause-file : goal.returns-clause-file
returns-clause-file c =
    let lines : after_lines c.args.net.now (blank c.args.net.now) 1 (lines_of c.args.bytes.now) ≡ Ok c.read_lines.new.sheet = rw c.in_ok-sheet.ensures at c.in_ok-read_lines.ensures.lines in
    file_answer c.args.net.now c.args.bytes.now c.read_lines.new.sheet c.n-histories.result c.certificate_on.result (omega arith) c.n-histories.ensures.histories lines c.certificate_on.ensures

pub returns-clause-shaped : goal.returns-clause-shaped
returns-clause-shaped c =
    let lines : after_lines c.args.net.now (blank c.args.net.now) 1 (lines_of c.args.bytes.now) ≡ Ok c.read_lines.new.sheet = rw c.in_ok-sheet.ensures at c.in_ok-read_lines.ensures.lines in
    let file = file_answer c.args.net.now c.args.bytes.now c.read_lines.new.sheet c.n-histories.result c.certificate_on.result (omega arith) c.n-histories.ensures.histories lines c.certificate_on.ensures in
    answer_shaped c.args.net.now c.args.bytes.now c.certificate_on.result file

-- the lines refuse the file
refused : (c : goal.After-drop-sheet-inside-in_err-read_lines)
    → AnswersCertificate c.from_residual-in_err-read_lines.result (certificate_of c.args.net.now c.args.bytes.now)
refused c =
    let lines : Refuses c.in_err-read_lines.field-0.0 (after_lines c.args.net.now (blank c.args.net.now) 1 (lines_of c.args.bytes.now)) = rw c.in_ok-sheet.ensures at c.in_err-read_lines.ensures.lines in
    err_answer c.from_residual-in_err-read_lines.result c.in_err-read_lines.field-0.0 (certificate_of c.args.net.now c.args.bytes.now) c.from_residual-in_err-read_lines.ensures.1
    (lines_refuse c.args.net.now c.args.bytes.now c.in_err-read_lines.field-0.0 (omega arith) lines)

pub returns-in_err-read_lines-clause-file : goal.returns-in_err-read_lines-clause-file
returns-in_err-read_lines-clause-file c = refused c

pub returns-in_err-read_lines-clause-named : goal.returns-in_err-read_lines-clause-named
returns-in_err-read_lines-clause-named c = answer_named c.args.net.now c.args.bytes.now c.from_residual-in_err-read_lines.result (refused c)

pub returns-clause-named : goal.returns-clause-named
returns-clause-named c =
    let lines : after_lines c.args.net.now (blank c.args.net.now) 1 (lines_of c.args.bytes.now) ≡ Ok c.read_lines.new.sheet = rw c.in_ok-sheet.ensures at c.in_ok-read_lines.ensures.lines in
    let file = file_answer c.args.net.now c.args.bytes.now c.read_lines.new.sheet c.n-histories.result c.certificate_on.result (omega arith) c.n-histories.ensures.histories lines c.certificate_on.ensures in
    answer_named c.args.net.now c.args.bytes.now c.certificate_on.result file
