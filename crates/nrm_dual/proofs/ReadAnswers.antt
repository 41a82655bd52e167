-- What is answered on the sheet that the lines give is what the file gives, and has its shape.
use Rattle.std.proofs.Common.{◌≡◌, ℕ, ◌≤◌, List, length, false, Ok, Err, nat_lt, arith, sym, ap, ◌∙◌, subst}
use Rattle.std.specs.Prelude.{Option, Some, None, Result, IfOk, if◌then◌else◌}
use Rattle.std.specs.Option.{option_map}
use Rattle.std.proofs.lemmas.Bool.Decides.{nat_tests}
use Rattle.std.proofs.lemmas.Option.{same_Some}
use Rattle.nrm_fraction.specs.Large.{size_limit}
use Rattle.nrm_model.specs.Network.{NetworkValue}
use Rattle.nrm_stream.specs.Lines.{lines_of}
use Rattle.nrm_lp.specs.declared.certificate.Certificate.{Certificate}
use Rattle.nrm_lp.specs.Shape.{HasShape}
use Rattle.nrm_dual.specs.declared.fault.CertFault.{CertFault}
use Rattle.nrm_dual.specs.Refusals.{AnswersCertificate, CertRefusal, IsRefusedFor, refusal_of, too_long}
use Rattle.nrm_dual.specs.Reading.{Sheet, after_lines, blank, certificate_of, certificate_on, or_refusal}
use Rattle.nrm_dual.specs.Inner.Sheets.{Refuses, certificate_in}
use Rattle.nrm_dual.proofs.ReadShape.{read_shaped}

not_long : (n : ℕ) → n ≤ 65536 → nat_lt 65536 n ≡ false
not_long n l = grind (arith, nat_tests)

module _ (net : NetworkValue) (bytes : List ℕ) (sheet : Sheet) (histories : ℕ) (result : Result Certificate CertFault) (short : length bytes ≤ 65536) (are : histories ≡ net.histories) (lines : after_lines net (blank net) 1 (lines_of bytes) ≡ Ok sheet) (answer : AnswersCertificate result (certificate_in histories sheet)) where
  file_is : certificate_of net bytes ≡ certificate_in histories sheet
  file_is =
      ap (λ long. if long then Err too_long else or_refusal (after_lines net (blank net) 1 (lines_of bytes)) (certificate_on net)) (not_long (length bytes) short)
      ∙ ap (λ r. or_refusal r (certificate_on net)) lines
      ∙ ap (λ n. certificate_in n sheet) (sym are)

  pub file_answer : AnswersCertificate result (certificate_of net bytes)
  file_answer = subst (AnswersCertificate result) (sym file_is) answer

pub answer_shaped : (net : NetworkValue) (bytes : List ℕ) (result : Result Certificate CertFault)
    → AnswersCertificate result (certificate_of net bytes) → IfOk result (HasShape size_limit (length net.products) (length net.legs))
answer_shaped net bytes (Ok certificate) read = read_shaped net bytes certificate read
answer_shaped net bytes (Err cause) read = tt

-- lines that are refused refuse the file
refused_on : (refusal : Option CertRefusal) (read : Result Sheet CertRefusal) (next : Sheet → Result Certificate CertRefusal) (file : Result Certificate CertRefusal)
    → Some read ≡ option_map Err refusal → file ≡ or_refusal read next → IsRefusedFor refusal file
refused_on None read next file e is = tt
refused_on (Some refusal) read next file e is = is ∙ ap (λ r. or_refusal r next) (same_Some read (Err refusal) e)

pub lines_refuse : (net : NetworkValue) (bytes : List ℕ) (cause : CertFault) → length bytes ≤ 65536
    → Refuses cause (after_lines net (blank net) 1 (lines_of bytes)) → AnswersCertificate (Err cause) (certificate_of net bytes)
lines_refuse net bytes cause short e =
    refused_on (refusal_of cause) (after_lines net (blank net) 1 (lines_of bytes)) (certificate_on net) (certificate_of net bytes) e
    (ap (λ long. if long then Err too_long else or_refusal (after_lines net (blank net) 1 (lines_of bytes)) (certificate_on net)) (not_long (length bytes) short))
