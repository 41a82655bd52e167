-- Why a file gives no certificate, and what a call's answer says of the file.
use Rattle.std.specs.Prelude.{ℕ, ◌≡◌, ⊤, Option, Some, None, Result, Ok, Err}
use Rattle.nrm_fraction.specs.declared.fault.RowFault.{RowFault}
use Rattle.nrm_fraction.specs.declared.fault.RowFault.TheVariants as row
use Rattle.nrm_lp.specs.declared.certificate.Certificate.{Certificate}
use Rattle.nrm_dual.specs.declared.fault.CertFault.{CertFault}
use Rattle.nrm_dual.specs.declared.fault.CertFault.TheVariants as fault

-- why a file gives no certificate
pub data CertRefusal : Type 0 where
  too_long : CertRefusal
  bad_line : ℕ → CertRefusal
  large_line : ℕ → CertRefusal
  no_value : CertRefusal
  no_product : ℕ → CertRefusal
  no_leg : ℕ → CertRefusal
  too_fine : CertRefusal

-- the refusal that a call's fault tells; that memory ran out tells none
abbrev pub refusal_of : CertFault → Option CertRefusal
refusal_of fault.Long = Some too_long
refusal_of (fault.Line number) = Some (bad_line number)
refusal_of (fault.Large number) = Some (large_line number)
refusal_of fault.NoValue = Some no_value
refusal_of (fault.NoProduct product) = Some (no_product product)
refusal_of (fault.NoLeg leg) = Some (no_leg leg)
refusal_of fault.TooFine = Some too_fine
refusal_of fault.NoMemory = None

-- why a file gives no certificate, where its fractions aren't brought over one denominator
abbrev pub cause_of : RowFault → CertFault
cause_of (row.Large number) = fault.TooFine
cause_of row.NoMemory = fault.NoMemory

-- the file is refused for this; where nothing was told it may be what it will
abbrev pub IsRefusedFor : {A : Type 0} → Option CertRefusal → Result A CertRefusal → Type 0
IsRefusedFor (Some refusal) file = file ≡ Err refusal
IsRefusedFor None file = ⊤

-- the answer of a call is what the file gives; running out of memory is free
abbrev pub AnswersCertificate : Result Certificate CertFault → Result Certificate CertRefusal → Type 0
AnswersCertificate (Ok certificate) file = file ≡ Ok certificate
AnswersCertificate (Err cause) file = IsRefusedFor (refusal_of cause) file
