-- What a certificate file is refused for, and what is written of a certificate.
use Rattle.std.specs.Prelude.{ℕ, List, [], ◌∷◌, decimal, codes, Option, Some, None, Result, Ok, Err}
use Rattle.nrm_text.specs.Words.{text_line}
use Rattle.nrm_model.specs.Network.{NetworkValue, leg_of, product_of}
use Rattle.nrm_lp.specs.declared.certificate.Certificate.{Certificate}
use Rattle.nrm_dual.specs.Reading.{certificate_of}
use Rattle.nrm_dual.specs.Refusals.{CertRefusal, too_long, bad_line, large_line, no_value, no_product, no_leg, too_fine}
use Rattle.nrm_dual.specs.declared.verdict.Verdict.{Verdict}
use Rattle.nrm_dual.specs.declared.verdict.Verdict.TheVariants as verdict

-- why there is no certificate: no file of the name, or what the file is refused for
pub data LacksCertificate : Type 0 where
  no_certificate : LacksCertificate
  refused_for : CertRefusal → LacksCertificate

-- the certificate of what stands under a name, or why there is none
abbrev pub certificate_in : Result Certificate CertRefusal → Result Certificate LacksCertificate
certificate_in (Ok certificate) = Ok certificate
certificate_in (Err cause) = Err (refused_for cause)

abbrev pub certificate_under : NetworkValue → Option (List ℕ) → Result Certificate LacksCertificate
certificate_under net None = Err no_certificate
certificate_under net (Some bytes) = certificate_in (certificate_of net bytes)

-- the words of a refusal
abbrev pub refusal_words : NetworkValue → CertRefusal → List (List ℕ)
refusal_words net too_long = codes "long" ∷ []
refusal_words net (bad_line number) = codes "line" ∷ decimal number ∷ []
refusal_words net (large_line number) = codes "line" ∷ decimal number ∷ codes "large" ∷ []
refusal_words net no_value = codes "no" ∷ codes "value" ∷ []
refusal_words net (no_product product) = codes "no" ∷ codes "product" ∷ (product_of net product).name ∷ []
refusal_words net (no_leg leg) = codes "no" ∷ codes "leg" ∷ (leg_of net leg).name ∷ []
refusal_words net too_fine = codes "too" ∷ codes "fine" ∷ []

-- the line that says why there is no certificate
abbrev pub lacking_line : NetworkValue → LacksCertificate → List ℕ
lacking_line net no_certificate = codes "refused certificate no file\n"
lacking_line net (refused_for cause) = text_line (codes "refused" ∷ codes "certificate" ∷ refusal_words net cause)

-- the line of a verdict
abbrev pub verdict_line : NetworkValue → Verdict → List ℕ
verdict_line net verdict.Optimal = codes "optimal\n"
verdict_line net verdict.WrongShape = codes "wrong shape\n"
verdict_line net (verdict.WrongProduct product) = text_line (codes "wrong" ∷ codes "product" ∷ (product_of net product).name ∷ [])
verdict_line net (verdict.WrongLeg leg) = text_line (codes "wrong" ∷ codes "leg" ∷ (leg_of net leg).name ∷ [])
verdict_line net verdict.WrongValue = codes "wrong value\n"
