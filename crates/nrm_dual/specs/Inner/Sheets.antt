-- The code's own terms for lines and sheets, in those of the reading.
use Rattle.std.specs.Prelude.{ℕ, ◌≡◌, ◌<◌, length, map, ⊤, Option, Some, None, Result, Ok, Err, if◌then◌else◌}
use Rattle.std.specs.Option.{option_map}
use Rattle.nrm_text.specs.declared.number.NumberFault.{NumberFault}
use Rattle.nrm_text.specs.declared.number.NumberFault.TheVariants.{Off, Over}
use Rattle.nrm_lp.specs.declared.certificate.Certificate.{Certificate}
use Rattle.nrm_model.specs.Network.{NetworkValue}
use Rattle.nrm_dual.specs.declared.fault.CertFault.{CertFault}
use Rattle.nrm_dual.specs.declared.fault.CertFault.TheVariants as fault
use Rattle.nrm_dual.specs.Refusals.{CertRefusal, refusal_of}
use Rattle.nrm_dual.specs.Reading.{Place, the_value, of_product, of_leg, Sheet, Written, is_over, certificate_or_refusal, first_missing}
use Rattle.nrm_dual.specs.Reading.{prices_in, times, whole_or_refusal}
use Rattle.nrm_dual.specs.declared.place.Place.{Place as Kept}
use Rattle.nrm_dual.specs.declared.place.Place.TheVariants as kept

-- the place that the code's stands for
abbrev pub meant : Kept → Place
meant kept.Value = the_value
meant (kept.Product product) = of_product product
meant (kept.Leg leg) = of_leg leg

-- a place that a network has
abbrev pub IsPlaceOf : NetworkValue → Kept → Type 0
IsPlaceOf net kept.Value = ⊤
IsPlaceOf net (kept.Product product) = product < length net.products
IsPlaceOf net (kept.Leg leg) = leg < length net.legs

-- a sheet with a row for each product and each leg
pub record IsSheetOf (net : NetworkValue) (sheet : Sheet) : Type 0 where
  pub products : length sheet.products ≡ length net.products
  pub legs : length sheet.legs ≡ length net.legs

-- a fraction that was written, unless there is none, or a number of it is over
abbrev pub fitting : Option Written → Result Written NumberFault
fitting None = Err Off
fitting (Some fraction) = if is_over fraction then Err Over else Ok fraction

-- the certificate of a sheet for so many histories, or what is missing on it
abbrev pub certificate_in : ℕ → Sheet → Result Certificate CertRefusal
certificate_in histories sheet =
    whole_or_refusal sheet.value (first_missing 0 sheet.products) (first_missing 0 sheet.legs)
    (certificate_or_refusal (map (times histories) sheet.products) (times histories sheet.value) (prices_in sheet))

-- what lines are refused for is what a call's fault tells; such a call wants no memory
abbrev pub Refuses : {A : Type 0} → CertFault → Result A CertRefusal → Type 0
Refuses cause read = Some read ≡ option_map Err (refusal_of cause)

-- the fault of a line of this number, by that of its fraction
abbrev pub fault_at : ℕ → NumberFault → CertFault
fault_at number Off = fault.Line number
fault_at number Over = fault.Large number
