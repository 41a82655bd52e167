-- What is written of a closing is read again as that closing.
use Rattle.std.specs.Prelude.{ℕ, ◌≡◌, List, length, nat_abs, Ok}
use Rattle.nrm_fraction.specs.Large.{gcd_all, size_limit}
use Rattle.nrm_model.specs.Network.{NetworkValue}
use Rattle.nrm_model.specs.Limits.{IsNetwork}
use Rattle.nrm_lp.specs.declared.certificate.Certificate.{Certificate}
use Rattle.nrm_lp.specs.Program.{ProgramValue, IsProgram}
use Rattle.nrm_lp.specs.Shape.{HasShape}
use Rattle.nrm_lp.specs.Tableau.{Tableau}
use Rattle.nrm_lp.specs.Closing.{certificate}
use Rattle.nrm_lp.specs.Overflow.{Closes}
use Rattle.nrm_dual.specs.Reading.{certificate_of}
use Rattle.nrm_dual.specs.Texts.{certificate_text}

-- 1 alone divides q and the whole allocation, and 1 alone divides den and all bid prices
pub record IsLowest (c : Certificate) : Type 0 where
  pub allocation : gcd_all (nat_abs c.q) c.x ≡ 1
  pub prices : gcd_all (nat_abs c.den) c.p ≡ 1

-- the text of a certificate in lowest terms is read as that certificate
abbrev pub WrittenIsRead : Type 0
WrittenIsRead = (net : NetworkValue) → IsNetwork net → (c : Certificate) → HasShape size_limit (length net.products) (length net.legs) c
    → IsLowest c → certificate_of net (certificate_text net c) ≡ Ok c

-- and so is the text of a closing, of a program with the network's legs and products
abbrev pub ClosingsAreRead : Type 0
ClosingsAreRead = (net : NetworkValue) → IsNetwork net → (a : ProgramValue) → IsProgram a
    → length a.bounds ≡ length net.products → length a.caps ≡ length net.legs
    → (n : ℕ) (t : Tableau) → Closes size_limit a n t
    → certificate_of net (certificate_text net (certificate a t)) ≡ Ok (certificate a t)

-- a certificate that is read has the shape of the network's
abbrev pub ReadIsShaped : Type 0
ReadIsShaped = (net : NetworkValue) → IsNetwork net → (bytes : List ℕ) (c : Certificate) → certificate_of net bytes ≡ Ok c
    → HasShape size_limit (length net.products) (length net.legs) c
