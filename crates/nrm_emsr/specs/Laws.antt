-- What the number of seats that is enough means.
use Rattle.std.specs.Prelude.{ℕ, ◌≡◌, ◌<◌, true, false, min}
use Rattle.nrm_model.specs.Network.{NetworkValue, leg_of}
use Rattle.nrm_lp.specs.declared.certificate.Certificate.{Certificate}
use Rattle.nrm_emsr.specs.Fares.{weight_of}
use Rattle.nrm_emsr.specs.Protections.{seats_enough, suffices}

-- where c seats suffice for buckets 1 to this one and no lower number does, the number that is enough is c, or the leg's authorised seats
-- where they are fewer
abbrev pub EnoughIsLeast : Type 0
EnoughIsLeast = (net : NetworkValue) (cert : Certificate) (leg period bucket c : ℕ) → 0 < weight_of net cert leg period 1 bucket
    → suffices net cert leg period bucket c ≡ true → ((y : ℕ) → y < c → suffices net cert leg period bucket y ≡ false)
    → seats_enough net cert leg period bucket ≡ min (leg_of net leg).authorised c

-- and some number suffices: as many seats as there is demand for those buckets in all histories together
abbrev pub WholeDemandSuffices : Type 0
WholeDemandSuffices = (net : NetworkValue) (cert : Certificate) (leg period bucket : ℕ)
    → suffices net cert leg period bucket (weight_of net cert leg period 1 bucket) ≡ true
