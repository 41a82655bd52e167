-- Hindsight: the most that past requests could have earned, as the value of a program with a tally for each product.
use Rattle.std.specs.Prelude.{ℕ, ℤ, ◌≡◌, ◌<◌, ◌≤◌, ◌*◌, ◌≤ℤ◌, ◌*ℤ◌, pos, List, length, slice_index, nat_abs}
use Rattle.nrm_fraction.specs.Fraction.{Fraction, ◌over◌}
use Rattle.nrm_fraction.specs.Large.{size_limit}
use Rattle.nrm_model.specs.Network.{NetworkValue, least_authorised_of}
use Rattle.nrm_lp.specs.declared.certificate.Certificate.{Certificate}
use Rattle.nrm_lp.specs.Overflow.{Overflows}
use Rattle.nrm_lp.specs.Program.{IsAllocation, ProgramValue, gain}
use Rattle.nrm_simplex.specs.Solving.{IsClosing}
use Rattle.nrm_dlp.specs.Programs.{hindsight_program}

-- a tally for each product, none above the least authorised seats among the product's legs
pub record AreTallies (net : NetworkValue) (tallies : List ℕ) : Type 0 where
  pub products : length tallies ≡ length net.products
  pub seats : (product : ℕ) → product < length net.products → slice_index tallies product ≤ least_authorised_of net product

-- the value of hindsight at these tallies, in currency units: that of the closing of its program
pub record IsHindsight (net : NetworkValue) (tallies : List ℕ) (value : Fraction) : Type 0 where
  pub certificate : Certificate
  pub closing : IsClosing (hindsight_program net tallies) certificate
  pub value_is : value ≡ certificate.value over nat_abs certificate.den

-- there is none, since the program is Large: after n finished pivots, with this number
abbrev pub HindsightOverflows : NetworkValue → List ℕ → ℕ → ℤ → Type 0
HindsightOverflows net tallies n number = Overflows size_limit (hindsight_program net tallies) n number

-- no allocation of a program gains more than this fraction
abbrev pub BoundsAllocations : ProgramValue → Fraction → Type 0
BoundsAllocations a bound = (q : ℕ) (x : List ℕ) → IsAllocation a q x → pos (gain a x * bound.den) ≤ℤ (bound.num *ℤ pos q)

-- some allocation of a program gains exactly this fraction
pub record IsAttained (a : ProgramValue) (bound : Fraction) : Type 0 where
  pub q : ℕ
  pub x : List ℕ
  pub allocation : IsAllocation a q x
  pub gains : pos (gain a x * bound.den) ≡ bound.num *ℤ pos q
