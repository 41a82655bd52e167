-- The limits of the programs that the code takes. The laws need none of them but `IsProgram`.
use Rattle.std.specs.Prelude.{ℕ, ◌<◌, ◌≤◌, [], length, get_or, slice_index}
use Rattle.nrm_lp.specs.declared.limits.TheConstants.{MOST_BOUNDS, MOST_CAPS, MOST_FARE, MOST_LEGS_OF_A_PRODUCT, MOST_SEATS_IN_ALL}
use Rattle.nrm_lp.specs.Program.{ProgramValue, IsProgram}

pub record IsLimited (a : ProgramValue) : Type 0 where
  pub some_caps : 1 ≤ length a.caps
  pub cap_count : length a.caps ≤ MOST_CAPS
  pub some_bounds : 1 ≤ length a.bounds
  pub bound_count : length a.bounds ≤ MOST_BOUNDS
  pub cap_size : (leg : ℕ) → leg < length a.caps → slice_index a.caps leg ≤ MOST_SEATS_IN_ALL
  pub bound_size : (product : ℕ) → product < length a.bounds → slice_index a.bounds product ≤ MOST_SEATS_IN_ALL
  pub some_fare : (product : ℕ) → product < length a.bounds → 1 ≤ slice_index a.fares product
  pub fare_size : (product : ℕ) → product < length a.bounds → slice_index a.fares product ≤ MOST_FARE
  pub some_leg : (product : ℕ) → product < length a.bounds → 1 ≤ length (get_or a.legs product [])
  pub leg_count : (product : ℕ) → product < length a.bounds → length (get_or a.legs product []) ≤ MOST_LEGS_OF_A_PRODUCT
  pub products : IsProgram a
