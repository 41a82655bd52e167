-- Small linear programs that a reader can check by hand.
use Rattle.std.specs.Prelude.{[], ◌∷◌}
use Rattle.nrm_lp.specs.Program.{ProgramValue}

-- the opening program of the network of two legs and five products: 40 seats on each leg over four histories
abbrev pub two_legs_five_products_program : ProgramValue
two_legs_five_products_program = record {
  caps = 40 ∷ 40 ∷ [];
  bounds = 12 ∷ 28 ∷ 16 ∷ 32 ∷ 0 ∷ [];
  fares = 400 ∷ 150 ∷ 500 ∷ 80 ∷ 229 ∷ [];
  legs = (0 ∷ []) ∷ (0 ∷ []) ∷ (0 ∷ 1 ∷ []) ∷ (1 ∷ []) ∷ (0 ∷ 1 ∷ []) ∷ [];
}
