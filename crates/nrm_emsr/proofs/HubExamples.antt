-- The protections of a small hub over two periods, at opening and in the second period.
use Rattle.std.specs.Prelude.{◌≡◌, pos, [], ◌∷◌, codes, refl}
use Rattle.nrm_number.specs.Gcd.{gcd, in_lowest_terms}
use Rattle.nrm_fraction.specs.Fraction.{◌over◌, ◌*ᶠ◌, less, whole}
use Rattle.nrm_model.specs.Network.{NetworkValue}
use Rattle.nrm_lp.specs.declared.certificate.Certificate.{Certificate}
use Rattle.nrm_emsr.specs.Protections.{protections_of}

abbrev pub hub : NetworkValue
hub = record {
  histories = 2;
  periods = 2;
  legs = record { name = codes "NYC-CHI"; seats = 130; authorised = 130; cuts = 400 ∷ 150 ∷ [] } ∷ record { name = codes "BOS-CHI"; seats = 70; authorised = 70; cuts = 400 ∷ 150 ∷ [] } ∷ record { name = codes "CHI-LAX"; seats = 120; authorised = 120; cuts = 400 ∷ 150 ∷ [] } ∷ record { name = codes "CHI-SEA"; seats = 60; authorised = 60; cuts = 400 ∷ 150 ∷ [] } ∷ [];
  products = record { name = codes "NC-Y"; fare = 320; refund = 100; legs = 0 ∷ [] }
      ∷ record { name = codes "NC-Q"; fare = 110; refund = 100; legs = 0 ∷ [] }
      ∷ record { name = codes "BC-Y"; fare = 300; refund = 100; legs = 1 ∷ [] }
      ∷ record { name = codes "BC-Q"; fare = 95; refund = 100; legs = 1 ∷ [] }
      ∷ record { name = codes "CL-Y"; fare = 520; refund = 100; legs = 2 ∷ [] }
      ∷ record { name = codes "CL-Q"; fare = 180; refund = 100; legs = 2 ∷ [] }
      ∷ record { name = codes "NL-Y"; fare = 700; refund = 100; legs = 0 ∷ 2 ∷ [] }
      ∷ record { name = codes "NL-Q"; fare = 260; refund = 100; legs = 0 ∷ 2 ∷ [] }
      ∷ record { name = codes "BL-Q"; fare = 240; refund = 100; legs = 1 ∷ 2 ∷ [] }
      ∷ record { name = codes "CS-Y"; fare = 450; refund = 100; legs = 3 ∷ [] }
      ∷ record { name = codes "NS-Q"; fare = 230; refund = 100; legs = 0 ∷ 3 ∷ [] } ∷ [];
  demand = 10 ∷ 10 ∷ 12 ∷ 8 ∷ 20 ∷ 10 ∷ 24 ∷ 6 ∷ 8 ∷ 8 ∷ 6 ∷ 10 ∷ 15 ∷ 5 ∷ 18 ∷ 2 ∷ 15 ∷ 20 ∷ 10 ∷ 15 ∷ 40 ∷ 10 ∷ 45 ∷ 5 ∷ 10 ∷ 10 ∷ 8 ∷ 12 ∷ 25 ∷ 5 ∷ 30 ∷ 4 ∷ 20 ∷ 5 ∷ 22 ∷ 3 ∷ 12 ∷ 12 ∷ 10 ∷ 16 ∷ 15 ∷ 5 ∷ 12 ∷ 8 ∷ [];
}

-- only the leg to the west has a price
abbrev pub at_opening : Certificate
at_opening = record { q = pos 1; x = pos 40 ∷ pos 60 ∷ pos 32 ∷ pos 40 ∷ pos 60 ∷ pos 26 ∷ pos 40 ∷ pos 64 ∷ pos 50 ∷ pos 50 ∷ pos 40 ∷ []; den = pos 1; p = pos 0 ∷ pos 0 ∷ pos 180 ∷ pos 0 ∷ []; value = pos 157020 }

first_leg : protections_of hub at_opening 0 1 ≡ 20 ∷ 60 ∷ []
unfolding ◌over◌ ◌*ᶠ◌ less whole gcd in_lowest_terms
first_leg = refl

second_leg : protections_of hub at_opening 1 1 ≡ 0 ∷ 16 ∷ []
unfolding ◌over◌ ◌*ᶠ◌ less whole gcd in_lowest_terms
second_leg = refl

third_leg : protections_of hub at_opening 2 1 ≡ 55 ∷ 120 ∷ []
unfolding ◌over◌ ◌*ᶠ◌ less whole gcd in_lowest_terms
third_leg = refl

fourth_leg : protections_of hub at_opening 3 1 ≡ 24 ∷ 46 ∷ []
unfolding ◌over◌ ◌*ᶠ◌ less whole gcd in_lowest_terms
fourth_leg = refl

-- from the second period on, at a price of 240
abbrev pub later : Certificate
later = record { q = pos 1; x = pos 18 ∷ pos 16 ∷ pos 18 ∷ pos 7 ∷ pos 35 ∷ pos 0 ∷ pos 22 ∷ pos 9 ∷ pos 2 ∷ pos 28 ∷ pos 13 ∷ []; den = pos 1; p = pos 0 ∷ pos 0 ∷ pos 240 ∷ pos 0 ∷ []; value = pos 65595 }

third_leg_later : protections_of hub later 2 2 ≡ 30 ∷ 50 ∷ []
unfolding ◌over◌ ◌*ᶠ◌ less whole gcd in_lowest_terms
third_leg_later = refl
