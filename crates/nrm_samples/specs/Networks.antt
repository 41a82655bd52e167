-- Small networks that a reader can check by hand.
use Rattle.std.specs.Prelude.{[], ◌∷◌, codes}
use Rattle.nrm_model.specs.Network.{NetworkValue}

-- two legs, a through product and a local one, and two histories of two periods
abbrev pub two_legs : NetworkValue
two_legs = record {
  histories = 2;
  periods = 2;
  legs = record { name = codes "AB"; seats = 3; authorised = 3; cuts = [] } ∷ record { name = codes "BC"; seats = 2; authorised = 2; cuts = [] } ∷ [];
  products = record { name = codes "THRU"; fare = 500; refund = 100; legs = 0 ∷ 1 ∷ [] } ∷ record { name = codes "LOC"; fare = 200; refund = 100; legs = 0 ∷ [] } ∷ [];
  demand = 1 ∷ 2 ∷ 0 ∷ 3 ∷ 4 ∷ 0 ∷ 5 ∷ 1 ∷ [];
}

-- the same with the last leg first in the through product's own order
abbrev pub two_legs_last_first : NetworkValue
two_legs_last_first = record {
  histories = 2;
  periods = 2;
  legs = two_legs.legs;
  products = record { name = codes "THRU"; fare = 500; refund = 100; legs = 1 ∷ 0 ∷ [] } ∷ record { name = codes "LOC"; fare = 200; refund = 100; legs = 0 ∷ [] } ∷ [];
  demand = two_legs.demand;
}

-- leg AB is overbooked by a seat, a seat of leg BC is held back, and a third at most is given back of the local product
abbrev pub two_legs_authorised : NetworkValue
two_legs_authorised = record {
  histories = 1;
  periods = 1;
  legs = record { name = codes "AB"; seats = 3; authorised = 4; cuts = [] } ∷ record { name = codes "BC"; seats = 2; authorised = 1; cuts = [] } ∷ [];
  products = record { name = codes "THRU"; fare = 500; refund = 100; legs = 0 ∷ 1 ∷ [] } ∷ record { name = codes "LOC"; fare = 199; refund = 33; legs = 0 ∷ [] } ∷ [];
  demand = 2 ∷ 3 ∷ [];
}

-- two legs with two thresholds each, five products and four histories of one period
abbrev pub two_legs_five_products : NetworkValue
two_legs_five_products = record {
  histories = 4;
  periods = 1;
  legs = record { name = codes "AB"; seats = 10; authorised = 10; cuts = 300 ∷ 100 ∷ [] } ∷ record { name = codes "BC"; seats = 10; authorised = 10; cuts = 300 ∷ 100 ∷ [] }
      ∷ [];
  products = record { name = codes "ABH"; fare = 400; refund = 100; legs = 0 ∷ [] } ∷ record { name = codes "ABL"; fare = 150; refund = 100; legs = 0 ∷ [] }
      ∷ record { name = codes "ACH"; fare = 500; refund = 100; legs = 0 ∷ 1 ∷ [] } ∷ record { name = codes "BCL"; fare = 80; refund = 100; legs = 1 ∷ [] }
      ∷ record { name = codes "ACL"; fare = 229; refund = 100; legs = 0 ∷ 1 ∷ [] } ∷ [];
  demand = 2 ∷ 4 ∷ 3 ∷ 3 ∷ 6 ∷ 8 ∷ 5 ∷ 9 ∷ 4 ∷ 2 ∷ 6 ∷ 4 ∷ 7 ∷ 9 ∷ 8 ∷ 8 ∷ 0 ∷ 0 ∷ 0 ∷ 0 ∷ [];
}
