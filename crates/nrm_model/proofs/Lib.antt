pub mod DemandLemmas  -- sums of demands
pub mod Examples  -- small networks that a reader can check by hand
pub mod Fits  -- the limits of a network as tests that compute, for networks that are written down
pub mod Inventories  -- what a network's inventory has of a leg or a product: one that was found, and one by its number
pub mod NameLemmas  -- a name's number: the place at which it is found
pub mod SeatLemmas  -- the least authorised seats of a few legs
pub mod Lists  -- lists that are worked out number by number
pub mod Used  -- the products that use a leg, product by product
pub mod SeatlessLegs  -- what two networks that differ in their physical seats alone have alike: all else of their legs
