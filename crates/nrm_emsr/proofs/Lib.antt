pub mod Nests  -- a leg's products in some of its buckets: one product more, one bucket more, and the definitions' lists of products
pub mod Come  -- demand to come, history by history: how large it gets, and a list of it when some more is added
pub mod Means  -- mean fares: their bounds, that of one bucket more, and those of the definitions
pub mod Places  -- counts over falling numbers, and the greatest count that passes a test
pub mod Least  -- the first number that passes a test
pub mod Signs  -- which fares aren't negative: those of the buckets above the last
pub mod Crossing  -- the comparison of two fractions is that of their parts, multiplied across
pub mod Whole  -- the whole demand of the buckets suffices: no history is over it, and the next bucket's fare isn't negative
pub mod HubExamples  -- the protections of a small hub over two periods, at opening and in the second period
pub mod SeatlessNests  -- the buckets and protections of two networks that differ in their physical seats alone
