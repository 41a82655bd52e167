pub mod Prices  -- sums of bid prices, and how large they get
pub mod Written  -- lists in which some places are written, row by row
pub mod Tables  -- tables of buckets: what one has for a leg and a product, and what the list has that stores it
pub mod Examples  -- adjusted fares, buckets and tables that a reader can check by hand
