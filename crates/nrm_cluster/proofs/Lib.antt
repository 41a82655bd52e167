pub mod Bounds  -- what divisions cost at most
pub mod Choices  -- from the table to the chosen division, and the walk over its lengths
pub mod Columns  -- the columns of the table: their cells are those of the best divisions
pub mod Examples  -- four fares of a leg by hand, in one group, two and ten
pub mod Growing  -- a piece that grows: its sums, its middle and its cost
pub mod Medians  -- the centre of a piece is a best one
pub mod Nearest  -- no grouping costs less than some division
pub mod Sums  -- sums over places, and the first number that passes
pub mod Tables  -- the best of the table is the chosen division, and there is only one
pub mod Thresholds  -- the thresholds of a division group the values as it does
pub mod Values  -- a fare more among falling values
pub mod Walks  -- the loops over the pieces of a division
