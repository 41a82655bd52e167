pub mod ListedLines  -- lines that are put for one number of a list after another
pub mod NestLines  -- what is looked up in the nests of a plan, and the line of a leg's protections
pub mod NumberedLines  -- lines that are put for one number after another are those of all numbers
pub mod SeatlessTexts  -- the texts of plans of two networks that differ in their physical seats alone
