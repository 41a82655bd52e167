pub mod Bits  -- what the code's numbers are at 64 and at 128 bits
pub mod Divisors  -- the greatest common divisor of a denominator and numbers, and these divided by it
pub mod LowestTerms  -- a row made of numbers over a denominator, in lowest terms
pub mod Combining  -- a row minus a multiple of the unit row, by the numbers x e - a u over one denominator
pub mod RatioLaws  -- ratios of two rows compared by their numbers: the denominators of the rows cancel
pub mod Entries  -- what a row's numbers are of its entries, and the signs of these
pub mod Filled  -- numbers written at their columns, one entry after another
pub mod InPlace  -- multiples taken away at some columns, one after another, and the list of these columns
