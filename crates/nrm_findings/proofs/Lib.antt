pub mod Examples  -- what is written of certificates, of legs and of made runs, worked by hand
pub mod LegClasses  -- where a leg has no points, and which products are in its classes
pub mod LegMeans  -- the fraction that `dp` writes is the best mean over all seasons
pub mod LegTables  -- the rows of the table of a leg's values, and its protections
pub mod LegTexts  -- the lines that tell of a leg, piece by piece
pub mod OneLegText  -- what is told of a leg is determined
pub mod ProgramOfNetwork  -- the program of a network has its products and its legs
pub mod SummaryWords  -- the words of a summary, one after another
