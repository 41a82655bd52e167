pub mod CsvRows  -- the rows that a reader took one after another are the records of the text
pub mod LineRows  -- the records of a text without a quote are its lines
pub mod Marks  -- a text after its byte order mark
pub mod LineCuts  -- a line is cut at its commas, byte by byte
pub mod FrontRows  -- fields at the front of a line, read off one after another
pub mod RowFields  -- the fields of a row, read one after another
pub mod NumberFields  -- numbers that are written in the fields of a row, and names that differ
pub mod ChecksByName  -- the eleven checks of a row by their names
pub mod CheckedRows  -- what the checks say of a row that none of them refuses
pub mod ChecksAfterShape  -- what a row's shape says of each kind, and what the checks after it decide
pub mod RefusalPlace  -- where a file is refused, by the rows that were accepted before
pub mod GoodRows  -- what holds of rows that were all taken grows row by row
pub mod Blocks  -- a list of pieces of one length, each of which adds up to 999 at most
pub mod PieceChange  -- a list of pieces of one length, where one piece changes
pub mod ReadNetwork  -- rows that were all taken give a network within the limits
pub mod DraftGrowth  -- a draft grows by a leg, by a product, or by the first row
pub mod DemandGrowth  -- a draft grows by a demand row
pub mod RefundGrowth  -- a draft grows by a refund row
pub mod ProductPlace  -- a product's name is found at its place in a draft
pub mod LegNames  -- legs by their numbers and by their names
pub mod PlainRows  -- rows of plain fields are read from their text as they were written
pub mod CanonicalRows  -- the rows of a canonical file are plain, and few enough
pub mod CanonicalChecks  -- no check refuses a row of a canonical file
pub mod CanonicalTaken  -- the rows of a canonical file are taken one after another
pub mod DemandRows  -- what tests find among the demand rows of a canonical file
pub mod RefundRows  -- the refund rows of a canonical file are taken, and give back the percentages
pub mod DemandBack  -- the demand rows of a canonical file give back the demand
pub mod CanonicalRead  -- the canonical file of a network is read as that network
pub mod RowTexts  -- the text of rows, written piece by piece
pub mod BackwardNumbers  -- the numbers of a demand row, written from the last to the first
pub mod CauseExamples  -- the text of each cause once, byte by byte
pub mod OnLiterals  -- what an answer unfolds to compute what a file gives, where the file is written down
pub mod Examples  -- files that are refused, and files that give a network
pub mod LongExamples  -- a file with one leg too many
