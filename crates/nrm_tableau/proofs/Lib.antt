pub mod Filling  -- entries put one by one, and the row that they make
pub mod FirstEntries  -- the entries that the first rows are made of
pub mod Turns  -- the steps of the walks that find the entering column and the leaving row
pub mod Faults  -- the first Large row of rows that are made in turn, and the rows after a pivot
pub mod Paths  -- what is known of a table on its program's path, its entering column and its leaving row
pub mod LastRows  -- what is read from the rows of a last tableau
pub mod LastValue  -- a last tableau's certificate is made of the parts that are read from it
pub mod Changing  -- rows that change in their places
pub mod Combined  -- the rows of a walk that takes the unit row away from them
pub mod RowBits  -- sets of rows by their bits: a row put in, and two sets joined
pub mod Sets  -- the sets of the first tableau's columns, those after a pivot, and what a row outside of one shows
pub mod Pivots  -- what is known before a pivot, which number of it is too large, and the table and the sets after it
pub mod Walks  -- walks over the words of a set of rows
