pub mod KeptRows  -- the rows of a book: one more, one less, and those of what was loaded
pub mod Again  -- the bookings of a book load again from their rows
pub mod Readings  -- the rows of a keeper after a call, however they are read
pub mod KeptRuns  -- commands that were answered with their bookings kept, one after another
pub mod Ahead  -- what is kept before a line is what the line makes of the book
pub mod Loads  -- rows that are loaded, one behind another
pub mod KeptLaws  -- sessions that keep their bookings are sessions without the lines that weren't carried out
pub mod Ending  -- how a call ends, out of how its parts went
pub mod Counts  -- which counts of files, stream and output stay
pub mod Complete  -- if nothing failed, the job is done
