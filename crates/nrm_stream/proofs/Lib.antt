pub mod Calls  -- what a call of `feed` and one of `finish` add to the commands so far
pub mod Cuts  -- bytes cut at the first byte that passes a test, and the lines that come of it
pub mod Examples  -- lines and their commands, which a reader can check by hand
pub mod FirstWords  -- what more than three words ask for, and the words after `book` and after `cancel`
pub mod JoinedLines  -- the lines of joined bytes
pub mod KeptOfSomeLine  -- what a splitter keeps is what is kept of some line
pub mod LongLines  -- a line of more than 22 bytes is bad
pub mod Pieces  -- however a stream is cut, feeding its pieces gives the same commands
pub mod Searches  -- the place of a byte, where it is known that none comes before some place
pub mod Written  -- the words of a command are read as it
