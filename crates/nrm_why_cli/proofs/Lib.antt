pub mod Ending  -- how a call ends, out of how its parts went
pub mod Counts  -- which counts of faults stay, and that none falls
pub mod Complete  -- if the words are good, the file is valid, the stream isn't too long and nothing failed, the account comes
