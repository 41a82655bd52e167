pub mod Examples  -- lines and their headers, bytes and their frames, and frames that are written, which a reader can check by hand
pub mod Fronts  -- the frames of a front of some bytes are the first frames of the whole
pub mod Lines  -- the first line of some bytes, and what is cut off with it
pub mod Words  -- lines of too many words
